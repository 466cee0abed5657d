use Rattle.std.proofs.Common.{sym, ◌∙◌}
use Rattle.live_monitor.proofs.Looking.{host_of}
use Rattle.live_monitor.proofs.members.attend.Goals as goal

pub report-requires-clause-host : goal.report-requires-clause-host
report-requires-clause-host g c = host_of c.args.members.now c.args.figure.now.host.0 c.requires.hosts (sym c.has.ensures ∙ c.if-not-has.false)
