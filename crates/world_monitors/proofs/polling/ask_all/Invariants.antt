use Rattle.std.proofs.Common.{◌≡◌, take}
use Rattle.world_monitors.proofs.PollingLemmas.{asked_to, printed_to}
use Rattle.world_monitors.proofs.polling.ask_all.Given as goal

-- those so far were asked, and it was printed
abbrev pub invariant-loop-host : goal.invariant-loop-host
invariant-loop-host l = record {
  world : l.world ≡ asked_to l.group l.name l.fn.world (take l.host-index l.hosts);
  report : l.report ≡ printed_to l.group l.name l.fn.world (take l.host-index l.hosts);
}
