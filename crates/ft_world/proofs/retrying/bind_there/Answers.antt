use Rattle.std.proofs.Common.{ℕ, List, [], ◌∷◌, ap, sym, ◌∙◌}
use Rattle.ft_report.specs.declared.reports.ReportLine.TheVariants as reports
use Rattle.script_clients.specs.Clients.{Client}
use Rattle.ft_world.proofs.CallLemmas.{none_of}
use Rattle.script_groups.specs.Lists.{same_some}
use Rattle.ft_world.proofs.RetryingLemmas.{bound_goes, busy_goes}
use Rattle.ft_world.proofs.retrying.bind_there.Goals as goal

pub bind-requires-clause-idle : goal.bind-requires-clause-idle
bind-requires-clause-idle c = λ d at. none_of d.call (sym (c.is_busy.ensures d at) ∙ c.if-is_busy.false)

pub returns-then-is_busy : goal.returns-then-is_busy
returns-then-is_busy c = λ d g calls at there.
    let same = same_some c.client_at.result.now d (sym c.client_at.ensures ∙ at) in
    busy_goes c.args.world.now c.args.client d c.args.group g c.in_ok-report.report calls (sym (c.is_busy.ensures d at) ∙ c.if-is_busy.true)
    (c.in_ok-report.ensures ∙ ap (λ (n : List ℕ). reports.Busy n ∷ []) (c.in_ok-client.ensures ∙ c.name.ensures ∙ ap (λ (x : Client). x.name) same))

pub returns-in-Ok : goal.returns-in-Ok
returns-in-Ok c = λ d g calls at there.
    bound_goes c.args.world.now c.args.client d c.args.group g c.in-Ok.report c.bind.new.world calls (sym (c.is_busy.ensures d at) ∙ c.if-is_busy.false)
    (c.in-Ok.ensures d g calls at there)
