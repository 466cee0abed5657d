use Rattle.std.proofs.Common.{sym, ap, ◌∙◌}
use Rattle.std.proofs.lemmas.Option.{slice_get_within}
use Rattle.std.specs.Prelude.{List, ℕ, [], ◌∷◌}
use Rattle.ft_report.specs.declared.reports.ReportLine.TheVariants as reports
use Rattle.script_world.specs.Worlds.{CanStart}
use Rattle.ft_world.proofs.CallLemmas.{busy_acts, each_get, none_of, started_acts}
use Rattle.ft_world.proofs.calls.call_from.Goals as goal

pub returns-then-is_busy : goal.returns-then-is_busy
returns-then-is_busy c = λ g calls there.
    let found = c.in-Some.ensures in
    busy_acts c.args.world.now c.args.client.now c.in-Some.place found.0 g c.args.op c.args.said c.in_ok-report.report calls
    found.1 (sym (c.is_busy.ensures found.0 found.2) ∙ c.if-is_busy.true)
    (c.in_ok-report.ensures ∙ ap (λ (n : List ℕ). reports.Busy n ∷ []) c.in_ok-client.ensures)

pub start-requires-clause-client : goal.start-requires-clause-client
start-requires-clause-client c =
    slice_get_within c.args.world.now.clients c.in-Some.place c.in-Some.ensures.0 c.in-Some.ensures.2

pub start-requires-clause-idle : goal.start-requires-clause-idle
start-requires-clause-idle c = λ d at. (
  none_of d.call (sym (c.is_busy.ensures d at) ∙ c.if-is_busy.false),
  each_get CanStart c.args.world.now.clients c.in-Some.place d c.requires.few at,
)

pub returns-in-Ok : goal.returns-in-Ok
returns-in-Ok c = λ g calls there.
    let found = c.in-Some.ensures in
    started_acts c.args.world.now c.start.new.world c.args.client.now c.in-Some.place found.0 g c.args.op c.args.said c.in-Ok.report calls
    found.1 (sym (c.is_busy.ensures found.0 found.2) ∙ c.if-is_busy.false)
    (c.in-Ok.ensures found.0 g calls found.2 there)
