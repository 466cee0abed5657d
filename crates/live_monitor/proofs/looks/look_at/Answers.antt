use Rattle.shared_group.specs.declared.calls.Call.TheVariants as calls
use Rattle.live_monitor.proofs.Ending.{none_other}
use Rattle.live_monitor.proofs.looks.look_at.Goals as goal

pub act-requires : goal.act-requires
act-requires g c = (c.requires.0, c.requires.1, c.requires.2, c.free_calls_may_be_made.ensures c.requires.0 c.requires.1 calls.Figures tt)

pub unreachable-requires : goal.unreachable-requires
unreachable-requires g c =
    let now = c.act.ensures c.requires.0 c.requires.1 c.requires.2 (c.free_calls_may_be_made.ensures c.requires.0 c.requires.1 calls.Figures tt) in
    none_other c.act.result (c.entries_found_stay.ensures.answered c.requires.0 c.requires.1 c.act.result c.act.new.self now) c.in_default.not-Figures

pub returns : goal.returns
returns g c = λ first past is. c.in-Figures.ensures first past is (c.free_calls_may_be_made.ensures first past calls.Figures tt)
