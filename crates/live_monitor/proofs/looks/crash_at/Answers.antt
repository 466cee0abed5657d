use Rattle.group_model.specs.declared.events.Event.TheVariants as events
use Rattle.shared_group.specs.declared.calls.Call.TheVariants as calls
use Rattle.live_monitor.proofs.looks.crash_at.Goals as goal

pub act-requires : goal.act-requires
act-requires g c =
    (c.requires.book.0, c.requires.book.1, c.requires.book.2, c.free_calls_may_be_made.ensures c.requires.book.0 c.requires.book.1 (calls.Act (events.Crash c.args.host)) c.requires.host)

pub returns : goal.returns
returns g c = (c.act.result, λ first past is. c.act.ensures first past is (c.free_calls_may_be_made.ensures first past (calls.Act (events.Crash c.args.host)) c.requires.host))
