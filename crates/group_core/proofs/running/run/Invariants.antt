use Rattle.std.proofs.Common.{◌≡◌, ◌++◌}
use Rattle.group_model.specs.Plain.{Group}
use Rattle.group_core.specs.Cores.{Stands}
use Rattle.group_core.specs.Running.{AlwaysAgree, HasRun}
use Rattle.group_core.proofs.running.run.Given as goal

-- what the events so far left, and which are to come
abbrev pub invariant-loop-event : goal.invariant-loop-event
invariant-loop-event g l =
    (l.yielded ++ l.event-iterator.rest.items ≡ l.fn.events.items)
    × ((group : Group) → Stands g.S.Servant.machine l.fn.core group → AlwaysAgree (g.S.Servant.machine group.common.kind) group l.fn.events.items →
    HasRun g.S.Servant.machine group l.yielded l.answers.items l.core l.fn.steps l.steps)
