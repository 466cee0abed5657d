use Rattle.hist_lock.specs.Passes.{IsOf}
use Rattle.deposit_callers.proofs.Going.{MayBring}
use Rattle.deposit_callers.proofs.upsets.bring.Given as goal

-- what is still to come may be brought
abbrev pub invariant-loop-sent : goal.invariant-loop-sent
invariant-loop-sent g l = IsOf l.initial.group.lock l.pass × MayBring g.S.Servant.machine l.initial.group.lock l.pass l.sent-iterator.rest.items
