use Rattle.std.proofs.Common.{subst, sym}
use Rattle.script_subscribers.specs.Filing.{Filed}
use Rattle.script_subscribers.specs.Pictures.{IsKept}
use Rattle.script_subscribers.proofs.Keeping.{opens}
use Rattle.script_subscribers.proofs.subscriptions.Subscribers.new.Goals as goal

pub invariant_of-result : goal.invariant_of-result
invariant_of-result c = subst (λ (f : Filed). IsKept c.new.result f.all 0) (sym c.new-2.ensures) (opens c.new.result c.new.ensures)
