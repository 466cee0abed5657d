-- What is left of the threads' passes.
use Rattle.std.proofs.Common.{◌≡◌, All, List, ◌∷◌, subst}
use Rattle.std.proofs.lemmas.List.Elements.{All-tail}
use Rattle.hist_lock.specs.Passes.{IsOf}
use Rattle.shared_group.specs.Turns.{GroupLock}
use Rattle.deposit_callers.specs.declared.workers.Worker.{Worker}
use Rattle.outside_crews.specs.declared.keepers.CalmKeeper.{CalmKeeper}
use Rattle.shipped_servants.specs.declared.shipped.Shipped.{Shipped}

abbrev Hand : Type 0
Hand = Worker Shipped CalmKeeper

pub those_left : (lock : GroupLock) (hand : Hand) (left all : List Hand) → all ≡ hand ∷ left → All (λ (h : Hand). IsOf lock h.pass) all → All (λ (h : Hand). IsOf lock h.pass) left
those_left lock hand left all is so =
    All-tail (λ (h : Hand). IsOf lock h.pass) hand left (subst (λ (hands : List Hand). All (λ (h : Hand). IsOf lock h.pass) hands) is so)
