use Rattle.std.proofs.Common.{◌≡◌, ◌∷◌, [], take}
use Rattle.std.specs.Prelude.{map}
use Rattle.property_manager.specs.Levels.{effective, valued}
use Rattle.property_manager.proofs.effective.all_effective.Given as goal

-- those so far
abbrev pub invariant-loop-name : goal.invariant-loop-name
invariant-loop-name l =
    l.list.items ≡ map (λ name. valued name (effective (l.fn.defaults ∷ l.fn.by_type ∷ l.fn.criteria ∷ l.fn.dynamic ∷ []) name)) (take l.name-index l.name-items)
