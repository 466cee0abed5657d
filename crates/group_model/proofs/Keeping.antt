-- Which versions a host of a group may know, and that the group still has them.
use Rattle.std.proofs.Common.{◌≡◌, ℕ, ◌<◌, ◌≤◌, ◌⊎◌, inl, inr, Bool, true, false, if◌then◌else◌, arith}
use Rattle.group_model.specs.Plain.{Common}
use Rattle.group_model.specs.Views.{AreKept, MayKnow, StillHas, newest}

pub newest_known : (c : Common) → AreKept c.first_kept c.views → MayKnow c (newest c)
newest_known c kept = (omega arith, inr kept.last)

-- a host that looks up the newest may know it
pub knows_then : (c : Common) (looks : Bool) (known : ℕ) → AreKept c.first_kept c.views → MayKnow c known → MayKnow c (if looks then newest c else known)
knows_then c true known kept may = newest_known c kept
knows_then c false known kept may = may

-- a host that knows a version knows one that the group still has
pub known_has : (c : Common) (known : ℕ) → 0 < known → MayKnow c known → StillHas c known
known_has c known some may = (from may.1, may.0)
  where
    from : (known ≡ 0) ⊎ (c.first_kept ≤ known) → c.first_kept ≤ known
    from (inl none) = absurd (omega (arith, some, none))
    from (inr has) = has
