-- Which versions a host may know, of a log that stands for its group.
use Rattle.std.proofs.Common.{◌≡◌, ℕ, ◌<◌, ◌≤◌, ◌⊎◌, inl, inr, Bool, true, false, if◌then◌else◌, arith}
use Rattle.ft_base.specs.Machine.{Machine}
use Rattle.message_log.specs.Picture.{Picture as LogPicture}
use Rattle.group_model.specs.Plain.{Common}
use Rattle.group_model.specs.Views.{MayKnow, StillHas, newest}
use Rattle.group_stands.specs.Stands.{LogStands}

module _ (machines : ℕ → Machine) (c : Common) (log : LogPicture) (stands : LogStands machines c log) where
  pub newest_known : MayKnow c (newest c)
  newest_known = (omega arith, inr stands.sound.kept.last)

  -- a host that looks up the newest may know it
  pub knows_then : (looks : Bool) (known : ℕ) → MayKnow c known → MayKnow c (if looks then newest c else known)
  knows_then true known may = newest_known
  knows_then false known may = may

  -- a host that knows a version knows one that the group still has
  pub known_has : (known : ℕ) → 0 < known → MayKnow c known → StillHas c known
  known_has known some may = (from may.1, may.0)
    where
      from : (known ≡ 0) ⊎ (c.first_kept ≤ known) → c.first_kept ≤ known
      from (inl none) = absurd (omega (arith, some, none))
      from (inr has) = has
