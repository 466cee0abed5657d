-- The bytes that were fed and not taken yet, how little is kept beside them, and how rarely they are moved.
use Rattle.std.specs.Prelude.{◌≡◌, ◌≤◌, ◌+◌, ◌⊎◌, ℕ, List, length}

-- the unused bytes, and the number of used ones that are still kept before them
pub record Buffered : Type 0 where
  pub unused : List ℕ
  pub used : ℕ

-- Nothing was moved as so many bytes were used up, or no more than were used up since the last move: so in
-- all, no more bytes are moved than are fed.
abbrev pub MovesFew : ℕ → Buffered → Buffered → Type 0
MovesFew count old new = (new.used ≡ old.used + count) ⊎ ((new.used ≡ 0) × (length new.unused ≤ old.used + count))
