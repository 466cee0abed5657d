-- What the calls of a disk do to its content, and what a crash may do between two syncs.
use Rattle.std.specs.Prelude.{◌≡◌, ◌⊎◌, ℕ, ◌+◌, ◌≤◌, List, ◌++◌, length, take, drop}
use Rattle.ft_outside.specs.declared.keepers.Kept.{Kept}
use Rattle.ft_outside.specs.declared.keepers.Kept.TheVariants.{Done, Failed}

-- new is old with these bytes at this place
abbrev pub IsWritten : ℕ → List ℕ → List ℕ → List ℕ → Type 0
IsWritten at piece old new = new ≡ take at old ++ piece ++ drop (at + length piece) old

-- Whatever became of a write of n bytes: in its range any bytes, and past the old end any number of them; the same
-- elsewhere.
pub record Torn (at n : ℕ) (old new : List ℕ) : Type 0 where
  pub between : List ℕ
  pub is : new ≡ take at old ++ between ++ drop (at + n) old
  pub no_shorter : length old ≤ length new
  pub no_longer : length between ≤ n

-- each image of now is one of before, after a step
abbrev pub Follows : (List ℕ → List ℕ → Type 0) → (List ℕ → Type 0) → (List ℕ → Type 0) → Type 0
Follows step old new = (c : List ℕ) → new c → (d : List ℕ) × old d × step d c

-- no image but those of before
abbrev pub NoOthers : (List ℕ → Type 0) → (List ℕ → Type 0) → Type 0
NoOthers old new = (c : List ℕ) → new c → old c

-- each of them has P
abbrev pub Each : (List ℕ → Type 0) → (List ℕ → Type 0) → Type 0
Each images P = (c : List ℕ) → images c → P c

-- Time goes on: a crash since t may have left what it may have left before, or what it may leave now.
pub record Elapses (before now : ℕ) (past since : ℕ → List ℕ → Type 0) (images : List ℕ → Type 0) : Type 0 where
  pub later : before ≤ now
  pub nothing_else : (t : ℕ) (c : List ℕ) → t ≤ before → since t c → past t c ⊎ images c

-- A crash at any moment since old leaves an image that has P.
pub record LeavesOnly {D : Type 0} (moment : D → ℕ) (since : D → ℕ → List ℕ → Type 0) (old new : D) (P : List ℕ → Type 0) : Type 0 where
  pub later : moment old ≤ moment new
  pub each : (c : List ℕ) → since new (moment old) c → P c
  -- for a run that began earlier
  pub before : (t : ℕ) (c : List ℕ) → t ≤ moment old → since new t c → since old t c ⊎ P c

-- what holds where a call was done
abbrev pub OnDone : Kept → Type 0 → Type 0
OnDone Done P = P
OnDone Failed P = Unit {0}

abbrev pub OnFailed : Kept → Type 0 → Type 0
OnFailed Done P = Unit {0}
OnFailed Failed P = P
