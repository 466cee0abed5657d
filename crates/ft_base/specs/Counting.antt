-- A count that is kept for proofs, and what is told of it.
use Rattle.std.specs.Prelude.{◌≡◌, ℕ, ◌-◌, ◌^◌, ◌<◌, min}

-- a part of the book is held, and the count is told up to the greatest number
pub record IsCounted (parts total told : ℕ) : Type 0 where
  pub held : 0 < parts
  pub tells : told ≡ min total (2 ^ 64 - 1)
