-- What a clock answers.
use Rattle.std.specs.Prelude.{◌≡◌, ℕ, ◌-◌, ◌/◌, ◌≤◌, min, max, Option, Some, None}

-- A moment that is never before the one that was asked for; of a clock that tells its moment it is the greater of the two.
abbrev pub IsMoment : Option ℕ → ℕ → ℕ → Type 0
IsMoment None atleast now = atleast ≤ now
IsMoment (Some moment) atleast now = now ≡ max moment atleast

-- the whole milliseconds from one reading of a clock to another, both in nanoseconds: none where it went back, and at
-- most 2^64 - 1
abbrev pub millis_between : ℕ → ℕ → ℕ
millis_between start now = min ((now - start) / 1000000) 18446744073709551615
