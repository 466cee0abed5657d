-- Room in the map of names.
use Rattle.std.specs.Prelude.{ℕ, ◌<◌, Option, Some, None}
use Rattle.std.specs.declared.vec.Vec.{Vec}

-- where there is memory for the next name, the map has room for it
abbrev pub HasRoom : {A : Type 0} → Option (Vec ℕ A) → ℕ → Type 0
HasRoom None room = Unit {0}
HasRoom (Some name) room = 0 < room
