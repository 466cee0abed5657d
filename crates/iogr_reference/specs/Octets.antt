-- Lists of numbers that are bytes.
use Rattle.std.specs.Prelude.{ℕ, ◌<◌, List}
use Rattle.std.specs.List.{All}

abbrev pub AreBytes : List ℕ → Type 0
AreBytes xs = All (λ x. x < 256) xs
