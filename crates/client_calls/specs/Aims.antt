-- Where an attempt is sent, and what.
use Rattle.std.specs.Prelude.{ℕ, List}
use Rattle.outside_links.specs.Lending.{Target}

pub record Aim : Type 0 where
  pub to : Target
  pub text : List ℕ
