-- The events of a chain, oldest first.
use Rattle.std.specs.Prelude.{List, [], ◌∷◌, ◌++◌}
use Rattle.past_events.specs.declared.pasts.Chain.{Chain, Chain-F, fold-Chain}
use Rattle.past_events.specs.declared.pasts.Chain.TheOpen.{Nothing, Then, Joined}

module _ {E : Type 0} where
  abbrev pub listed_by : Chain-F E (List E) → List E
  listed_by Nothing = []
  listed_by (Then before event) = before.value.value ++ event.value ∷ []
  listed_by (Joined before others) = before.value.value ++ others.value.value

  abbrev pub listed : Chain E → List E
  listed chain = fold-Chain E (List E) listed_by chain
