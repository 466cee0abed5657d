-- The callers of a run's clients: what their next links have left, in their order, as the network tells it or doesn't.
use Rattle.std.specs.Prelude.{◌≡◌, ℕ, List, [], ◌∷◌, Option, Some, option_map, slice_get, slice_index_or}
use Rattle.outside_links.specs.Lending.{IsCaller, IsEmpty, IsNoneOut, Target}

-- Callers with these links were handed out, one after another.
unfoldable pub AreCallers : Option (List (List (List ℕ))) → Option (List (List (List ℕ))) → List (Option (List (List ℕ))) → Type 0
AreCallers told now [] = now ≡ told
AreCallers told now (links ∷ more) = (next : Option (List (List (List ℕ)))) × IsCaller told next links × AreCallers next now more

-- the links of the caller at this place, which are none past the end
abbrev pub links_at : Option (List (List (List ℕ))) → ℕ → Option (List (List ℕ))
links_at told place = option_map (λ callers. slice_index_or callers place []) told

-- Where the network tells them, each caller has the links of its place.
abbrev pub HaveLinksInOrder : Type 0
HaveLinksInOrder = (callers : List (List (List ℕ))) (now : Option (List (List (List ℕ)))) (links : List (Option (List (List ℕ)))) (place : ℕ) (own : Option (List (List ℕ)))
    → AreCallers (Some callers) now links → slice_get links place ≡ Some own → own ≡ links_at (Some callers) place

-- A caller that nobody has used: it has counted no fault and dialled nobody, no link of it is out, and none has come back.
pub record IsUnused (count : ℕ) (lent : Option ℕ) (sent : Option (List (List ℕ))) (targets : Option (List Target)) : Type 0 where
  pub no_faults : count ≡ 0
  pub none_out : IsNoneOut lent
  pub none_back : IsEmpty sent
  pub none_dialled : IsEmpty targets
