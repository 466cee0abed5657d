-- What a keeper's calls do to what it tells: its records, its plan and its count of faults.
use Rattle.std.specs.Prelude.{◌≡◌, ℕ, zero, suc, ◌==◌, Bool, true, false, List, [], ◌∷◌, ◌++◌, drop, max, fold, Option, Some, None, option_map}
use Rattle.std.specs.List.{list_any}
use Rattle.ft_outside.specs.Outside.{next_count}
use Rattle.ft_outside.specs.declared.keepers.Kept.{Kept}
use Rattle.ft_outside.specs.declared.keepers.Kept.TheVariants as kepts

abbrev pub has_failed : Kept → Bool
has_failed kepts.Done = false
has_failed kepts.Failed = true

-- the records after a writing call: the new ones where it was done, else the old ones
abbrev pub records_after : Kept → List (List ℕ) → List (List ℕ) → List (List ℕ)
records_after kepts.Done done left = done
records_after kepts.Failed done left = left

-- a call that was done leaves the count of faults, and a failed one raises it
abbrev pub IsCounted : Kept → ℕ → ℕ → Type 0
IsCounted kepts.Done before now = now ≡ before
IsCounted kepts.Failed before now = now ≡ next_count before

-- ---- a plan says of the next writing calls, in order, whether each is to fail

-- past its end none is
abbrev pub is_next_failing : List Bool → Bool
is_next_failing [] = false
is_next_failing (fails ∷ plan) = fails

-- a writing call takes the first place away
abbrev pub plan_after : Option (List Bool) → Option (List Bool)
plan_after plan = option_map (λ places. drop 1 places) plan

-- where a plan is told, a writing call fails exactly where the first place says so
abbrev pub IsForetold : Option (List Bool) → Bool → Type 0
IsForetold None failed = Unit {0}
IsForetold (Some plan) failed = failed ≡ is_next_failing plan

-- ---- a keeper in memory

pub record Shelf : Type 0 where
  pub records : List (List ℕ)
  -- how many records it can take without memory
  pub spare : ℕ
  pub plan : List Bool
  pub faults : ℕ

-- whether each of the first calls is to fail, by the numbers of those that are, from 1
abbrev pub planned_first : ℕ → List ℕ → List Bool
planned_first zero fails = []
planned_first (suc n) fails = planned_first n fails ++ list_any (λ number. number == suc n) fails ∷ []

-- up to the last that is to fail
abbrev pub planned : List ℕ → List Bool
planned fails = planned_first (fold max 0 fails) fails

-- the plan in which the next writing call fails
abbrev pub failing_next : List Bool → List Bool
failing_next plan = true ∷ drop 1 plan
