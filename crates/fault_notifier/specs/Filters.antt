-- Filters of fault events, as texts and in what they let through. A filter is `-`, which lets all events through,
-- or terms between commas, of which an event must meet each: `Location=hN`, `TypeId=ID`, `ObjectGroupId=N`.
-- (Chapter 23, FaultNotifier: a consumer is told of the events that its constraint lets through.)
use Rattle.std.specs.Prelude.{◌≡◌, ℕ, ◌==◌, ◌&&◌, Bool, true, if◌then◌else◌, List, [], ◌∷◌, length, map, take, drop, slice_get, Result, Ok, Err, Option, Some, None, is_none, option_map, codes}
use Rattle.std.specs.List.{slice_split}
use Rattle.std.specs.Borrow.{Bor}
use Rattle.std.specs.Option.{option_and_then}
use Rattle.std.specs.Str.{bytes_eq}
use Rattle.ft_base.specs.Text.{name_refusal}
use Rattle.decimal_numbers.specs.Numbers.{number}
use Rattle.fault_notifier.specs.declared.faults.FilterFault.{FilterFault}
use Rattle.fault_notifier.specs.declared.faults.FilterFault.TheVariants as faults
use Rattle.fault_notifier.specs.declared.events.FaultEvent.{FaultEvent}

-- what an event must have, where it is said
pub record Filter : Type 0 where
  pub location : Option ℕ
  pub type_id : Option (List ℕ)
  pub group : Option ℕ

abbrev pub lets_all : Filter
lets_all = record { location = None; type_id = None; group = None }

-- ---- the text

-- the text behind a beginning, where it begins so
abbrev pub behind : List ℕ → List ℕ → Option (List ℕ)
behind front text = if bytes_eq (take (length front) text) front then Some (drop (length front) text) else None

abbrev pub name : List ℕ → Option (List ℕ)
name text = if is_none (name_refusal text) then Some text else None

-- each name stands at most once
abbrev pub once : {A : Type 0} → Option A → Option A → Option A
once None value = value
once (Some known) value = None

abbrev pub with_location : Filter → List ℕ → Option Filter
with_location f text = option_map (λ n. record f { location = Some n }) (once f.location (number text))

abbrev pub with_type_id : Filter → List ℕ → Option Filter
with_type_id f text = option_map (λ id. record f { type_id = Some id }) (once f.type_id (name text))

abbrev pub with_group : Filter → List ℕ → Option Filter
with_group f text = option_map (λ n. record f { group = Some n }) (once f.group (number text))

abbrev pub or_else : Option (List ℕ) → (List ℕ → Option Filter) → Option Filter → Option Filter
or_else None reads other = other
or_else (Some text) reads other = reads text

-- a filter with one term more, where the text is a term and its name is new
abbrev pub with_term : Filter → List ℕ → Option Filter
with_term f text =
    or_else (behind (codes "Location=h") text) (with_location f)
    (or_else (behind (codes "TypeId=") text) (with_type_id f)
    (or_else (behind (codes "ObjectGroupId=") text) (with_group f) None))

-- with all these terms
unfoldable pub with_terms : Filter → List (List ℕ) → Option Filter
with_terms f [] = Some f
with_terms f (text ∷ texts) = option_and_then (λ g. with_terms g texts) (with_term f text)

abbrev pub is_comma : ℕ → Bool
is_comma byte = byte == 44

-- the terms of a text
abbrev pub terms : List ℕ → List (List ℕ)
terms text = if bytes_eq text (codes "-") then [] else slice_split is_comma text

-- the texts of borrowed terms
abbrev pub texts : List (Bor (List ℕ)) → List (List ℕ)
texts terms = map (λ term. term.now) terms

-- the terms before a place are a filter, and with the one at that place they are none
pub record IsBadAt (texts : List (List ℕ)) (place : ℕ) : Type 0 where
  pub term : List ℕ
  pub there : slice_get texts place ≡ Some term
  pub known : Filter
  pub before : with_terms lets_all (take place texts) ≡ Some known
  pub bad : with_term known term ≡ None

abbrev pub IsFiltered : List (List ℕ) → Result Filter FilterFault → Type 0
IsFiltered texts (Ok f) = with_terms lets_all texts ≡ Some f
IsFiltered texts (Err (faults.BadFilter place)) = IsBadAt texts place
IsFiltered texts (Err faults.NoMemory) = Unit {0}

-- ---- what is let through

abbrev pub is_so : {A : Type 0} → (A → Bool) → Option A → Bool
is_so test None = true
is_so test (Some value) = test value

abbrev pub matches : Filter → FaultEvent → Bool
matches f event =
    is_so (λ n. n == event.host.0) f.location
    && (is_so (λ id. bytes_eq id event.type_id) f.type_id && is_so (λ n. n == event.group.0) f.group)
