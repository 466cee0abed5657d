-- Which objects a factory makes, and why it makes none. (Chapter 23, GenericFactory.)
use Rattle.std.specs.Prelude.{◌≡◌, ◌≢◌, ◌⊎◌, ℕ, ◌+◌, false, nat_lt, nat_le, if◌then◌else◌, List, [], ◌∷◌, length, Option, Some, None, count_by, is_some, slice_index_or, Result, Ok, Err}
use Rattle.shipped_servants.specs.Kinds.{kind_with, kind_of, number_of, state_of_shipped, opening_of}
use Rattle.shipped_servants.specs.declared.kinds.Kind.{Kind}
use Rattle.shipped_servants.specs.declared.shipped.Shipped.{Shipped}
use Rattle.property_manager.specs.declared.names.PropertyName.TheVariants as names
use Rattle.property_manager.specs.declared.settings.Property.{Property}
use Rattle.property_manager.specs.Judging.{first_place, is_invalid, is_refused}
use Rattle.property_manager.specs.Levels.{effective}
use Rattle.property_manager.specs.Numbers.{replicas}
use Rattle.property_manager.specs.Styles.{is_infrastructure}
use Rattle.generic_factory.specs.declared.faults.CreateFault.{CreateFault}
use Rattle.generic_factory.specs.declared.faults.CreateFault.TheVariants as faults
use Rattle.generic_factory.specs.declared.faults.ObjectNotFound.{ObjectNotFound}
use Rattle.generic_factory.specs.declared.making.CreationId.{CreationId}

-- ---- objects, by the places of their ids

abbrev pub object_at : List (Option Kind) → ℕ → Option Kind
object_at objects place = slice_index_or objects place None

abbrev pub count : List (Option Kind) → ℕ
count objects = count_by is_some objects

-- what stands at one place is another now
pub record IsChangedAt (place : ℕ) (slot : Option Kind) (old new : List (Option Kind)) : Type 0 where
  pub changed : object_at new place ≡ slot
  pub others : (other : ℕ) → other ≢ place → object_at new other ≡ object_at old other

-- ---- why no object is made

-- an invalid criterion comes before any unsupported one
abbrev pub refused_at : Option ℕ → Option ℕ → Option CreateFault
refused_at (Some place) unsupported = Some (faults.InvalidCriteria place)
refused_at None (Some place) = Some (faults.UnsupportedProperty place)
refused_at None None = None

abbrev pub criteria_refusal : List Property → Option CreateFault
criteria_refusal criteria = refused_at (first_place is_invalid [] criteria) (first_place (is_refused false) [] criteria)

abbrev pub unmet : Option ℕ → Option ℕ → Option CreateFault
unmet None minimum = None
unmet (Some initial) None = None
unmet (Some initial) (Some minimum) = if nat_lt initial minimum then Some (faults.CannotMeetCriteria initial minimum) else None

-- more replicas are to stay than are to be made, by the criteria over the values built in
abbrev pub number_refusal : List Property → Option CreateFault
number_refusal criteria =
    unmet (replicas (effective (criteria ∷ []) names.InitialNumberReplicas)) (replicas (effective (criteria ∷ []) names.MinimumNumberReplicas))

abbrev pub fewer : ℕ → Option ℕ → Option CreateFault
fewer fit None = None
fewer fit (Some minimum) = if nat_lt fit minimum then Some (faults.TooFew fit minimum) else None

-- fewer hosts fit than are to stay, where the infrastructure is to make the members
abbrev pub fit_refusal : List Property → List ℕ → Option CreateFault
fit_refusal criteria fit =
    if is_infrastructure (effective (criteria ∷ []) names.MembershipStyle)
    then fewer (length fit) (replicas (effective (criteria ∷ []) names.MinimumNumberReplicas)) else None

abbrev pub full : ℕ → Option CreateFault
full made = if nat_le 4096 made then Some (faults.ObjectNotCreated 4096) else None

abbrev pub or_next : Option CreateFault → Option CreateFault → Option CreateFault
or_next (Some fault) next = Some fault
or_next None next = next

-- the first cause of all but the type id
abbrev pub refusal : List Property → List ℕ → List (Option Kind) → Option CreateFault
refusal criteria fit objects =
    or_next (criteria_refusal criteria) (or_next (number_refusal criteria) (or_next (fit_refusal criteria fit) (full (count objects))))

-- ---- what calls answer and leave

-- a servant of the kind in its opening state, at a place where no object was
pub record IsMade (of : Kind) (servant : Shipped) (id : CreationId) (old new : List (Option Kind)) : Type 0 where
  pub kind : kind_of servant ≡ number_of of
  pub state : state_of_shipped servant ≡ opening_of of
  pub free : object_at old id.place ≡ None
  pub put : IsChangedAt id.place (Some of) old new
  pub counted : count new ≡ count old + 1

abbrev pub IsCreatedOf : Option Kind → Option CreateFault → List (Option Kind) → Result (Shipped × CreationId) CreateFault → List (Option Kind) → Type 0
IsCreatedOf None why old result new = (result ≡ Err faults.NoFactory) × (new ≡ old)
IsCreatedOf (Some kind) why old (Ok made) new = (why ≡ None) × IsMade kind made.0 made.1 old new
IsCreatedOf (Some kind) why old (Err fault) new = ((fault ≡ faults.NoMemory) ⊎ (why ≡ Some fault)) × (new ≡ old)

-- that no servant has the type id comes first
abbrev pub IsCreated : List ℕ → List Property → List ℕ → List (Option Kind) → Result (Shipped × CreationId) CreateFault → List (Option Kind) → Type 0
IsCreated type_id criteria fit old result new = IsCreatedOf (kind_with type_id) (refusal criteria fit old) old result new

abbrev pub IsDeletedAt : ℕ → Option Kind → List (Option Kind) → Result (Unit {0}) ObjectNotFound → List (Option Kind) → Type 0
IsDeletedAt place None old result new = (result ≡ Err (record {})) × (new ≡ old)
IsDeletedAt place (Some kind) old result new = (result ≡ Ok tt) × IsChangedAt place None old new × (count new + 1 ≡ count old)

abbrev pub IsDeleted : CreationId → List (Option Kind) → Result (Unit {0}) ObjectNotFound → List (Option Kind) → Type 0
IsDeleted id old result new = IsDeletedAt id.place (object_at old id.place) old result new
