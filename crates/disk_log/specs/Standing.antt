-- How a log stands on its disk, between two calls and inside one.
use Rattle.std.specs.Prelude.{◌≡◌, ◌≢◌, ◌⊎◌, ℕ, ◌+◌, ◌<◌, ◌≤◌, ◌^◌, Bool, true, false, List, [], ◌∷◌, ◌++◌, length, map, take, drop}
use Rattle.std.specs.List.{AllByRecursion}
use Rattle.std.specs.Int.{to_be_bytes, w32}
use Rattle.ft_outside.specs.declared.keepers.Kept.{Kept}
use Rattle.ft_outside.specs.declared.keepers.Kept.TheVariants.{Done, Failed}
use Rattle.disk_log.specs.Disk.{Each}
use Rattle.disk_log.specs.Image.{Step, Add, rest, marked, magic, stepped, MayStep, Leads}

-- the image begins with these bytes
abbrev pub Begins : List ℕ → List ℕ → Type 0
Begins front image = (tail : List ℕ) × (image ≡ front ++ tail)

-- whatever the byte at a mark is, these bytes stand before it and those behind it
abbrev pub Gated : List ℕ → List ℕ → List ℕ → Type 0
Gated front behind image = (gate : ℕ) × Begins (front ++ gate ∷ behind) image

-- a log's bytes before its last mark
abbrev pub front_of : List Step → List ℕ
front_of steps = magic ++ marked steps

-- The mark behind the records stands closed in each image.
pub record Calm (images : List ℕ → Type 0) (end : ℕ) (records : List (List ℕ)) : Type 0 where
  pub steps : List Step
  pub gate : ℕ
  pub shut : gate ≢ 1
  pub leads : Leads [] steps records
  pub ends : end ≡ length (front_of steps)
  pub each : Each images (Begins (front_of steps ++ gate ∷ []))

abbrev pub OneOf : List (List ℕ) → List (List (List ℕ)) → Type 0
OneOf records [] = ⊥
OneOf records (list ∷ lists) = (records ≡ list) ⊎ OneOf records lists

-- A call began to open the mark and failed: it may stand open in an image, and a whole record and a closed mark behind it.
pub record Doubtful (images : List ℕ → Type 0) (end : ℕ) (records : List (List ℕ)) (failed : List (List (List ℕ))) : Type 0 where
  pub steps : List Step
  pub step : Step
  pub leads : Leads [] steps records
  pub may : MayStep records step
  pub among : OneOf (stepped records step) failed
  pub ends : end ≡ length (front_of steps)
  pub each : Each images (Gated (front_of steps) (rest step ++ 0 ∷ []))

-- between two calls; `doubt` says whether the mark may stand open
abbrev pub Stands : Bool → (List ℕ → Type 0) → ℕ → List (List ℕ) → List (List (List ℕ)) → Type 0
Stands false images end records failed = Calm images end records
Stands true images end records failed = Doubtful images end records failed

-- after a call that was to close the mark
abbrev pub StandsClosed : Kept → Bool → (List ℕ → Type 0) → ℕ → List (List ℕ) → List (List (List ℕ)) → Type 0
StandsClosed Done doubt images end records failed = (doubt ≡ false) × Calm images end records
StandsClosed Failed doubt images end records failed = Stands doubt images end records failed

-- after a call that was to make these records
abbrev pub StandsAfter : Kept → Bool → (List ℕ → Type 0) → ℕ → ℕ → List (List ℕ) → List (List ℕ) → List (List (List ℕ)) → Type 0
StandsAfter Done doubt images end later old new failed = Stands doubt images later new []
StandsAfter Failed doubt images end later old new failed = Stands doubt images end old (new ∷ failed)

-- ---- an image that is written whole

-- each record has fewer bytes than a marked record may have
abbrev pub AreShort : List (List ℕ) → Type 0
AreShort records = AllByRecursion (λ content. length content < 2 ^ 32) records

-- what is given begins with a log's name and these records, which end at this place
abbrev pub IsLaid : (List ℕ → Type 0) → List (List ℕ) → ℕ → Type 0
IsLaid gives records end = (end ≡ length (front_of (map Add records))) × Each gives (Begins (front_of (map Add records)))

-- ---- what contracts see of a log on a disk

pub record Ledger (D : Type 0) : Type 0 where
  pub records : List (List ℕ)
  -- what each call that failed since the last done one would have made, the latest first
  pub failed : List (List (List ℕ))
  pub spare : ℕ
  pub faults : ℕ
  pub disk : D

-- a log of these records that was just made or opened
abbrev pub IsNew : {D : Type 0} → Ledger D → List (List ℕ) → Type 0
IsNew log records = (log.records ≡ records) × (log.failed ≡ []) × (log.spare ≡ 0) × (log.faults ≡ 0)

-- what is true of a log's fields
pub record IsKept (doubt : Bool) (images : List ℕ → Type 0) (end : ℕ) (records : List (List ℕ)) (failed : List (List (List ℕ))) (size held spare capacity : ℕ) : Type 0 where
  pub stands : Stands doubt images end records failed
  pub fits : end + 1 < 2 ^ 64
  pub within : end + 1 ≤ size
  pub room : held + spare ≤ capacity

-- after a call that was to make these records
abbrev pub failed_after : Kept → List (List ℕ) → List (List (List ℕ)) → List (List (List ℕ))
failed_after Done new failed = []
failed_after Failed new failed = new ∷ failed

-- ---- reading an image

-- a marked record of this kind and content leads from records to records
pub record IsStep (kind : ℕ) (content : List ℕ) (old new : List (List ℕ)) : Type 0 where
  pub step : Step
  pub is : (kind ∷ to_be_bytes w32 (length content)) ++ content ≡ rest step
  pub may : MayStep old step
  pub leads : new ≡ stepped old step

-- the image's bytes so far
pub record IsReadTo (bytes : List ℕ) (records : List (List ℕ)) (place : ℕ) : Type 0 where
  pub steps : List Step
  pub is : take place bytes ≡ front_of steps
  pub ends : place ≡ length (front_of steps)
  pub within : place ≤ length bytes
  pub leads : Leads [] steps records

-- the image holds these records, and its closed mark is at this place
pub record IsRead (bytes : List ℕ) (records : List (List ℕ)) (end : ℕ) : Type 0 where
  pub to : IsReadTo bytes records end
  pub gate : ℕ
  pub shut : gate ≢ 1
  pub behind : List ℕ
  pub closed : drop end bytes ≡ gate ∷ behind

-- behind these records stands neither a closed mark nor a marked record that may stand there
abbrev pub NoneStands : List (List ℕ) → List ℕ → Type 0
NoneStands records [] = Unit {0}
NoneStands records (gate ∷ after) = (gate ≡ 1) × ((step : Step) (behind : List ℕ) → MayStep records step → after ≡ rest step ++ behind → ⊥)

-- the image has not the name, or its marked records end at this place and no closed mark stands there
abbrev pub IsNoLogAt : List ℕ → ℕ → Type 0
IsNoLogAt bytes place = ((place ≡ 0) × (take 8 bytes ≢ magic)) ⊎ ((records : List (List ℕ)) × IsReadTo bytes records place × NoneStands records (drop place bytes))

-- no step has this kind and content
abbrev pub CannotStep : ℕ → List ℕ → List (List ℕ) → Type 0
CannotStep kind content records = (step : Step) → MayStep records step → (kind ∷ to_be_bytes w32 (length content)) ++ content ≡ rest step → ⊥
