-- Why a log isn't made or opened.
use Rattle.std.specs.Prelude.{◌≡◌, ℕ, ◌<◌, List}
use Rattle.ft_outside.specs.Outside.{next_count}
use Rattle.disk_log.specs.Disk.{Each}
use Rattle.disk_log.specs.Image.{Holds}
use Rattle.disk_log.specs.Standing.{IsNoLogAt}
use Rattle.disk_log.specs.declared.reading.ImageFault.{ImageFault}
use Rattle.disk_log.specs.declared.reading.ImageFault.TheVariants as faults
use Rattle.disk_log.specs.declared.logs.OpenFault.{OpenFault}
use Rattle.disk_log.specs.declared.logs.OpenFault.TheVariants.{NotEmpty, NotALog, Failed, NoMemory}

-- of a log that isn't created, by how many bytes its disk had, and the disk's faults before the call and after it
abbrev pub IsUncreated : OpenFault → ℕ → ℕ → ℕ → Type 0
IsUncreated (NotEmpty n) length before now = (n ≡ length) × (0 < n) × (now ≡ before)
IsUncreated (NotALog place) length before now = ⊥
IsUncreated Failed length before now = (length ≡ 0) × (now ≡ next_count before)
IsUncreated NoMemory length before now = ⊥

-- of a log that isn't moved to a disk, likewise
abbrev pub IsUnmoved : OpenFault → ℕ → ℕ → ℕ → Type 0
IsUnmoved (NotEmpty n) length before now = (n ≡ length) × (0 < n) × (now ≡ before)
IsUnmoved (NotALog place) length before now = ⊥
IsUnmoved Failed length before now = (length ≡ 0) × (now ≡ next_count before)
IsUnmoved NoMemory length before now = (length ≡ 0) × (now ≡ before)

-- of a log that isn't opened, by what its disk gave, and the disk's faults before the call and after it
abbrev pub IsUnopened : OpenFault → (List ℕ → Type 0) → ℕ → ℕ → Type 0
IsUnopened (NotEmpty n) gives before now = ⊥
IsUnopened (NotALog place) gives before now = Each gives (λ r. IsNoLogAt r place) × (now ≡ before)
IsUnopened Failed gives before now = now ≡ next_count before
IsUnopened NoMemory gives before now = now ≡ before

abbrev pub IsNotRead : ImageFault → List ℕ → Type 0
IsNotRead (faults.NotALog place) bytes = IsNoLogAt bytes place
IsNotRead faults.NoMemory bytes = Unit {0}

-- an image that is none from a place on holds nothing
abbrev pub NoLogHoldsNone : Type 0
NoLogHoldsNone = (image : List ℕ) (place : ℕ) (records : List (List ℕ)) → IsNoLogAt image place → Holds image records → ⊥
