-- A disk in memory: what it held at first, and the calls that changed it, the latest first.
use Rattle.std.specs.Prelude.{◌≡◌, ◌⊎◌, ℕ, ◌+◌, ◌-◌, ◌≤◌, Bool, not, ◌&&◌, ◌||◌, nat_lt, nat_le, if◌then◌else◌, List, [], ◌∷◌, ◌++◌, length, take, drop}
use Rattle.std.proofs.Common.{arith, refl, sym, subst, length-append, length-drop, length-take}
use mathlib.Core.Logic.{inl, inr}
use Rattle.ft_outside.specs.declared.keepers.Kept.{Kept}
use Rattle.ft_outside.specs.declared.keepers.Kept.TheVariants.{Done, Failed}
use Rattle.ft_outside.specs.Schedules.{Schedule, is_failing, after_call, after_fault}
use Rattle.disk_log.specs.Disk.{Torn}
use Rattle.disk_log.specs.declared.mem_disks.Call.{Call}
use Rattle.disk_log.specs.declared.mem_disks.Call.TheVariants as calls

-- a call that changed what a crash may leave
pub data Change : Type 0 where
  Wrote : ℕ → List ℕ → Change
  Synced : Change

-- a disk in memory, as contracts see it
pub record Memory : Type 0 where
  pub first : List ℕ
  pub changes : List Change
  -- the most changes that it keeps, and the most bytes in them
  pub room : ℕ
  pub schedule : Schedule

-- the changes whose bytes stand one behind another
abbrev pub changes_of : List Call → List ℕ → List Change
changes_of [] pieces = []
changes_of (calls.Write at size ∷ earlier) pieces = Wrote at (drop (length pieces - size) pieces) ∷ changes_of earlier (take (length pieces - size) pieces)
changes_of (calls.Sync ∷ earlier) pieces = Synced ∷ changes_of earlier pieces

-- how many bytes were written in all
abbrev pub written : List Change → ℕ
written [] = 0
written (Wrote at piece ∷ changes) = length piece + written changes
written (Synced ∷ changes) = written changes

-- what a read gives after these changes
abbrev pub content : List ℕ → List Change → List ℕ
content first [] = first
content first (Wrote at piece ∷ changes) = take at (content first changes) ++ piece ++ drop (at + length piece) (content first changes)
content first (Synced ∷ changes) = content first changes

-- a crash after these changes may leave this
abbrev pub IsImage : List ℕ → List Change → List ℕ → Type 0
IsImage first [] c = c ≡ first
IsImage first (Wrote at piece ∷ changes) c = (d : List ℕ) × IsImage first changes d × Torn at (length piece) d c
IsImage first (Synced ∷ changes) c = c ≡ content first changes

-- a crash after so many of these changes, or more, may leave this
abbrev pub IsImageSince : List ℕ → List Change → ℕ → List ℕ → Type 0
IsImageSince first [] t c = IsImage first [] c
IsImageSince first (change ∷ changes) t c = IsImage first (change ∷ changes) c ⊎ ((t ≤ length changes) × IsImageSince first changes t c)

-- ---- which calls fail, and what stands after them

-- whether there is room for one more change, of so many bytes
abbrev pub has_room : Memory → ℕ → Bool
has_room m size = nat_lt (length m.changes) m.room && nat_le (written m.changes + size) m.room

-- a call fails exactly where its number says so or there is no room
abbrev pub is_refused : Memory → Bool → Bool
is_refused m room = is_failing m.schedule || not room

abbrev pub answered : Kept → Schedule → Schedule
answered Done schedule = after_call schedule
answered Failed schedule = after_fault schedule

-- a write that fails by its number has done its work all the same
abbrev pub wrote : Memory → ℕ → List ℕ → List Change
wrote m at piece = if has_room m (length piece) then Wrote at piece ∷ m.changes else m.changes

-- a sync that fails has done nothing
abbrev pub synced : Kept → List Change → List Change
synced Done changes = Synced ∷ changes
synced Failed changes = changes

-- ---- what is true of its fields

pub record IsStored (first bytes pieces : List ℕ) (changes : List Change) (room count bytes_room pieces_room calls_room : ℕ) : Type 0 where
  pub holds : bytes ≡ content first changes
  pub sizes : length pieces ≡ written changes
  pub counts : count ≡ length changes
  pub few : count ≤ room
  pub small : length pieces ≤ room
  pub grown : length bytes ≤ length first + length pieces
  pub bytes_fit : length first + room ≤ bytes_room
  pub pieces_fit : room ≤ pieces_room
  pub calls_fit : room ≤ calls_room

-- ---- the laws of a disk

length_written : (at : ℕ) (piece old : List ℕ) → length old ≤ length (take at old ++ piece ++ drop (at + length piece) old)
length_written at piece old =
    omega (arith, length-append (take at old ++ piece) (drop (at + length piece) old), length-append (take at old) piece, length-take at old, length-drop (at + length piece) old)

pub content_now : (first : List ℕ) (changes : List Change) → IsImage first changes (content first changes)
content_now first [] = refl
content_now first (Wrote at piece ∷ changes) = (
  content first changes,
  content_now first changes,
  record { between = piece; is = refl; no_shorter = length_written at piece (content first changes); no_longer = omega arith },
)
content_now first (Synced ∷ changes) = refl

pub gives_now : (first : List ℕ) (changes : List Change) (r : List ℕ) → r ≡ content first changes → IsImage first changes r
gives_now first changes r is = subst (λ (c : List ℕ). IsImage first changes c) (sym is) (content_now first changes)

pub counts_now : (first : List ℕ) (changes : List Change) (t : ℕ) (c : List ℕ) → IsImage first changes c → IsImageSince first changes t c
counts_now first [] t c now = now
counts_now first (change ∷ changes) t c now = inl now

pub only_now : (first : List ℕ) (changes : List Change) (c : List ℕ) → IsImageSince first changes (length changes) c → IsImage first changes c
only_now first [] c since = since
only_now first (change ∷ changes) c (inl now) = now
only_now first (change ∷ changes) c (inr past) = absurd (omega (arith, past.0))
