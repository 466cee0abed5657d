-- What a call of the outside did, as equations between what a source or a sink tells before and after.
-- `left` and `holds` are None where an object tells nothing of its content; that then stays so.
use Rattle.std.specs.Prelude.{◌≡◌, ℕ, ◌+◌, ◌<◌, ◌≤◌, ◌==◌, min, if◌then◌else◌, List, [], ◌++◌, length, take, Option, option_map}
use Rattle.ft_outside.specs.declared.sources.Got.{Got}
use Rattle.ft_outside.specs.declared.sources.Got.TheVariants as gots
use Rattle.ft_outside.specs.declared.sinks.Put.{Put}
use Rattle.ft_outside.specs.declared.sinks.Put.TheVariants as puts
use Rattle.ft_outside.specs.declared.sinks.Flush.{Flush}
use Rattle.ft_outside.specs.declared.sinks.Flush.TheVariants as flushes
use Rattle.ft_outside.specs.declared.wholes.WholeWrite.{WholeWrite}
use Rattle.ft_outside.specs.declared.wholes.WholeWrite.TheVariants as writes

-- one more, but at the end of a count, 2^64 - 1
abbrev pub next_count : ℕ → ℕ
next_count n = if n == 18446744073709551615 then n else n + 1

-- two counts together, as far as a count's end
abbrev pub added : ℕ → ℕ → ℕ
added one other = min (one + other) 18446744073709551615

-- a read: the bytes that came stood at the front of those that were left; the end is where none are
-- left; a failed read takes none, and counts as one fault, which nothing else does
abbrev pub IsRead : Option (List ℕ) → Option (List ℕ) → ℕ → ℕ → List ℕ → Got → Type 0
IsRead before left count now into (gots.Bytes n) =
    (0 < n) × (n ≤ length into) × (before ≡ option_map (λ rest. take n into ++ rest) left) × (now ≡ count)
IsRead before left count now into gots.End =
    (left ≡ before) × (before ≡ option_map (λ _. []) before) × (now ≡ count)
IsRead before left count now into gots.Failed = (left ≡ before) × (now ≡ next_count count)

-- a write: what was taken of the piece stands behind what was held; a failed write keeps nothing of
-- it, and counts as one fault, which nothing else does
abbrev pub IsWritten : Option (List ℕ) → Option (List ℕ) → ℕ → ℕ → List ℕ → Put → Type 0
IsWritten before holds count now piece (puts.Took n) =
    (0 < n) × (n ≤ length piece) × (holds ≡ option_map (λ held. held ++ take n piece) before) × (now ≡ count)
IsWritten before holds count now piece puts.Failed = (holds ≡ before) × (now ≡ next_count count)

-- a flush: what was taken stays taken; a failed flush counts as one fault
abbrev pub IsFlushed : Option (List ℕ) → Option (List ℕ) → ℕ → ℕ → Flush → Type 0
IsFlushed before holds count now flushes.Done = (holds ≡ before) × (now ≡ count)
IsFlushed before holds count now flushes.Failed = (holds ≡ before) × (now ≡ next_count count)

-- a text was written whole with no fault, or one write failed after a front of it
abbrev pub IsWrittenWhole : Option (List ℕ) → Option (List ℕ) → ℕ → ℕ → List ℕ → WholeWrite → Type 0
IsWrittenWhole before holds count now text writes.All =
    (holds ≡ option_map (λ held. held ++ text) before) × (now ≡ count)
IsWrittenWhole before holds count now text writes.Failed =
    ((k : ℕ) × (k < length text) × (holds ≡ option_map (λ held. held ++ take k text) before)) × (now ≡ next_count count)
