-- What groups have accepted together, where one of them changes.
use Rattle.std.proofs.Common.{◌≡◌, ℕ, zero, suc, ◌+◌, ◌*◌, ◌≤◌, arith, List, [], ◌∷◌, length, Option, None, Some, ap}
use Rattle.std.proofs.lemmas.List.Sums.{sum_by-cons}
use Rattle.std.specs.Prelude.{slice_get, slice_set, IfSome}
use Rattle.std.specs.List.{AllByRecursion}
use Rattle.group_model.specs.declared.events.Event.{Event}
use Rattle.script_groups.specs.Acting.{AreKept, IsSoundGroup}
use Rattle.script_groups.specs.Groups.{ScriptGroup, all_acted, common_of, entries_of}

abbrev accepted : ScriptGroup → ℕ
accepted g = length (common_of g).journal

-- the sum loses what the old group had accepted, and gains what the new one has
pub entries_set : (gs : List ScriptGroup) (i : ℕ) (g h : ScriptGroup) → slice_get gs i ≡ Some g →
    entries_of (slice_set gs i h) + length (common_of g).journal ≡ entries_of gs + length (common_of h).journal
entries_set [] i g h at = absurd cc
entries_set (x ∷ gs) zero g h at =
    let same : accepted x ≡ accepted g = ap accepted (let e : x ≡ g = cc in e) in
    omega (arith, same, sum_by-cons accepted x gs, sum_by-cons accepted h gs)
entries_set (x ∷ gs) (suc i) g h at =
    omega (arith, entries_set gs i g h at, sum_by-cons accepted x gs, sum_by-cons accepted x (slice_set gs i h))

pub entries_least : (gs : List ScriptGroup) (i : ℕ) (g : ScriptGroup) → slice_get gs i ≡ Some g → length (common_of g).journal ≤ entries_of gs
entries_least [] i g at = absurd cc
entries_least (x ∷ gs) zero g at =
    let same : accepted x ≡ accepted g = ap accepted (let e : x ≡ g = cc in e) in
    omega (arith, same, sum_by-cons accepted x gs)
entries_least (x ∷ gs) (suc i) g at = omega (arith, entries_least gs i g at, sum_by-cons accepted x gs)

pub entries_within : (gs : List ScriptGroup) → AllByRecursion IsSoundGroup gs → entries_of gs ≤ 262144 * length gs
entries_within [] all = omega arith
entries_within (g ∷ gs) all =
    let few : accepted g ≤ 262144 = all.0.common.journal.few in
    omega (arith, few, sum_by-cons accepted g gs, entries_within gs all.1)

-- the count goes on by the group that has had an event
pub counted_on : (count : Option ℕ) (others : ℕ) (gs : List ScriptGroup) (i : ℕ) (g h : ScriptGroup) → slice_get gs i ≡ Some g →
    others + length (common_of g).journal ≡ entries_of gs → IfSome count (λ n. n ≡ others + length (common_of h).journal) → IfSome count (λ n. n ≡ entries_of (slice_set gs i h))
counted_on None others gs i g h at sum is = tt
counted_on (Some n) others gs i g h at sum is = omega (arith, sum, is, entries_set gs i g h at)

-- it stands where the group has accepted as much as before
pub counted_still : (count : Option ℕ) (gs : List ScriptGroup) (i : ℕ) (g h : ScriptGroup) → slice_get gs i ≡ Some g →
    length (common_of h).journal ≡ length (common_of g).journal → IfSome count (λ n. n ≡ entries_of gs) → IfSome count (λ n. n ≡ entries_of (slice_set gs i h))
counted_still None gs i g h at same is = tt
counted_still (Some n) gs i g h at same is = omega (arith, same, is, entries_set gs i g h at)

-- memory was not wanted in groups that have all had an event
pub kept_acted : (gs : List ScriptGroup) (e : Event) → AreKept gs → AreKept (all_acted e gs)
kept_acted [] e all = tt
kept_acted (g ∷ gs) e all = (all.0, kept_acted gs e all.1)
