-- Counts of what is there.
use Rattle.std.proofs.Common.{◌≡◌, ◌<◌, ℕ, true, List, Option, Some, None, length, refl, ap, arith}
use Rattle.std.specs.Prelude.{is_some, IsSome, slice_index_or, slice_set, count_by, cond}
use Rattle.std.proofs.lemmas.List.Sums.{sum_by-set}
use Rattle.slab.specs.Slab.{Slab, Updates, get, slab_len, with_value}
use Rattle.slab.proofs.SlabLemmas.{Updates-with_value, ContainsKey-within}
use Rattle.fault_notifier.specs.declared.subscribers.Subscriber.{Subscriber}

has_key : (o : Option Subscriber) → is_some o ≡ true → IsSome o
has_key None e = absurd cc
has_key (Some x) e = refl

count_set : {T : Type 0} (slots : List (Option T)) (key : ℕ) (value : T) → key < length slots → is_some (slice_index_or slots key None) ≡ true
    → count_by is_some (slice_set slots key (Some value)) ≡ count_by is_some slots
count_set slots key value within there =
    let more = sum_by-set (λ o. cond (is_some o) 1 0) slots key (Some value) None within in
    let one : ◌≡◌ {A = ℕ} (cond (is_some (slice_index_or slots key None)) 1 0) 1 = ap (λ b. cond b 1 0) there in
    omega (arith, more, one)

-- a value in place of another leaves their number
pub same_count : (s : Slab Subscriber) (key : ℕ) (value : Subscriber) → is_some (get s key) ≡ true → slab_len (with_value s key value) ≡ slab_len s
same_count s key value there = count_set s.slots key value (ContainsKey-within s key (has_key (get s key) there)) there

pub value_put : (s : Slab Subscriber) (key : ℕ) (value : Subscriber) → is_some (get s key) ≡ true → Updates s (with_value s key value) key (Some value)
value_put s key value there = Updates-with_value s key value (has_key (get s key) there)
