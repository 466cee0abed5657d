-- The store keeps the laws of a servant: what it owes over pairs.
use Rattle.std.proofs.Common.{◌≡◌, ℕ, suc, ◌*◌, ◌^◌, ◌<◌, ◌≤◌, Bool, true, false, ◌&&◌, ◌||◌, not, nat_lt, nat_le, if◌then◌else◌, cond, List, [], ◌∷◌, ◌++◌, length, take, drop, map, Option, Some, None, option_map, codes, refl, ap, sym, subst, ◌∙◌, arith, lit<, lit≤}
use Rattle.std.specs.Prelude.{slice_index, is_some}
use Rattle.std.specs.Cmp.Lexicographic.{nat_list_cmp_total}
use Rattle.std.specs.FinMap.{find, put, is_sorted}
use Rattle.std.specs.FinMap.Entries.{below_all, same_entries}
use Rattle.std.specs.List.{filter, flat_map, list_all, list_any}
use Rattle.std.specs.Ordering.{eq_by_cmp, is_lt}
use Rattle.std.specs.Str.{bytes_eq}
use Rattle.std.proofs.Math.Nat.{lt_of_le_of_lt}
use Rattle.std.proofs.lemmas.Bool.{and_from, and_parts, leb-true, leb-false, le-leb, ltb-false, le-ltb}
use Rattle.std.proofs.lemmas.List.{append-nil, append_assoc, drop_at, take_at, length-append}
use Rattle.std.proofs.lemmas.Slice.Eq.{bytes_eq-Decides}
use Rattle.byteorder.specs.Endian.{big_bytes, big_number}
use Rattle.byteorder.specs.Numbers.{big_number-reads_back}
use Rattle.ft_base.specs.Canonical.{number_at, octets_at}
use Rattle.ft_base.specs.Coding.{IsCoding}
use Rattle.servant_store.specs.Sayings as sayings
use Rattle.ft_base.specs.Machine.{FitsAs, IsGivenAs}
use Rattle.ft_base.specs.Text.{IsName}
use Rattle.ft_base.specs.declared.requests.Outcome.{Outcome}
use Rattle.ft_base.specs.declared.requests.Outcome.TheVariants.{Value, User}
use Rattle.servant_store.specs.Operations.{operation_of, signature_of}
use Rattle.servant_store.specs.Store.{Change, IsChange, IsStore, Pairs, advanced, behind_key, behind_value, change_said, changed, found, getting, is_change, is_key, is_pair, is_same, is_store, is_value, key_in, key_of, keys_in, order, pairs_in, pairs_said, putting, ran, read, read_change, removing, rises, rises_from, since, spelled, spelled_change, spelled_key, spelled_pair, store, told, value_in, value_of, was_put, with_pairs, without, without_key}
use Rattle.servant_store.specs.PairLaws.{among, eq_key, eq_self, filter_few, filter_ordered, filter_store, find_filter, find_with, find_without, found_sound, kept, or_else, out_all_is, out_all_ordered, put_all_is, put_store, same_key, so, with_ordered, with_sound, without_ordered, without_sound}
use Rattle.servant_store.specs.Views.{put_all, out_all}
use Rattle.servant_store.specs.declared.operations.Operation.{Operation}
use Rattle.servant_store.specs.declared.operations.Operation.TheVariants.{Put, Get, Remove, Size}

-- ---- a store and a change by their parts

pub parts : (s : Pairs) → is_store s ≡ true → IsStore s
parts s h =
    let first = and_parts (is_sorted order s) (nat_le (length s) 256 && list_all is_pair s) h in
    let second = and_parts (nat_le (length s) 256) (list_all is_pair s) first.1 in
    record { ordered = first.0; few = leb-true (length s) 256 second.0; sound = second.1 }

pub whole : (s : Pairs) → IsStore s → is_store s ≡ true
whole s h = and_from (is_sorted order s) _ h.ordered (and_from (nat_le (length s) 256) (list_all is_pair s) (le-leb (length s) 256 h.few) h.sound)

pub change_parts : (c : Change) → is_change c ≡ true → IsChange c
change_parts c h =
    let first = and_parts (rises c.gone && (nat_le (length c.gone) 256 && list_all is_key c.gone)) (is_store c.set && list_all (λ key. not (is_some (find order key c.set))) c.gone) h in
    let gone = and_parts (rises c.gone) (nat_le (length c.gone) 256 && list_all is_key c.gone) first.0 in
    let keys = and_parts (nat_le (length c.gone) 256) (list_all is_key c.gone) gone.1 in
    let set = and_parts (is_store c.set) (list_all (λ key. not (is_some (find order key c.set))) c.gone) first.1 in
    record { rising = gone.0; few = leb-true (length c.gone) 256 keys.0; keys = keys.1; set = parts c.set set.0; apart = set.1 }

pub change_whole : (c : Change) → IsChange c → is_change c ≡ true
change_whole c h =
    and_from (rises c.gone && (nat_le (length c.gone) 256 && list_all is_key c.gone)) (is_store c.set && list_all (λ key. not (is_some (find order key c.set))) c.gone)
    (and_from (rises c.gone) (nat_le (length c.gone) 256 && list_all is_key c.gone) h.rising
    (and_from (nat_le (length c.gone) 256) (list_all is_key c.gone) (le-leb (length c.gone) 256 h.few) h.keys))
    (and_from (is_store c.set) (list_all (λ key. not (is_some (find order key c.set))) c.gone) (whole c.set h.set) h.apart)

key_sizes : (key : List ℕ) → is_key key ≡ true → length key ≤ 64
key_sizes key h = leb-true (length key) 64 (and_parts (nat_le (length key) 64) _ (and_parts (nat_lt 0 (length key)) _ h).1).0

pub value_size : (value : List ℕ) → is_value value ≡ true → length value ≤ 256
value_size value h = leb-true (length value) 256 h

-- ---- bytes

key_back : (key more : List ℕ) → length key ≤ 64 → (key_in (spelled_key key ++ more) ≡ key) × (behind_key (spelled_key key ++ more) ≡ more)
key_back key more h =
    let back = big_number-reads_back 1 (length key) (key ++ more) (lt_of_le_of_lt h (lit< tt)) in
    let first : slice_index (spelled_key key ++ more) 0 ≡ length key = omega (arith, back) in
    (ap (λ n. take n (key ++ more)) first ∙ take_at key more (length key) refl, ap (λ n. drop n (key ++ more)) first ∙ drop_at key more (length key) refl)

value_back : (value more : List ℕ) → length value ≤ 256
    → (value_in ((big_bytes 2 (length value) ++ value) ++ more) ≡ value) × (behind_value ((big_bytes 2 (length value) ++ value) ++ more) ≡ more)
value_back value more h =
    let first : big_number 2 ((big_bytes 2 (length value) ++ value) ++ more) ≡ length value =
    big_number-reads_back 2 (length value) (value ++ more) (lt_of_le_of_lt h (lit< tt)) in
    (ap (λ n. take n (value ++ more)) first ∙ take_at value more (length value) refl, ap (λ n. drop n (value ++ more)) first ∙ drop_at value more (length value) refl)

pub pairs_back : (s : Pairs) (more : List ℕ) → list_all is_pair s ≡ true → pairs_in (length s) (flat_map spelled_pair s ++ more) ≡ (s, more)
unfolding pairs_in
pairs_back [] more h = refl
pairs_back (pair ∷ s) more h =
    let each = and_parts (is_pair pair) (list_all is_pair s) h in
    let sizes = and_parts (is_key pair.0) (is_value pair.1) each.0 in
    let value : List ℕ = big_bytes 2 (length pair.1) ++ pair.1 in
    let rest : List ℕ = flat_map spelled_pair s ++ more in
    let regrouped : flat_map spelled_pair (pair ∷ s) ++ more ≡ spelled_key pair.0 ++ ((big_bytes 2 (length pair.1) ++ pair.1) ++ (flat_map spelled_pair s ++ more)) =
    append_assoc (spelled_pair pair) (flat_map spelled_pair s) more
    ∙ append_assoc (spelled_key pair.0) (big_bytes 2 (length pair.1) ++ pair.1) (flat_map spelled_pair s ++ more) in
    let key = key_back pair.0 ((big_bytes 2 (length pair.1) ++ pair.1) ++ (flat_map spelled_pair s ++ more)) (key_sizes pair.0 sizes.0) in
    let found = value_back pair.1 (flat_map spelled_pair s ++ more) (value_size pair.1 sizes.1) in
    ap (pairs_in (suc (length s))) regrouped
    ∙ ap (λ k. let r = pairs_in (length s) (behind_value (behind_key (spelled_key pair.0 ++ ((big_bytes 2 (length pair.1) ++ pair.1) ++ (flat_map spelled_pair s ++ more))))) in ((k, value_in (behind_key (spelled_key pair.0 ++ ((big_bytes 2 (length pair.1) ++ pair.1) ++ (flat_map spelled_pair s ++ more))))) ∷ r.0, r.1)) key.0
    ∙ ap (λ (b : List ℕ). let r = pairs_in (length s) (behind_value b) in ((pair.0, value_in b) ∷ r.0, r.1)) key.1
    ∙ ap (λ (v : List ℕ). let r = pairs_in (length s) (behind_value ((big_bytes 2 (length pair.1) ++ pair.1) ++ (flat_map spelled_pair s ++ more))) in ((pair.0, v) ∷ r.0, r.1)) found.0
    ∙ ap (λ (b : List ℕ). let r = pairs_in (length s) b in (pair ∷ r.0, r.1)) found.1
    ∙ ap (λ (r : Pairs × List ℕ). (pair ∷ r.0, r.1)) (pairs_back s more each.1)

pub keys_back : (keys : List (List ℕ)) (more : List ℕ) → list_all is_key keys ≡ true → keys_in (length keys) (flat_map spelled_key keys ++ more) ≡ (keys, more)
unfolding keys_in
keys_back [] more h = refl
keys_back (key ∷ keys) more h =
    let each = and_parts (is_key key) (list_all is_key keys) h in
    let back = key_back key (flat_map spelled_key keys ++ more) (key_sizes key each.0) in
    ap (keys_in (suc (length keys))) (append_assoc (spelled_key key) (flat_map spelled_key keys) more)
    ∙ ap (λ k. let r = keys_in (length keys) (behind_key (spelled_key key ++ (flat_map spelled_key keys ++ more))) in (k ∷ r.0, r.1)) back.0
    ∙ ap (λ (b : List ℕ). let r = keys_in (length keys) b in (key ∷ r.0, r.1)) back.1
    ∙ ap (λ (r : List (List ℕ) × List ℕ). (key ∷ r.0, r.1)) (keys_back keys more each.1)

pub read_back : (s : Pairs) → IsStore s → read (spelled s) ≡ Some s
read_back s h =
    let count : big_number 4 (spelled s) ≡ length s = big_number-reads_back 4 (length s) (flat_map spelled_pair s) (lt_of_le_of_lt h.few (lit< tt)) in
    ap (λ n. Some (pairs_in n (flat_map spelled_pair s)).0) count
    ∙ ap (λ (b : List ℕ). Some (pairs_in (length s) b).0) (sym (append-nil (flat_map spelled_pair s)))
    ∙ ap (λ (r : Pairs × List ℕ). Some r.0) (pairs_back s [] h.sound)

change_of : List (List ℕ) × List ℕ → Option Change
change_of gone = Some (record { gone = gone.0; set = (pairs_in (big_number 2 gone.1) (drop 2 gone.1)).0 })

pub change_back : (c : Change) → IsChange c → read_change (spelled_change c) ≡ Some c
unfolding change_of
change_back c h =
    let set : List ℕ = big_bytes 2 (length c.set) ++ flat_map spelled_pair c.set in
    let count : big_number 2 (spelled_change c) ≡ length c.gone =
    big_number-reads_back 2 (length c.gone) (flat_map spelled_key c.gone ++ (big_bytes 2 (length c.set) ++ flat_map spelled_pair c.set)) (lt_of_le_of_lt h.few (lit< tt)) in
    let later : big_number 2 (big_bytes 2 (length c.set) ++ flat_map spelled_pair c.set) ≡ length c.set =
    big_number-reads_back 2 (length c.set) (flat_map spelled_pair c.set) (lt_of_le_of_lt h.set.few (lit< tt)) in
    let made : Pairs → Option Change = λ s. Some (record { gone = c.gone; set = s }) in
    ap (λ n. change_of (keys_in n (flat_map spelled_key c.gone ++ (big_bytes 2 (length c.set) ++ flat_map spelled_pair c.set)))) count
    ∙ ap change_of (keys_back c.gone (big_bytes 2 (length c.set) ++ flat_map spelled_pair c.set) h.keys)
    ∙ ap (λ n. made (pairs_in n (flat_map spelled_pair c.set)).0) later
    ∙ ap (λ (b : List ℕ). made (pairs_in (length c.set) b).0) (sym (append-nil (flat_map spelled_pair c.set)))
    ∙ ap (λ (r : Pairs × List ℕ). made r.0) (pairs_back c.set [] h.set.sound)

key_length : (key : List ℕ) → is_key key ≡ true → length (spelled_key key) ≤ 65
key_length key h = let few = key_sizes key h in omega (arith, few)

keys_length : (keys : List (List ℕ)) → list_all is_key keys ≡ true → length (flat_map spelled_key keys) ≤ 65 * length keys
keys_length [] h = omega arith
keys_length (key ∷ keys) h =
    let each = and_parts (is_key key) (list_all is_key keys) h in
    let first = key_length key each.0 in
    let rest = keys_length keys each.1 in
    let sum = length-append (spelled_key key) (flat_map spelled_key keys) in
    omega (arith, first, rest, sum)

pair_length : (pair : List ℕ × List ℕ) → is_pair pair ≡ true → length (spelled_pair pair) ≤ 323
pair_length pair h =
    let sizes = and_parts (is_key pair.0) (is_value pair.1) h in
    let key = key_length pair.0 sizes.0 in
    let value = value_size pair.1 sizes.1 in
    let sum = length-append (spelled_key pair.0) (big_bytes 2 (length pair.1) ++ pair.1) in
    omega (arith, key, value, sum)

pairs_length : (s : Pairs) → list_all is_pair s ≡ true → length (flat_map spelled_pair s) ≤ 323 * length s
pairs_length [] h = omega arith
pairs_length (pair ∷ s) h =
    let each = and_parts (is_pair pair) (list_all is_pair s) h in
    let first = pair_length pair each.0 in
    let rest = pairs_length s each.1 in
    let sum = length-append (spelled_pair pair) (flat_map spelled_pair s) in
    omega (arith, first, rest, sum)

pub length_spelled : (s : Pairs) → IsStore s → length (spelled s) ≤ 82692
length_spelled s h = let few = h.few in let sum = pairs_length s h.sound in omega (arith, few, sum)

pub length_change : (c : Change) → IsChange c → length (spelled_change c) ≤ 99332
length_change c h =
    let few = h.few in
    let keys = keys_length c.gone h.keys in
    let most = h.set.few in
    let pairs = pairs_length c.set h.set.sound in
    let sum = length-append (big_bytes 2 (length c.gone) ++ flat_map spelled_key c.gone) (big_bytes 2 (length c.set) ++ flat_map spelled_pair c.set) in
    omega (arith, few, keys, most, pairs, sum)

-- ---- operations

-- each branch of a put
by_put : (P : Pairs × Outcome → Type 0) (s : Pairs) (key value : List ℕ)
    → P (s, User (codes "BadKey")) → P (s, User (codes "BadValue")) → P (s, User (codes "StoreFull"))
    → ((known : Bool) → is_some (find order key s) ≡ known → is_key key ≡ true → is_value value ≡ true → (known ≡ false → length s < 256)
    → P (put order key value s, told (not known)))
    → P (putting s key value)
by_put P s key value bad_key bad_value is_full puts =
    let known : (b : Bool) → is_some (find order key s) ≡ b → is_key key ≡ true → is_value value ≡ true → P (was_put s key value b) =
    elim [
      | true ↦ λ e k v. puts true e k v (λ (f : true ≡ false). absurd cc)
      | false ↦ λ e k v.
          let room : (b : Bool) → nat_le 256 (length s) ≡ b → P (if b then (s, User (codes "StoreFull")) else (put order key value s, told true)) =
          elim [ true ↦ λ f. is_full | false ↦ λ f. puts false e k v (λ _. leb-false 256 (length s) f) ] in
          room (nat_le 256 (length s)) refl
    ] in
    let valued : (b : Bool) → is_value value ≡ b → is_key key ≡ true
    → P (if not b then (s, User (codes "BadValue")) else was_put s key value (is_some (find order key s))) =
    elim [ false ↦ λ e k. bad_value | true ↦ λ e k. known (is_some (find order key s)) refl k e ] in
    let keyed : (b : Bool) → is_key key ≡ b
    → P (if not b then (s, User (codes "BadKey")) else (if not (is_value value) then (s, User (codes "BadValue")) else was_put s key value (is_some (find order key s)))) =
    elim [ false ↦ λ e. bad_key | true ↦ λ e. valued (is_value value) refl e ] in
    keyed (is_key key) refl

by_remove : (P : Pairs × Outcome → Type 0) (s : Pairs) (key : List ℕ)
    → P (s, User (codes "BadKey")) → P (s, User (codes "NoKey")) → P (without_key key s, Value []) → P (removing s key)
by_remove P s key bad_key no_key removed =
    let known : (b : Bool) → P (if b then (without_key key s, Value []) else (s, User (codes "NoKey"))) = elim [ true ↦ removed | false ↦ no_key ] in
    let keyed : (b : Bool) → P (if not b then (s, User (codes "BadKey")) else (if is_some (find order key s) then (without_key key s, Value []) else (s, User (codes "NoKey")))) =
    elim [ false ↦ bad_key | true ↦ known (is_some (find order key s)) ] in
    keyed (is_key key)

ran_stays : (o : Option Operation) (s : Pairs) (args : List ℕ) → IsStore s → IsStore (ran o s args).0
ran_stays None s args h = h
ran_stays (Some Put) s args h =
    by_put (λ next. IsStore next.0) s (key_of args) (value_of args) h h h
    (λ known e k v room. put_store (key_of args) (value_of args) s k v h (λ f. room (sym e ∙ f)))
ran_stays (Some Get) s args h = h
ran_stays (Some Remove) s args h = by_remove (λ next. IsStore next.0) s (key_of args) h h (filter_store (λ pair. not (eq_by_cmp order (key_of args) pair.0)) s h)
ran_stays (Some Size) s args h = h

bad_key : IsName (codes "BadKey")
bad_key = record { filled = lit< tt; short = lit≤ tt; no_zero = refl }

bad_value : IsName (codes "BadValue")
bad_value = record { filled = lit< tt; short = lit≤ tt; no_zero = refl }

store_full : IsName (codes "StoreFull")
store_full = record { filled = lit< tt; short = lit≤ tt; no_zero = refl }

no_key : IsName (codes "NoKey")
no_key = record { filled = lit< tt; short = lit≤ tt; no_zero = refl }

told_gives : (b : Bool) → IsGivenAs (Some (signature_of Put)) (told b)
told_gives true = ((1 ∷ [], [], refl, (true, refl), refl), lit≤ tt)
told_gives false = ((0 ∷ [], [], refl, (false, refl), refl), lit≤ tt)

value_gives : (value : List ℕ) → length value ≤ 256 → IsGivenAs (Some (signature_of Get)) (Value (octets_at 0 value))
value_gives value few =
    let short : length value < 2 ^ 32 = omega (arith, few) in
    ((octets_at 0 value, [], sym (append-nil (octets_at 0 value)), (value, short, refl), refl), omega (arith, few))

found_gives : (o : Option (List ℕ)) → ((value : List ℕ) → o ≡ Some value → is_value value ≡ true) → IsGivenAs (Some (signature_of Get)) (found o)
found_gives None each = no_key
found_gives (Some value) each = value_gives value (value_size value (each value refl))

getting_gives : (s : Pairs) (key : List ℕ) → IsStore s → IsGivenAs (Some (signature_of Get)) (getting s key)
getting_gives s key h =
    let go : (b : Bool) → IsGivenAs (Some (signature_of Get)) (if not b then User (codes "BadKey") else found (find order key s)) =
    elim [ false ↦ bad_key | true ↦ found_gives (find order key s) (λ value is. found_sound key s value h.sound is) ] in
    go (is_key key)

size_gives : (n : ℕ) → n ≤ 256 → IsGivenAs (Some (signature_of Size)) (Value (number_at 4 0 n))
size_gives n h = let short : n < 2 ^ 32 = omega (arith, h) in ((number_at 4 0 n, [], refl, (n, short, refl), refl), lit≤ tt)

ran_gives : (o : Option Operation) (s : Pairs) (args : List ℕ) → IsStore s → FitsAs (option_map signature_of o) args
    → IsGivenAs (option_map signature_of o) (ran o s args).1
ran_gives None s args h fits = fits
ran_gives (Some Put) s args h fits =
    by_put (λ next. IsGivenAs (Some (signature_of Put)) next.1) s (key_of args) (value_of args) bad_key bad_value store_full
    (λ known e k v room. told_gives (not known))
ran_gives (Some Get) s args h fits = getting_gives s (key_of args) h
ran_gives (Some Remove) s args h fits =
    by_remove (λ next. IsGivenAs (Some (signature_of Remove)) next.1) s (key_of args) bad_key no_key (refl, lit≤ tt)
ran_gives (Some Size) s args h fits = size_gives (length s) h.few

-- ---- updates

is_gone : Pairs → List ℕ × List ℕ → Bool
is_gone later pair = not (is_some (find order pair.0 later))

is_set : Pairs → List ℕ × List ℕ → Bool
is_set base pair = not (is_same pair.1 (find order pair.0 base))

among_gone : (q : List ℕ) (base later : Pairs)
    → among q (map (λ pair. pair.0) (filter (is_gone later) base)) ≡ (is_some (find order q base) && not (is_some (find order q later)))
unfolding among is_gone
among_gone q [] later = refl
among_gone q (e ∷ es) later =
    let rest = among_gone q es later in
    let gone : Bool = not (is_some (find order q later)) in
    let at : (b : Bool) → eq_by_cmp order q e.0 ≡ b → (t : Bool) → not (is_some (find order e.0 later)) ≡ t
    → list_any (eq_by_cmp order q) (map (λ pair. pair.0) (cond t (e ∷ filter (is_gone later) es) (filter (is_gone later) es)))
    ≡ (is_some (cond b (Some e.1) (find order q es)) && not (is_some (find order q later))) =
    elim [
      | true ↦ λ b.
          let same : q ≡ e.0 = eq_key q e.0 b in
          let asked : not (is_some (find order e.0 later)) ≡ not (is_some (find order q later)) = ap (λ (x : List ℕ). not (is_some (find order x later))) (sym same) in
          elim [
            | true ↦ λ t. ap (λ c. c || list_any (eq_by_cmp order q) (map (λ pair. pair.0) (filter (is_gone later) es))) b ∙ sym t ∙ asked
            | false ↦ λ t.
                let none : not (is_some (find order q later)) ≡ false = sym asked ∙ t in
                rest ∙ ap (λ c. is_some (find order q es) && c) none ∙ and_false (is_some (find order q es)) ∙ sym none
          ]
      | false ↦ λ b. elim [
        | true ↦ λ t. ap (λ c. c || list_any (eq_by_cmp order q) (map (λ pair. pair.0) (filter (is_gone later) es))) b ∙ rest
        | false ↦ λ t. rest
      ]
    ] in
    at (eq_by_cmp order q e.0) refl (not (is_some (find order e.0 later))) refl
  where
    and_false : (b : Bool) → (b && false) ≡ false
    and_false true = refl
    and_false false = refl

-- what a key has after the change, by what it had before and has later
same_value : (value other : List ℕ) → bytes_eq other value ≡ true → other ≡ value
same_value value other h = (bytes_eq-Decides other value).0 h

agrees : (q : List ℕ) (base : Pairs) (before after : Option (List ℕ)) → find order q base ≡ before
    → or_else (kept (is_set base) q after) (cond (is_some before && not (is_some after)) None before) ≡ after
unfolding or_else kept is_set
agrees q base None None is = refl
agrees q base (Some w) None is = refl
agrees q base None (Some v) is =
    ap (λ (o : Option (List ℕ)). or_else (if not (is_same v o) then Some v else None) None) is
agrees q base (Some w) (Some v) is =
    let go : (b : Bool) → bytes_eq w v ≡ b → or_else (if not b then Some v else None) (Some w) ≡ Some v =
    elim [ true ↦ λ e. ap (λ (x : List ℕ). Some x) (same_value v w e) | false ↦ λ e. refl ] in
    ap (λ (o : Option (List ℕ)). or_else (if not (is_same v o) then Some v else None) (Some w)) is ∙ go (bytes_eq w v) refl

changed_since : (base later : Pairs) → IsStore base → IsStore later → changed base (since base later) ≡ later
unfolding is_gone is_set
changed_since base later h k =
    same_entries order nat_list_cmp_total same_key (changed base (since base later)) later
    (so (is_sorted order (changed base (since base later))) (with_ordered (since base later).set (without (since base later).gone base) (without_ordered (since base later).gone base h.ordered)))
    (so (is_sorted order later) k.ordered)
    (λ q.
    find_with q (since base later).set (without (since base later).gone base)
    ∙ ap (λ o. or_else o (find order q (without (since base later).gone base))) (find_filter (is_set base) q later k.ordered)
    ∙ ap (or_else (kept (is_set base) q (find order q later)))
    (find_without q (since base later).gone base ∙ ap (λ b. cond b None (find order q base)) (among_gone q base later))
    ∙ agrees q base (find order q base) (find order q later) refl)

-- the keys that are gone: each was there, and none is there later
all_gone : (P : List ℕ → Bool) (later : Pairs) (es : Pairs)
    → ((key : List ℕ) → is_some (find order key es) ≡ true → not (is_some (find order key later)) ≡ true → P key ≡ true)
    → list_all P (map (λ pair. pair.0) (filter (is_gone later) es)) ≡ true
unfolding is_gone
all_gone P later [] each = refl
all_gone P later (e ∷ es) each =
    let there : (b : Bool) (key : List ℕ) → is_some (find order key es) ≡ true → is_some (cond b (Some e.1) (find order key es)) ≡ true =
    elim [ true ↦ λ key h. refl | false ↦ λ key h. h ] in
    let rest = all_gone P later es (λ key h g. each key (there (eq_by_cmp order key e.0) key h) g) in
    let go : (t : Bool) → not (is_some (find order e.0 later)) ≡ t
    → list_all P (map (λ pair. pair.0) (cond t (e ∷ filter (is_gone later) es) (filter (is_gone later) es))) ≡ true =
    elim [
      | true ↦ λ t. and_from (P e.0) (list_all P (map (λ pair. pair.0) (filter (is_gone later) es)))
          (each e.0 (ap (λ b. is_some (cond b (Some e.1) (find order e.0 es))) (eq_self e.0)) t) rest
      | false ↦ λ t. rest
    ] in
    go (not (is_some (find order e.0 later))) refl

gone_keys : (later : Pairs) (es : Pairs) → list_all is_pair es ≡ true → list_all is_key (map (λ pair. pair.0) (filter (is_gone later) es)) ≡ true
unfolding is_gone
gone_keys later [] h = refl
gone_keys later (e ∷ es) h =
    let each = and_parts (is_pair e) (list_all is_pair es) h in
    let rest = gone_keys later es each.1 in
    let go : (t : Bool) → list_all is_key (map (λ pair. pair.0) (cond t (e ∷ filter (is_gone later) es) (filter (is_gone later) es))) ≡ true =
    elim [
      | true ↦ and_from (is_key e.0) (list_all is_key (map (λ pair. pair.0) (filter (is_gone later) es))) (and_parts (is_key e.0) (is_value e.1) each.0).0 rest
      | false ↦ rest
    ] in
    go (not (is_some (find order e.0 later)))

length_keys : (s : Pairs) → length (map (λ (pair : List ℕ × List ℕ). pair.0) s) ≡ length s
length_keys [] = refl
length_keys (e ∷ es) = ap suc (length_keys es)

rises_behind : (key : List ℕ) (s : Pairs) → below_all order key s ≡ true → is_sorted order s ≡ true → rises_from key (map (λ pair. pair.0) s) ≡ true
rises_behind key [] below h = refl
rises_behind key (e ∷ es) below h =
    let each = and_parts (below_all order e.0 es) (is_sorted order es) h in
    and_from (is_lt (order key e.0)) (rises_from e.0 (map (λ pair. pair.0) es)) (and_parts (is_lt (order key e.0)) (below_all order key es) below).0
    (rises_behind e.0 es each.0 each.1)

keys_rise : (s : Pairs) → is_sorted order s ≡ true → rises (map (λ pair. pair.0) s) ≡ true
keys_rise [] h = refl
keys_rise (e ∷ es) h = let each = and_parts (below_all order e.0 es) (is_sorted order es) h in rises_behind e.0 es each.0 each.1

-- a key that is nowhere later is in no pair that is set
unset : (base later : Pairs) (key : List ℕ) → is_sorted order later ≡ true → not (is_some (find order key later)) ≡ true
    → not (is_some (find order key (filter (is_set base) later))) ≡ true
unfolding kept
unset base later key h none =
    let go : (o : Option (List ℕ)) → not (is_some o) ≡ true → not (is_some (kept (is_set base) key o)) ≡ true =
    elim [ None ↦ λ e. refl | Some v ↦ λ (e : false ≡ true). absurd cc ] in
    ap (λ o. not (is_some o)) (find_filter (is_set base) key later h) ∙ go (find order key later) none

pub since_change : (base later : Pairs) → IsStore base → IsStore later → IsChange (since base later)
unfolding is_gone is_set
since_change base later h k = record {
  rising = keys_rise (filter (is_gone later) base) (filter_ordered (is_gone later) base h.ordered);
  few = (let fewer = filter_few (is_gone later) base in let size = length_keys (filter (is_gone later) base) in let few = h.few in omega (arith, fewer, size, few));
  keys = gone_keys later base h.sound;
  set = filter_store (is_set base) later k;
  apart = all_gone (λ key. not (is_some (find order key (filter (is_set base) later)))) later base (λ key there none. unset base later key k.ordered none);
}

-- an update that isn't refused
advanced_is : (base : Pairs) (c : Change) → list_all (λ key. is_some (find order key base)) c.gone ≡ true → length (changed base c) ≤ 256
    → advanced base (Some c) ≡ Some (changed base c)
advanced_is base c there few =
    ap (λ b. if not b then None else (if nat_lt 256 (length (changed base c)) then None else Some (changed base c))) there
    ∙ ap (λ b. if b then None else Some (changed base c)) (le-ltb 256 (length (changed base c)) few)

led : (base later : Pairs) → IsStore base → IsStore later → advanced base (Some (since base later)) ≡ Some later
unfolding is_gone
led base later h k =
    let same = changed_since base later h k in
    advanced_is base (since base later) (all_gone (λ key. is_some (find order key base)) later base (λ key there none. there))
    (subst (λ (s : Pairs). length s ≤ 256) (sym same) k.few)
    ∙ ap (λ (s : Pairs). Some s) same

pub changed_store : (base : Pairs) (c : Change) → IsStore base → IsChange c → length (changed base c) ≤ 256 → IsStore (changed base c)
changed_store base c h k few = record {
  ordered = with_ordered c.set (without c.gone base) (without_ordered c.gone base h.ordered);
  few = few;
  sound = with_sound c.set (without c.gone base) k.set.sound (without_sound c.gone base h.sound);
}

-- the pairs after a change, by maps to which it is given key by key
pub changed_is : (base : Pairs) (c : Change) → is_sorted order base ≡ true → is_sorted order c.set ≡ true → put_all c.set (out_all c.gone base) ≡ changed base c
changed_is base c h k =
    put_all_is c.set (out_all c.gone base) k (out_all_ordered c.gone base h)
    ∙ ap (with_pairs c.set) (out_all_is c.gone base h)

advanced_stays : (base later : Pairs) (c : Change) → IsStore base → IsChange c → advanced base (Some c) ≡ Some later → IsStore later
advanced_stays base later c h k is =
    let go : (a b : Bool) → nat_lt 256 (length (changed base c)) ≡ b
    → (if not a then None else (if b then None else Some (changed base c))) ≡ Some later → IsStore later =
    elim [
      | false ↦ λ b e is. absurd cc
      | true ↦ elim [
        | true ↦ λ e is. absurd cc
        | false ↦ λ e is.
            let same : changed base c ≡ later = cc in
            subst IsStore same (changed_store base c h k (ltb-false 256 (length (changed base c)) e))
      ]
    ] in
    go (list_all (λ key. is_some (find order key base)) c.gone) (nat_lt 256 (length (changed base c))) refl is

update_stays_by : (base : Pairs) (o : Option Change) (later : Pairs) → IsStore base → ((c : Change) → o ≡ Some c → IsChange c)
    → advanced base o ≡ Some later → IsStore later
update_stays_by base None later h each is = absurd cc
update_stays_by base (Some c) later h each is = advanced_stays base later c h (each c refl) is

-- ---- what bytes say

pub pairs_found : (s : Pairs) → IsStore s → pairs_said (spelled s) ≡ Some s
unfolding pairs_said
pairs_found s h = sayings.said_again_by is_store spelled read s (whole s h) (read_back s h)

pub change_found : (c : Change) → IsChange c → change_said (spelled_change c) ≡ Some c
unfolding change_said
change_found c h = sayings.said_again_by is_change spelled_change read_change c (change_whole c h) (change_back c h)

pub pairs_say : (bytes : List ℕ) (s : Pairs) → pairs_said bytes ≡ Some s → IsStore s × (bytes ≡ spelled s)
unfolding pairs_said
pairs_say bytes s is = let said = sayings.said_only is_store spelled read bytes s is in (parts s said.0, said.1)

pub change_says : (bytes : List ℕ) (c : Change) → change_said bytes ≡ Some c → IsChange c × (bytes ≡ spelled_change c)
unfolding change_said
change_says bytes c is = let said = sayings.said_only is_change spelled_change read_change bytes c is in (change_parts c said.0, said.1)

pub owes : IsCoding store (λ base later. Unit {0})
unfolding store
owes = record {
  opens = refl;
  reads_back = λ s h. read_back s (parts s h);
  short = λ s h. (let few = length_spelled s (parts s h) in omega (arith, few));
  stays = λ s q h fits. whole (ran (operation_of q.op) s q.args).0 (ran_stays (operation_of q.op) s q.args (parts s h));
  gives = λ s q h fits. ran_gives (operation_of q.op) s q.args (parts s h) fits;
  update_short = λ base later h k. (let few = length_change (since base later) (since_change base later (parts base h) (parts later k)) in omega (arith, few));
  update_stays = λ base later u h is. whole later (update_stays_by base (change_said u) later (parts base h) (λ c e. (change_says u c e).0) is);
  leads_itself = λ s h. tt;
  leads_on = λ base s q h k fits leads. tt;
  updates = λ base later h k leads.
      ap (advanced base) (change_found (since base later) (since_change base later (parts base h) (parts later k))) ∙ led base later (parts base h) (parts later k);
}
