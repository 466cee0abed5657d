-- Maps as lists of pairs.
use Rattle.std.proofs.Common.{◌≡◌, ℕ, zero, suc, ◌+◌, ◌-◌, ◌<◌, ◌≤◌, Bool, true, false, not, cond, List, [], ◌∷◌, ◌++◌, length, drop, Option, Some, None, option_map, Bor, refl, ap, sym, ◌∙◌, append_assoc, arith}
use Rattle.std.specs.Prelude.{is_some}
use Rattle.std.specs.BTreeMap.{insert_entry, is_at}
use Rattle.std.specs.Map.{lookup, remove_entry}
use Rattle.std.specs.Option.{option_copied}
use Rattle.std.specs.Cmp.Lexicographic.{slice_cmp}
use Rattle.std.specs.FinMap.{find, put, is_sorted}
use Rattle.std.specs.FinMap.Entries.{by_order, below_all}
use Rattle.std.specs.Ordering.{eq_by_cmp, is_eq, match_ordering, nat_cmp}
use Rattle.std.specs.declared.cmp.Ordering.{Ordering}
use Rattle.std.specs.declared.cmp.Ordering.TheVariants.{Less, Equal, Greater}
use Rattle.std.specs.declared.vec.Vec.{Vec}
use Rattle.std.proofs.lemmas.Bool.{and_parts}
use Rattle.std.proofs.lemmas.List.{append-nil}
use Rattle.servant_store.specs.PairLaws.{below_kept}
use Rattle.servant_store.specs.Store.{Pairs, behind_key, behind_value, key_in, keys_in, order, pairs_in, rises, value_in, without_key}
use Rattle.servant_store.specs.Views.{keys_of, pairs_of, put_all}

module _ {A B : Type 0} where
  pub find_view : (key : List ℕ) (es : List (Vec ℕ A × Vec ℕ B)) (o : Option (Vec ℕ B)) → o ≡ lookup (is_at (λ (k : Vec ℕ A). slice_cmp nat_cmp key k.items)) es
      → option_map (λ (v : Vec ℕ B). v.items) o ≡ find order key (pairs_of es)
  find_view key es o is = ap (option_map (λ (v : Vec ℕ B). v.items)) is ∙ at es
    where
      at : (es : List (Vec ℕ A × Vec ℕ B)) → option_map (λ (v : Vec ℕ B). v.items) (lookup (is_at (λ (k : Vec ℕ A). slice_cmp nat_cmp key k.items)) es) ≡ find order key (pairs_of es)
      at [] = refl
      at (e ∷ es) =
          let rest = at es in
          let go : (b : Bool) → option_map (λ (v : Vec ℕ B). v.items) (cond b (Some e.1) (lookup (is_at (λ (k : Vec ℕ A). slice_cmp nat_cmp key k.items)) es)) ≡ cond b (Some e.1.items) (find order key (pairs_of es)) =
          elim [ true ↦ refl | false ↦ rest ] in
          go (is_eq (slice_cmp nat_cmp key e.0.items))

  pub has_view : (key : List ℕ) (es : List (Vec ℕ A × Vec ℕ B)) → is_some (lookup (is_at (λ (k : Vec ℕ A). slice_cmp nat_cmp key k.items)) es) ≡ is_some (find order key (pairs_of es))
  has_view key [] = refl
  has_view key (e ∷ es) =
      let rest = has_view key es in
      let go : (b : Bool) → is_some (cond b (Some e.1) (lookup (is_at (λ (k : Vec ℕ A). slice_cmp nat_cmp key k.items)) es)) ≡ is_some (cond b (Some e.1.items) (find order key (pairs_of es))) =
      elim [ true ↦ refl | false ↦ rest ] in
      go (is_eq (slice_cmp nat_cmp key e.0.items))

  pub put_view : (k : Vec ℕ A) (v : Vec ℕ B) (es : List (Vec ℕ A × Vec ℕ B))
      → pairs_of (insert_entry (λ (x y : Vec ℕ A). slice_cmp nat_cmp x.items y.items) es k v) ≡ put order k.items v.items (pairs_of es)
  put_view k v [] = refl
  put_view k v (e ∷ es) =
      let rest = put_view k v es in
      let go : (o : Ordering) → pairs_of (match_ordering o ((k, v) ∷ e ∷ es) ((e.0, v) ∷ es) (e ∷ insert_entry (λ (x y : Vec ℕ A). slice_cmp nat_cmp x.items y.items) es k v))
      ≡ by_order o ((k.items, v.items) ∷ pairs_of (e ∷ es)) ((e.0.items, v.items) ∷ pairs_of es) ((e.0.items, e.1.items) ∷ put order k.items v.items (pairs_of es)) =
      elim [ Less ↦ refl | Equal ↦ refl | Greater ↦ ap (λ (s : Pairs). (e.0.items, e.1.items) ∷ s) rest ] in
      go (slice_cmp nat_cmp k.items e.0.items)

  pub removed_view : (key : List ℕ) (es : List (Vec ℕ A × Vec ℕ B)) → is_sorted order (pairs_of es) ≡ true
      → pairs_of (remove_entry (is_at (λ (k : Vec ℕ A). slice_cmp nat_cmp key k.items)) es) ≡ without_key key (pairs_of es)
  removed_view key [] h = refl
  removed_view key (e ∷ es) h =
      let each = and_parts (below_all order e.0.items (pairs_of es)) (is_sorted order (pairs_of es)) h in
      let rest = removed_view key es each.1 in
      let go : (b : Bool) → eq_by_cmp order key e.0.items ≡ b
      → pairs_of (cond b es (e ∷ remove_entry (is_at (λ (k : Vec ℕ A). slice_cmp nat_cmp key k.items)) es))
      ≡ cond (not b) ((e.0.items, e.1.items) ∷ without_key key (pairs_of es)) (without_key key (pairs_of es)) =
      elim [
        | true ↦ λ f. sym (below_kept key e.0.items (pairs_of es) f each.0)
        | false ↦ λ f. ap (λ (s : Pairs). (e.0.items, e.1.items) ∷ s) rest
      ] in
      go (eq_by_cmp order key e.0.items) refl

pub copied_items : {B : Type 0} (o : Option (Bor (Vec ℕ B))) → option_map (λ (v : Bor (Vec ℕ B)). v.now.items) o ≡ option_map (λ (v : Vec ℕ B). v.items) (option_copied o)
copied_items None = refl
copied_items (Some v) = refl

-- ---- one step of a loop over bytes

one_pair : (n m : ℕ) (bytes : List ℕ) → n ≡ suc m
    → pairs_in n bytes ≡ ((key_in bytes, value_in (behind_key bytes)) ∷ (pairs_in m (behind_value (behind_key bytes))).0, (pairs_in m (behind_value (behind_key bytes))).1)
unfolding pairs_in
one_pair n m bytes e = ap (λ k. pairs_in k bytes) e

pub pairs_more : (count i : ℕ) (bytes : List ℕ) (now : Pairs) (goal : Pairs) → i < count → put_all (pairs_in (count - i) bytes).0 now ≡ goal
    → put_all (pairs_in (count - (i + 1)) (behind_value (behind_key bytes))).0 (put order (key_in bytes) (value_in (behind_key bytes)) now) ≡ goal
pairs_more count i bytes now goal h is =
    sym (ap (λ (r : Pairs × List ℕ). put_all r.0 now) (one_pair (count - i) (count - (i + 1)) bytes (omega arith))) ∙ is

pub pairs_rest_more : (count i : ℕ) (bytes goal : List ℕ) → i < count → (pairs_in (count - i) bytes).1 ≡ goal
    → (pairs_in (count - (i + 1)) (behind_value (behind_key bytes))).1 ≡ goal
pairs_rest_more count i bytes goal h is =
    sym (ap (λ (r : Pairs × List ℕ). r.1) (one_pair (count - i) (count - (i + 1)) bytes (omega arith))) ∙ is

pub pairs_none : (bytes : List ℕ) → pairs_in 0 bytes ≡ ([], bytes)
unfolding pairs_in
pairs_none bytes = refl

one_key : (n m : ℕ) (bytes : List ℕ) → n ≡ suc m
    → keys_in n bytes ≡ (key_in bytes ∷ (keys_in m (behind_key bytes)).0, (keys_in m (behind_key bytes)).1)
unfolding keys_in
one_key n m bytes e = ap (λ k. keys_in k bytes) e

pub keys_more : (count i : ℕ) (bytes : List ℕ) (now goal : List (List ℕ)) → i < count → now ++ (keys_in (count - i) bytes).0 ≡ goal
    → (now ++ key_in bytes ∷ []) ++ (keys_in (count - (i + 1)) (behind_key bytes)).0 ≡ goal
keys_more count i bytes now goal h is =
    append_assoc now (key_in bytes ∷ []) (keys_in (count - (i + 1)) (behind_key bytes)).0
    ∙ sym (ap (λ (r : List (List ℕ) × List ℕ). now ++ r.0) (one_key (count - i) (count - (i + 1)) bytes (omega arith))) ∙ is

pub keys_rest_more : (count i : ℕ) (bytes goal : List ℕ) → i < count → (keys_in (count - i) bytes).1 ≡ goal
    → (keys_in (count - (i + 1)) (behind_key bytes)).1 ≡ goal
keys_rest_more count i bytes goal h is =
    sym (ap (λ (r : List (List ℕ) × List ℕ). r.1) (one_key (count - i) (count - (i + 1)) bytes (omega arith))) ∙ is

pub keys_none : (bytes : List ℕ) → keys_in 0 bytes ≡ ([], bytes)
unfolding keys_in
keys_none bytes = refl

pub pairs_end : (count i : ℕ) (bytes : List ℕ) (now goal : Pairs) → count ≤ i → put_all (pairs_in (count - i) bytes).0 now ≡ goal → now ≡ goal
pairs_end count i bytes now goal h is =
    sym (ap (λ (r : Pairs × List ℕ). put_all r.0 now) (ap (λ n. pairs_in n bytes) (let e : count - i ≡ 0 = omega arith in e) ∙ pairs_none bytes)) ∙ is

pub pairs_rest_end : (count i : ℕ) (bytes goal : List ℕ) → count ≤ i → (pairs_in (count - i) bytes).1 ≡ goal → bytes ≡ goal
pairs_rest_end count i bytes goal h is =
    sym (ap (λ (r : Pairs × List ℕ). r.1) (ap (λ n. pairs_in n bytes) (let e : count - i ≡ 0 = omega arith in e) ∙ pairs_none bytes)) ∙ is

pub keys_end : (count i : ℕ) (bytes : List ℕ) (now goal : List (List ℕ)) → count ≤ i → now ++ (keys_in (count - i) bytes).0 ≡ goal → now ≡ goal
keys_end count i bytes now goal h is =
    sym (append-nil now)
    ∙ sym (ap (λ (r : List (List ℕ) × List ℕ). now ++ r.0) (ap (λ n. keys_in n bytes) (let e : count - i ≡ 0 = omega arith in e) ∙ keys_none bytes)) ∙ is

pub keys_rest_end : (count i : ℕ) (bytes goal : List ℕ) → count ≤ i → (keys_in (count - i) bytes).1 ≡ goal → bytes ≡ goal
keys_rest_end count i bytes goal h is =
    sym (ap (λ (r : List (List ℕ) × List ℕ). r.1) (ap (λ n. keys_in n bytes) (let e : count - i ≡ 0 = omega arith in e) ∙ keys_none bytes)) ∙ is

-- a key that joins others
pub keys_push : {A : Type 0} (keys : List (Vec ℕ A)) (key : Vec ℕ A) → keys_of (keys ++ key ∷ []) ≡ keys_of keys ++ key.items ∷ []
keys_push [] key = refl
keys_push (k ∷ keys) key = ap (λ (ks : List (List ℕ)). k.items ∷ ks) (keys_push keys key)

-- fewer than two keys rise
pub rises_short : {A : Type 0} (keys : List (Vec ℕ A)) (n : ℕ) → length keys ≤ n + 1 → rises (keys_of (drop n keys)) ≡ true
rises_short [] zero h = refl
rises_short (k ∷ []) zero h = refl
rises_short (k ∷ l ∷ keys) zero h = absurd (omega arith)
rises_short [] (suc n) h = refl
rises_short (k ∷ keys) (suc n) h = rises_short keys n (omega arith)

pub length_pairs : {A B : Type 0} (es : List (Vec ℕ A × Vec ℕ B)) → length (pairs_of es) ≡ length es
length_pairs [] = refl
length_pairs (e ∷ es) = ap suc (length_pairs es)

pub length_keys : {A : Type 0} (keys : List (Vec ℕ A)) → length (keys_of keys) ≡ length keys
length_keys [] = refl
length_keys (k ∷ keys) = ap suc (length_keys keys)
