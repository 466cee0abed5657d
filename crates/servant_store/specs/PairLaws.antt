-- Pairs in the order of their keys: puts, removals and tests leave them so, and what each key has then.
use Rattle.std.proofs.Common.{◌≡◌, ℕ, suc, ◌+◌, ◌<◌, ◌≤◌, Bool, true, false, ◌||◌, not, if◌then◌else◌, cond, List, [], ◌∷◌, ◌++◌, length, Option, Some, None, refl, ap, sym, subst, ◌∙◌, arith}
use Rattle.std.specs.Prelude.{is_some, T}
use Rattle.std.specs.Cmp.{eq_by_cmp_equiv, tied_itself}
use Rattle.std.specs.Cmp.Lexicographic.{nat_list_cmp_total}
use Rattle.std.specs.FinMap.{find, put, is_sorted, slice_cmp-IsAntisymmetric, nat_cmp-IsAntisymmetric}
use Rattle.std.specs.FinMap.Entries.{by_order, below_all, is_sorted-put, find-put, find-where_key, length-put, same_entries}
use Rattle.std.specs.List.{filter, list_all, list_any}
use Rattle.std.specs.declared.cmp.Ordering.{Ordering}
use Rattle.std.specs.Ordering.{eq_by_cmp, is_eq, is_lt, ordering_reverse}
use Rattle.std.specs.declared.cmp.Ordering.TheVariants.{Less, Equal, Greater}
use Rattle.std.proofs.lemmas.Bool.{and_from, and_parts}
use Rattle.std.proofs.lemmas.List.{append-nil, append_assoc}
use Rattle.servant_store.specs.Store.{IsStore, Pairs, is_key, is_pair, is_value, order, with_pairs, without, without_key}
use Rattle.servant_store.specs.Views.{put_all, out_all}

pub so : (b : Bool) → b ≡ true → T b
so b e = subst T (sym e) tt

holds : (b : Bool) → T b → b ≡ true
holds true h = refl
holds false h = absurd h

-- ---- keys in their order

pub same_key : (x y : List ℕ) → order x y ≡ Equal → x ≡ y
same_key = slice_cmp-IsAntisymmetric nat_cmp-IsAntisymmetric

tied : (o : Ordering) → is_eq o ≡ true → o ≡ Equal
tied Less h = absurd cc
tied Equal h = refl
tied Greater h = absurd cc

pub eq_key : (x y : List ℕ) → eq_by_cmp order x y ≡ true → x ≡ y
eq_key x y h = same_key x y (tied (order x y) h)

pub eq_self : (x : List ℕ) → eq_by_cmp order x x ≡ true
eq_self x = ap is_eq (tied_itself nat_list_cmp_total x)

eq_turned : (x y : List ℕ) → eq_by_cmp order x y ≡ eq_by_cmp order y x
eq_turned x y = (eq_by_cmp_equiv nat_list_cmp_total).symm x y

less_not_eq : (o : Ordering) → is_lt o ≡ true → is_eq o ≡ false
less_not_eq Less h = refl
less_not_eq Equal h = absurd cc
less_not_eq Greater h = refl

find_below : (q : List ℕ) (s : Pairs) → below_all order q s ≡ true → find order q s ≡ None
find_below q [] h = refl
find_below q (e ∷ es) h =
    let each = and_parts (is_lt (order q e.0)) (below_all order q es) h in
    let less : (o : Ordering) → is_lt o ≡ true → cond (is_eq o) (Some e.1) (find order q es) ≡ None =
    elim [ Less ↦ λ f. find_below q es each.1 | Equal ↦ λ (f : false ≡ true). absurd cc | Greater ↦ λ (f : false ≡ true). absurd cc ] in
    less (order q e.0) each.0

-- ---- a pair that is put, and the pairs that pass a test

pub put_sound : (key value : List ℕ) (s : Pairs) → is_key key ≡ true → is_value value ≡ true → list_all is_pair s ≡ true → list_all is_pair (put order key value s) ≡ true
put_sound key value [] k v h = and_from (is_pair (key, value)) true (and_from (is_key key) (is_value value) k v) refl
put_sound key value (e ∷ es) k v h =
    let each = and_parts (is_pair e) (list_all is_pair es) h in
    let old = and_parts (is_key e.0) (is_value e.1) each.0 in
    let new : is_pair (key, value) ≡ true = and_from (is_key key) (is_value value) k v in
    let go : (o : Ordering) → list_all is_pair (by_order o ((key, value) ∷ e ∷ es) ((e.0, value) ∷ es) (e ∷ put order key value es)) ≡ true =
    elim [
      | Less ↦ and_from (is_pair (key, value)) (list_all is_pair (e ∷ es)) new h
      | Equal ↦ and_from (is_pair (e.0, value)) (list_all is_pair es) (and_from (is_key e.0) (is_value value) old.0 v) each.1
      | Greater ↦ and_from (is_pair e) (list_all is_pair (put order key value es)) each.0 (put_sound key value es k v each.1)
    ] in
    go (order key e.0)

pub put_ordered : (key value : List ℕ) (s : Pairs) → is_sorted order s ≡ true → is_sorted order (put order key value s) ≡ true
put_ordered key value s h = holds (is_sorted order (put order key value s)) (is_sorted-put order nat_list_cmp_total key value s (so (is_sorted order s) h))

put_few : (key value : List ℕ) (s : Pairs) → is_sorted order s ≡ true → length s ≤ 256 → (is_some (find order key s) ≡ false → length s < 256)
    → length (put order key value s) ≤ 256
put_few key value s ordered few room =
    let size = length-put order nat_list_cmp_total key value s (so (is_sorted order s) ordered) in
    let go : (b : Bool) → is_some (find order key s) ≡ b → cond b (length s) (length s + 1) ≤ 256 =
    elim [ true ↦ λ e. few | false ↦ λ e. let below = room e in omega (arith, below) ] in
    subst (λ (n : ℕ). n ≤ 256) (sym size) (go (is_some (find order key s)) refl)

pub put_store : (key value : List ℕ) (s : Pairs) → is_key key ≡ true → is_value value ≡ true → IsStore s
    → (is_some (find order key s) ≡ false → length s < 256) → IsStore (put order key value s)
put_store key value s k v h room = record {
  ordered = put_ordered key value s h.ordered;
  few = put_few key value s h.ordered h.few room;
  sound = put_sound key value s k v h.sound;
}

filter_sound : (test : List ℕ × List ℕ → Bool) (s : Pairs) → list_all is_pair s ≡ true → list_all is_pair (filter test s) ≡ true
filter_sound test [] h = refl
filter_sound test (e ∷ es) h =
    let each = and_parts (is_pair e) (list_all is_pair es) h in
    let rest = filter_sound test es each.1 in
    let go : (b : Bool) → list_all is_pair (cond b (e ∷ filter test es) (filter test es)) ≡ true =
    elim [ true ↦ and_from (is_pair e) (list_all is_pair (filter test es)) each.0 rest | false ↦ rest ] in
    go (test e)

pub filter_few : (test : List ℕ × List ℕ → Bool) (s : Pairs) → length (filter test s) ≤ length s
filter_few test [] = omega arith
filter_few test (e ∷ es) =
    let rest = filter_few test es in
    let go : (b : Bool) → length (cond b (e ∷ filter test es) (filter test es)) ≤ suc (length es) =
    elim [ true ↦ omega (arith, rest) | false ↦ omega (arith, rest) ] in
    go (test e)

below_filter : (x : List ℕ) (test : List ℕ × List ℕ → Bool) (s : Pairs) → below_all order x s ≡ true → below_all order x (filter test s) ≡ true
below_filter x test [] h = refl
below_filter x test (e ∷ es) h =
    let each = and_parts (is_lt (order x e.0)) (below_all order x es) h in
    let rest = below_filter x test es each.1 in
    let go : (b : Bool) → below_all order x (cond b (e ∷ filter test es) (filter test es)) ≡ true =
    elim [ true ↦ and_from (is_lt (order x e.0)) (below_all order x (filter test es)) each.0 rest | false ↦ rest ] in
    go (test e)

pub filter_ordered : (test : List ℕ × List ℕ → Bool) (s : Pairs) → is_sorted order s ≡ true → is_sorted order (filter test s) ≡ true
filter_ordered test [] h = refl
filter_ordered test (e ∷ es) h =
    let each = and_parts (below_all order e.0 es) (is_sorted order es) h in
    let rest = filter_ordered test es each.1 in
    let go : (b : Bool) → is_sorted order (cond b (e ∷ filter test es) (filter test es)) ≡ true =
    elim [ true ↦ and_from (below_all order e.0 (filter test es)) (is_sorted order (filter test es)) (below_filter e.0 test es each.0) rest | false ↦ rest ] in
    go (test e)

pub filter_store : (test : List ℕ × List ℕ → Bool) (s : Pairs) → IsStore s → IsStore (filter test s)
filter_store test s h = record {
  ordered = filter_ordered test s h.ordered;
  few = (let fewer = filter_few test s in let few = h.few in omega (arith, fewer, few));
  sound = filter_sound test s h.sound;
}

-- a value that is found has a value's size
pub found_sound : (key : List ℕ) (s : Pairs) (value : List ℕ) → list_all is_pair s ≡ true → find order key s ≡ Some value → is_value value ≡ true
found_sound key [] value h is = absurd cc
found_sound key (e ∷ es) value h is =
    let each = and_parts (is_pair e) (list_all is_pair es) h in
    let go : (b : Bool) → cond b (Some e.1) (find order key es) ≡ Some value → is_value value ≡ true =
    elim [
      | true ↦ λ f. let same : e.1 ≡ value = cc in subst (λ (v : List ℕ). is_value v ≡ true) same (and_parts (is_key e.0) (is_value e.1) each.0).1
      | false ↦ λ f. found_sound key es value each.1 f
    ] in
    go (eq_by_cmp order key e.0) is

-- what a test of pairs lets through, by key
unfoldable pub kept : (List ℕ × List ℕ → Bool) → List ℕ → Option (List ℕ) → Option (List ℕ)
kept test q None = None
kept test q (Some value) = if test (q, value) then Some value else None

pub find_filter : (test : List ℕ × List ℕ → Bool) (q : List ℕ) (s : Pairs) → is_sorted order s ≡ true
    → find order q (filter test s) ≡ kept test q (find order q s)
unfolding kept
find_filter test q [] h = refl
find_filter test q (e ∷ es) h =
    let each = and_parts (below_all order e.0 es) (is_sorted order es) h in
    let rest = find_filter test q es each.1 in
    let at : (t b : Bool) → test e ≡ t → eq_by_cmp order q e.0 ≡ b
    → find order q (cond t (e ∷ filter test es) (filter test es)) ≡ kept test q (cond b (Some e.1) (find order q es)) =
    elim [
      | true ↦ elim [
        | true ↦ λ t b.
            let same : q ≡ e.0 = eq_key q e.0 b in
            ap (λ c. cond c (Some e.1) (find order q (filter test es))) b
            ∙ sym (ap (λ (x : List ℕ). if test (x, e.1) then Some e.1 else None) same ∙ ap (λ c. if c then Some e.1 else None) t)
        | false ↦ λ t b. ap (λ c. cond c (Some e.1) (find order q (filter test es))) b ∙ rest
      ]
      | false ↦ elim [
        | true ↦ λ t b.
            let same : q ≡ e.0 = eq_key q e.0 b in
            let nowhere : find order q es ≡ None = ap (λ (x : List ℕ). find order x es) same ∙ find_below e.0 es each.0 in
            rest ∙ ap (kept test q) nowhere
            ∙ sym (ap (λ (x : List ℕ). if test (x, e.1) then Some e.1 else None) same ∙ ap (λ c. if c then Some e.1 else None) t)
        | false ↦ λ t b. rest
      ]
    ] in
    at (test e) (eq_by_cmp order q e.0) refl refl

-- ---- what a key has after keys were taken out and pairs were put

unfoldable pub among : List ℕ → List (List ℕ) → Bool
among key keys = list_any (eq_by_cmp order key) keys

unfoldable pub or_else : Option (List ℕ) → Option (List ℕ) → Option (List ℕ)
or_else None other = other
or_else (Some value) other = Some value

turned : {A : Type 0} (b : Bool) (x y : A) → cond (not b) x y ≡ cond b y x
turned true x y = refl
turned false x y = refl

nested : (a b : Bool) (x : Option (List ℕ)) → cond a None (cond b None x) ≡ cond (a || b) None x
nested true b x = refl
nested false b x = refl

pub find_without_key : (q key : List ℕ) (s : Pairs) → find order q (without_key key s) ≡ cond (eq_by_cmp order q key) None (find order q s)
find_without_key q key s =
    find-where_key order (λ x. not (eq_by_cmp order key x)) q (λ x t. ap (λ y. not (eq_by_cmp order key y)) (sym (same_key q x t))) s
    ∙ turned (eq_by_cmp order key q) (find order q s) None ∙ ap (λ b. cond b None (find order q s)) (eq_turned key q)

pub find_without : (q : List ℕ) (keys : List (List ℕ)) (s : Pairs) → find order q (without keys s) ≡ cond (among q keys) None (find order q s)
unfolding among
find_without q [] s = refl
find_without q (key ∷ keys) s =
    find_without_key q key (without keys s) ∙ ap (λ o. cond (eq_by_cmp order q key) None o) (find_without q keys s)
    ∙ nested (eq_by_cmp order q key) (among q keys) (find order q s)

or_put : (b : Bool) (value : List ℕ) (o other : Option (List ℕ)) → cond b (Some value) (or_else o other) ≡ or_else (cond b (Some value) o) other
unfolding or_else
or_put true value o other = refl
or_put false value o other = refl

pub find_with : (q : List ℕ) (more s : Pairs) → find order q (with_pairs more s) ≡ or_else (find order q more) (find order q s)
unfolding or_else
find_with q [] s = refl
find_with q (e ∷ more) s =
    find-put order nat_list_cmp_total q e.0 e.1 (with_pairs more s) ∙ ap (λ o. cond (eq_by_cmp order q e.0) (Some e.1) o) (find_with q more s)
    ∙ or_put (eq_by_cmp order q e.0) e.1 (find order q more) (find order q s)

pub without_ordered : (keys : List (List ℕ)) (s : Pairs) → is_sorted order s ≡ true → is_sorted order (without keys s) ≡ true
without_ordered [] s h = h
without_ordered (key ∷ keys) s h = filter_ordered (λ pair. not (eq_by_cmp order key pair.0)) (without keys s) (without_ordered keys s h)

pub with_ordered : (more s : Pairs) → is_sorted order s ≡ true → is_sorted order (with_pairs more s) ≡ true
with_ordered [] s h = h
with_ordered (e ∷ more) s h = put_ordered e.0 e.1 (with_pairs more s) (with_ordered more s h)

pub without_sound : (keys : List (List ℕ)) (s : Pairs) → list_all is_pair s ≡ true → list_all is_pair (without keys s) ≡ true
without_sound [] s h = h
without_sound (key ∷ keys) s h = filter_sound (λ pair. not (eq_by_cmp order key pair.0)) (without keys s) (without_sound keys s h)

pub with_sound : (more s : Pairs) → list_all is_pair more ≡ true → list_all is_pair s ≡ true → list_all is_pair (with_pairs more s) ≡ true
with_sound [] s k h = h
with_sound (e ∷ more) s k h =
    let each = and_parts (is_pair e) (list_all is_pair more) k in
    let sizes = and_parts (is_key e.0) (is_value e.1) each.0 in
    put_sound e.0 e.1 (with_pairs more s) sizes.0 sizes.1 (with_sound more s each.1 h)

-- ---- keys that are taken out and pairs that are put one by one

-- what is above a key stays where that key is taken out
pub below_kept : (key first : List ℕ) (s : Pairs) → eq_by_cmp order key first ≡ true → below_all order first s ≡ true → without_key key s ≡ s
below_kept key first [] e h = refl
below_kept key first (x ∷ xs) e h =
    let each = and_parts (is_lt (order first x.0)) (below_all order first xs) h in
    let same : key ≡ first = eq_key key first e in
    let apart : eq_by_cmp order key x.0 ≡ false = ap (λ (k : List ℕ). eq_by_cmp order k x.0) same ∙ less_not_eq (order first x.0) each.0 in
    ap (λ b. cond (not b) (x ∷ without_key key xs) (without_key key xs)) apart ∙ ap (λ (s : Pairs). x ∷ s) (below_kept key first xs e each.1)

pub out_ordered : (key : List ℕ) (s : Pairs) → is_sorted order s ≡ true → is_sorted order (without_key key s) ≡ true
out_ordered key s h = filter_ordered (λ pair. not (eq_by_cmp order key pair.0)) s h

pub out_store : (key : List ℕ) (s : Pairs) → IsStore s → IsStore (without_key key s)
out_store key s h = filter_store (λ pair. not (eq_by_cmp order key pair.0)) s h

-- a pair whose key is above all others stands behind them
above_all : List ℕ → Pairs → Bool
above_all key s = list_all (λ e. is_lt (order e.0 key)) s

put_last : (key value : List ℕ) (s : Pairs) → above_all key s ≡ true → put order key value s ≡ s ++ (key, value) ∷ []
unfolding above_all
put_last key value [] h = refl
put_last key value (e ∷ es) h =
    let each = and_parts (is_lt (order e.0 key)) (list_all (λ e. is_lt (order e.0 key)) es) h in
    let greater : (o : Ordering) → is_lt o ≡ true → ordering_reverse o ≡ Greater =
    elim [ Less ↦ λ f. refl | Equal ↦ λ (f : false ≡ true). absurd cc | Greater ↦ λ (f : false ≡ true). absurd cc ] in
    let at : order key e.0 ≡ Greater = nat_list_cmp_total.antisymm key e.0 ∙ greater (order e.0 key) each.0 in
    ap (λ o. by_order o ((key, value) ∷ e ∷ es) ((e.0, value) ∷ es) (e ∷ put order key value es)) at
    ∙ ap (λ (s : Pairs). e ∷ s) (put_last key value es each.1)

below_in : (key : List ℕ) (front : Pairs) (e : List ℕ × List ℕ) (s : Pairs) → below_all order key (front ++ e ∷ s) ≡ true → is_lt (order key e.0) ≡ true
below_in key [] e s h = (and_parts (is_lt (order key e.0)) (below_all order key s) h).0
below_in key (x ∷ front) e s h = below_in key front e s (and_parts (is_lt (order key x.0)) (below_all order key (front ++ e ∷ s)) h).1

above_front : (front : Pairs) (e : List ℕ × List ℕ) (s : Pairs) → is_sorted order (front ++ e ∷ s) ≡ true → above_all e.0 front ≡ true
unfolding above_all
above_front [] e s h = refl
above_front (x ∷ front) e s h =
    let each = and_parts (below_all order x.0 (front ++ e ∷ s)) (is_sorted order (front ++ e ∷ s)) h in
    and_from (is_lt (order x.0 e.0)) (list_all (λ y. is_lt (order y.0 e.0)) front) (below_in x.0 front e s each.0) (above_front front e s each.1)

put_all_behind : (s front : Pairs) → is_sorted order (front ++ s) ≡ true → put_all s front ≡ front ++ s
put_all_behind [] front h = sym (append-nil front)
put_all_behind (e ∷ s) front h =
    let regrouped : (front ++ e ∷ []) ++ s ≡ front ++ e ∷ s = append_assoc front (e ∷ []) s in
    ap (put_all s) (put_last e.0 e.1 front (above_front front e s h))
    ∙ put_all_behind s (front ++ e ∷ []) (subst (λ (x : Pairs). is_sorted order x ≡ true) (sym regrouped) h)
    ∙ regrouped

-- pairs in order that are put one by one are these pairs
pub put_all_same : (s : Pairs) → is_sorted order s ≡ true → put_all s [] ≡ s
put_all_same s h = put_all_behind s [] h

pub put_all_ordered : (more s : Pairs) → is_sorted order s ≡ true → is_sorted order (put_all more s) ≡ true
put_all_ordered [] s h = h
put_all_ordered (e ∷ more) s h = put_all_ordered more (put order e.0 e.1 s) (put_ordered e.0 e.1 s h)

find_put_all : (q : List ℕ) (more s : Pairs) → is_sorted order more ≡ true → find order q (put_all more s) ≡ or_else (find order q more) (find order q s)
unfolding or_else
find_put_all q [] s h = refl
find_put_all q (e ∷ more) s h =
    let each = and_parts (below_all order e.0 more) (is_sorted order more) h in
    let go : (b : Bool) → eq_by_cmp order q e.0 ≡ b
    → or_else (find order q more) (cond b (Some e.1) (find order q s)) ≡ or_else (cond b (Some e.1) (find order q more)) (find order q s) =
    elim [
      | true ↦ λ f.
          let nowhere : find order q more ≡ None = ap (λ (x : List ℕ). find order x more) (eq_key q e.0 f) ∙ find_below e.0 more each.0 in
          ap (λ o. or_else o (Some e.1)) nowhere
      | false ↦ λ f. refl
    ] in
    find_put_all q more (put order e.0 e.1 s) each.1
    ∙ ap (or_else (find order q more)) (find-put order nat_list_cmp_total q e.0 e.1 s)
    ∙ go (eq_by_cmp order q e.0) refl

-- in which order pairs are put says nothing
pub put_all_is : (more s : Pairs) → is_sorted order more ≡ true → is_sorted order s ≡ true → put_all more s ≡ with_pairs more s
put_all_is more s h k =
    same_entries order nat_list_cmp_total same_key (put_all more s) (with_pairs more s)
    (so (is_sorted order (put_all more s)) (put_all_ordered more s k)) (so (is_sorted order (with_pairs more s)) (with_ordered more s k))
    (λ q. find_put_all q more s h ∙ sym (find_with q more s))

pub out_all_ordered : (keys : List (List ℕ)) (s : Pairs) → is_sorted order s ≡ true → is_sorted order (out_all keys s) ≡ true
out_all_ordered [] s h = h
out_all_ordered (key ∷ keys) s h = out_all_ordered keys (without_key key s) (filter_ordered (λ pair. not (eq_by_cmp order key pair.0)) s h)

find_out_all : (q : List ℕ) (keys : List (List ℕ)) (s : Pairs) → find order q (out_all keys s) ≡ cond (among q keys) None (find order q s)
unfolding among
find_out_all q [] s = refl
find_out_all q (key ∷ keys) s =
    let swapped : (a b : Bool) (x : Option (List ℕ)) → cond a None (cond b None x) ≡ cond (b || a) None x =
    elim [ true ↦ elim [ true ↦ λ x. refl | false ↦ λ x. refl ] | false ↦ elim [ true ↦ λ x. refl | false ↦ λ x. refl ] ] in
    find_out_all q keys (without_key key s) ∙ ap (λ o. cond (among q keys) None o) (find_without_key q key s)
    ∙ swapped (among q keys) (eq_by_cmp order q key) (find order q s)

pub out_all_is : (keys : List (List ℕ)) (s : Pairs) → is_sorted order s ≡ true → out_all keys s ≡ without keys s
out_all_is keys s h =
    same_entries order nat_list_cmp_total same_key (out_all keys s) (without keys s)
    (so (is_sorted order (out_all keys s)) (out_all_ordered keys s h)) (so (is_sorted order (without keys s)) (without_ordered keys s h))
    (λ q. find_out_all q keys s ∙ sym (find_without q keys s))
