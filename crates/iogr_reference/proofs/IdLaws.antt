-- Repository ids are strings, and each name is read from its own.
use Rattle.std.proofs.Common.{◌≡◌, ◌≢◌, ◌≤◌, ◌<◌, ℕ, ◌+◌, ◌==◌, Bool, true, false, cond, eqb, ltb, not, List, ◌++◌, length, Option, Some, None, option_map, refl, sym, ap, subst, ◌∙◌, arith, length-append, ltb-false, eq-eqb, le-ltb}
use Rattle.std.specs.Prelude.{IfNone, IfSome}
use Rattle.std.specs.List.{prefix_len}
use Rattle.std.proofs.lemmas.Bool.{eqb-false, ne_eqb}
use Rattle.std.proofs.lemmas.List.{append_cancel_left, append_cancel_right}
use Rattle.std.proofs.lemmas.List.Sums.{prefix_len-le-length}
use Rattle.std.proofs.lemmas.List.Folds.{prefix_len-append}
use Rattle.ft_base.specs.Text.{zero_place, name_refusal, IsName}
use Rattle.iogr_reference.specs.declared.choices.TheConstants.{ID_FRONT, ID_BACK, ID_LIMIT}
use Rattle.iogr_reference.specs.Choices.{repository_id, IsNameOf, IdsNameNames}

no_place : (b : Bool) (n : ℕ) → cond b (Some n) None ≡ None → b ≡ false
no_place true n e = absurd cc
no_place false n e = refl

abbrev is_text : ℕ → Bool
is_text x = not (x == 0)

whole : (xs : List ℕ) → zero_place xs ≡ None → prefix_len is_text xs ≡ length xs
whole xs h =
    let none : ltb (prefix_len is_text xs) (length xs) ≡ false = no_place _ _ h in
    omega (arith, prefix_len-le-length is_text xs, ltb-false _ _ none)

none_if : (n len : ℕ) → n ≡ len → cond (ltb n len) (Some n) None ≡ None
none_if n len e = let test : ltb n len ≡ false = le-ltb n len (omega arith) in rw test refl

no_zero_append : (xs ys : List ℕ) → zero_place xs ≡ None → zero_place ys ≡ None → zero_place (xs ++ ys) ≡ None
no_zero_append xs ys one two =
    let test : eqb (prefix_len is_text xs) (length xs) ≡ true = eq-eqb _ _ (whole xs one) in
    let there : prefix_len is_text (xs ++ ys) ≡ length xs + prefix_len is_text ys = prefix_len-append is_text xs ys ∙ rw test refl in
    none_if (prefix_len is_text (xs ++ ys)) (length (xs ++ ys)) (omega (arith, there, whole ys two, length-append xs ys))

pub id_no_zero : (name : List ℕ) → IsName name → zero_place (repository_id name) ≡ None
id_no_zero name h = no_zero_append (ID_FRONT ++ name) ID_BACK (no_zero_append ID_FRONT name refl h.no_zero) refl

pub id_short : (name : List ℕ) → IsName name → length (repository_id name) ≤ ID_LIMIT
id_short name h =
    let front : length (ID_FRONT ++ name) ≡ 8 + length name = length-append ID_FRONT name in
    omega (arith, h.short, front, length-append (ID_FRONT ++ name) ID_BACK)

-- ---- the name in an id

one_name : (x y : List ℕ) → repository_id x ≡ repository_id y → x ≡ y
one_name x y e = append_cancel_left ID_FRONT x y (append_cancel_right (ID_FRONT ++ x) (ID_FRONT ++ y) ID_BACK e)

pub not_ended : (id : List ℕ) → ((front : List ℕ) → id ≢ front ++ ID_BACK) → (name : List ℕ) → id ≢ repository_id name
not_ended id h name e = h (ID_FRONT ++ name) e

pub not_begun : (id front : List ℕ) → id ≡ front ++ ID_BACK → ((rest : List ℕ) → front ≢ ID_FRONT ++ rest)
    → (name : List ℕ) → id ≢ repository_id name
not_begun id front is h name e = h name (append_cancel_right front (ID_FRONT ++ name) ID_BACK (sym is ∙ e))

pub taken : (id front name : List ℕ) → id ≡ front ++ ID_BACK → front ≡ ID_FRONT ++ name → id ≡ repository_id name
taken id front name is begins = is ∙ ap (λ (xs : List ℕ). xs ++ ID_BACK) begins

-- ---- what is a name

passed : {A : Type 0} (b : Bool) (x : A) (o : Option A) → cond b (Some x) o ≡ None → (b ≡ false) × (o ≡ None)
passed true x o e = absurd cc
passed false x o e = (refl, e)

unmapped : {A B : Type 0} (f : A → B) (o : Option A) → option_map f o ≡ None → o ≡ None
unmapped f None e = refl
unmapped f (Some x) e = absurd cc

is_name : (text : List ℕ) → name_refusal text ≡ None → IsName text
is_name text e =
    let filled = passed (eqb (length text) 0) _ _ e in
    let short = passed (ltb 255 (length text)) _ _ filled.1 in
    let some = eqb-false (length text) 0 filled.0 in
    record {
      filled = (let go : (n : ℕ) → (n ≡ 0 → ⊥) → 0 < n = λ n h. omega (arith, h) in go (length text) some);
      short = ltb-false 255 (length text) short.0;
      no_zero = unmapped _ (zero_place text) short.1;
    }

not_refused : (text : List ℕ) → IsName text → name_refusal text ≡ None
not_refused text h =
    let filled : eqb (length text) 0 ≡ false = ne_eqb (length text) 0 (λ e. omega (arith, e, h.filled)) in
    let short : ltb 255 (length text) ≡ false = le-ltb 255 (length text) h.short in
    rw (filled, short, h.no_zero) refl

pub no_id : (id : List ℕ) → ((name : List ℕ) → id ≢ repository_id name) → IsNameOf id None
no_id id h = λ name is e. h name e

-- what is inside an id is the name that was found in it; where it is none, the id is no name's
pub found_inside : (id inside : List ℕ) (found : Option (List ℕ)) → id ≡ repository_id inside
    → IfSome found (λ name. (name ≡ inside) × (name_refusal inside ≡ None)) → IfNone found (name_refusal inside ≢ None) → IsNameOf id found
found_inside id inside None is named other = λ name h e.
    let same : inside ≡ name = one_name inside name (sym is ∙ e) in
    other (ap name_refusal same ∙ not_refused name h)
found_inside id inside (Some name) is named other =
    (subst IsName (sym named.0) (is_name inside named.1), is ∙ ap repository_id (sym named.0))

found_is : (name : List ℕ) (found : Option (List ℕ)) → IsName name → IsNameOf (repository_id name) found → found ≡ Some name
found_is name None h none = absurd (none name h refl)
found_is name (Some other) h is = ap (λ (x : List ℕ). Some x) (sym (one_name name other is.1))

pub ids_name_names : IdsNameNames
ids_name_names = found_is
