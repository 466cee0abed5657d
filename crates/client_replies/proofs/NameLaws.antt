-- The name in a repository id, found by cutting its front and its back off.
use Rattle.std.proofs.Common.{◌≡◌, ◌≢◌, ◌<◌, ℕ, ◌-◌, Bool, true, false, cond, eqb, ltb, List, ◌++◌, length, take, drop, Option, Some, None, option_map, refl, sym, ap, ◌∙◌, arith, length-append, ltb-false, le-ltb, lit≤}
use Rattle.std.specs.Str.{bytes_eq}
use Rattle.std.proofs.lemmas.Bool.{eqb-false, ne_eqb}
use Rattle.std.proofs.lemmas.List.{drop-append-le, take-append-le, take_all}
use Rattle.std.proofs.lemmas.Slice.Eq.{bytes_eq-Decides}
use Rattle.ft_base.specs.declared.text.NameFault.{NameFault}
use Rattle.ft_base.specs.Text.{IsName, name_of, name_refusal, unless_refused, zero_place}
use Rattle.iogr_reference.specs.declared.choices.TheConstants.{ID_BACK, ID_FRONT}
use Rattle.iogr_reference.specs.Choices.{IsNameOf, repository_id}
use Rattle.client_replies.specs.Heards.{inside_id, name_in}

-- ---- what is a name

passed : {A : Type 0} (b : Bool) (x : A) (o : Option A) → cond b (Some x) o ≡ None → (b ≡ false) × (o ≡ None)
passed true x o e = absurd cc
passed false x o e = (refl, e)

unmapped : {A B : Type 0} (f : A → B) (o : Option A) → option_map f o ≡ None → o ≡ None
unmapped f None e = refl
unmapped f (Some x) e = absurd cc

is_name : (text : List ℕ) → name_refusal text ≡ None → IsName text
is_name text e =
    let filled = passed (eqb (length text) 0) _ _ e in
    let short = passed (ltb 255 (length text)) _ _ filled.1 in
    let some = eqb-false (length text) 0 filled.0 in
    record {
      filled = (let go : (n : ℕ) → (n ≡ 0 → ⊥) → 0 < n = λ n h. omega (arith, h) in go (length text) some);
      short = ltb-false 255 (length text) short.0;
      no_zero = unmapped _ (zero_place text) short.1;
    }

not_refused : (text : List ℕ) → IsName text → name_refusal text ≡ None
not_refused text h =
    let filled : eqb (length text) 0 ≡ false = ne_eqb (length text) 0 (λ e. omega (arith, e, h.filled)) in
    let short : ltb 255 (length text) ≡ false = le-ltb 255 (length text) h.short in
    rw (filled, short, h.no_zero) refl

-- ---- what is inside an id

cut : (front : List ℕ) → take (length (front ++ ID_BACK) - length ID_BACK) (front ++ ID_BACK) ≡ front
cut front =
    let at : length (front ++ ID_BACK) - length ID_BACK ≡ length front = omega (arith, length-append front ID_BACK) in
    ap (λ (n : ℕ). take n (front ++ ID_BACK)) at ∙ take-append-le (length front) front ID_BACK (omega arith) ∙ take_all (length front) front (omega arith)

inside_is : (name : List ℕ) → inside_id (repository_id name) ≡ name
inside_is name = ap (λ (l : List ℕ). drop (length ID_FRONT) l) (cut (ID_FRONT ++ name)) ∙ drop-append-le (length ID_FRONT) ID_FRONT name (lit≤ tt)

chosen : (b : Bool) (x y : Option (List ℕ)) → b ≡ true → cond b x y ≡ x
chosen true x y e = refl
chosen false x y e = absurd cc

in_own : (name : List ℕ) → IsName name → name_in (repository_id name) ≡ Some name
in_own name h =
    let id : List ℕ = repository_id name in
    let inside : inside_id id ≡ name = inside_is name in
    let test : bytes_eq id (repository_id (inside_id id)) ≡ true = (bytes_eq-Decides id (repository_id (inside_id id))).1 (ap repository_id (sym inside)) in
    chosen (bytes_eq id (repository_id (inside_id id))) (name_of (inside_id id)) None test ∙ ap name_of inside ∙ ap (λ (r : Option NameFault). unless_refused name r) (not_refused name h)

no_name : (text : List ℕ) (r : Option NameFault) → name_refusal text ≡ r → (IsName text → ⊥) → unless_refused text r ≡ None
no_name text None e h = absurd (h (is_name text e))
no_name text (Some fault) e h = refl

unnamed : (id inside : List ℕ) (b : Bool) → bytes_eq id (repository_id inside) ≡ b → ((name : List ℕ) → IsName name → id ≢ repository_id name)
    → cond b (name_of inside) None ≡ None
unnamed id inside false e h = refl
unnamed id inside true e h = no_name inside (name_refusal inside) refl (λ n. h inside n ((bytes_eq-Decides id (repository_id inside)).0 e))

pub found_is : (id : List ℕ) (found : Option (List ℕ)) → IsNameOf id found → found ≡ name_in id
found_is id None h = sym (unnamed id (inside_id id) (bytes_eq id (repository_id (inside_id id))) refl h)
found_is id (Some name) h = sym (ap name_in h.1 ∙ in_own name h.0)
