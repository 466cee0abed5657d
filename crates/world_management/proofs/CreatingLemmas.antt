-- Criteria, and what a factory says of them.
use Rattle.std.proofs.Common.{◌≡◌, ℕ, zero, suc, ◌+◌, arith, Bool, true, false, cond, List, [], ◌∷◌, ◌++◌, length, take, Option, Some, None, refl, sym, ap, ◌∙◌, ◌≤◌, append-nil}
use Rattle.std.specs.Prelude.{if◌then◌else◌, not, slice_get}
use Rattle.std.specs.List.{filter}
use Rattle.ft_base.specs.declared.views.Style.{Style}
use Rattle.ft_base.specs.declared.views.Style.TheVariants as styles
use Rattle.generic_factory.specs.Creating as factories
use Rattle.generic_factory.specs.declared.faults.CreateFault.{CreateFault}
use Rattle.property_manager.specs.declared.settings.Property.{Property}
use Rattle.property_manager.specs.Judging.{first_place, is_invalid, is_refused, refusal, refused_at, standing_in}
use Rattle.property_manager.specs.Levels.{has_name}
use Rattle.property_manager.specs.Names.{named, text_of}
use Rattle.property_manager.specs.Standings.{standing_of}
use Rattle.property_manager.specs.Styles.{replication_style}
use Rattle.world_management.specs.Creating.{lacking}
use Rattle.world_management.specs.Making.{style_criteria}

-- ---- properties that a list lacks, one after another

pub lacked : (criteria : List Property) (p : Property) (list new : List Property) → has_name p.name criteria ≡ false → new ≡ list ++ p ∷ [] → new ≡ list ++ lacking criteria (p ∷ [])
unfolding lacking
lacked criteria p list new none is = is ∙ ap (λ (b : Bool). list ++ cond (not b) (p ∷ []) []) (sym none)

pub not_lacked : (criteria : List Property) (p : Property) (list : List Property) → has_name p.name criteria ≡ true → list ≡ list ++ lacking criteria (p ∷ [])
unfolding lacking
not_lacked criteria p list some = sym (append-nil list) ∙ ap (λ (b : Bool). list ++ cond (not b) (p ∷ []) []) (sym some)

lacking_join : (criteria xs ys : List Property) → lacking criteria (xs ++ ys) ≡ lacking criteria xs ++ lacking criteria ys
unfolding lacking
lacking_join criteria [] ys = refl
lacking_join criteria (x ∷ xs) ys = go (has_name x.name criteria) (lacking_join criteria xs ys)
  where
    go : (b : Bool) → lacking criteria (xs ++ ys) ≡ lacking criteria xs ++ lacking criteria ys →
        cond (not b) (x ∷ lacking criteria (xs ++ ys)) (lacking criteria (xs ++ ys)) ≡ cond (not b) (x ∷ lacking criteria xs) (lacking criteria xs) ++ lacking criteria ys
    go true rest = rest
    go false rest = ap (λ (ls : List Property). x ∷ ls) rest

taken : (ys : List Property) (k : ℕ) (y : Property) → slice_get ys k ≡ Some y → take k ys ++ y ∷ [] ≡ take (suc k) ys
taken [] k y there = absurd cc
taken (z ∷ ys) zero y there = ap (λ (w : Property). w ∷ []) (let e : y ≡ z = cc in e)
taken (z ∷ ys) (suc k) y there = ap (λ (rest : List Property). z ∷ rest) (taken ys k y there)

join : (ps qs rs : List Property) → (ps ++ qs) ++ rs ≡ ps ++ (qs ++ rs)
join [] qs rs = refl
join (p ∷ ps) qs rs = ap (λ (rest : List Property). p ∷ rest) (join ps qs rs)

pub lacking_next : (criteria xs : List Property) (i : ℕ) (x : Property) (first before after : List Property) → slice_get xs i ≡ Some x →
    before ≡ first ++ lacking criteria (take i xs) → after ≡ before ++ lacking criteria (x ∷ []) → after ≡ first ++ lacking criteria (take (i + 1) xs)
lacking_next criteria xs i x first before after at so pushed =
    pushed ∙ ap (λ (ls : List Property). ls ++ lacking criteria (x ∷ [])) so
    ∙ join first (lacking criteria (take i xs)) (lacking criteria (x ∷ []))
    ∙ ap (λ (ls : List Property). first ++ ls) (sym (lacking_join criteria (take i xs) (x ∷ [])) ∙ ap (lacking criteria) (taken xs i x at))
    ∙ ap (λ (n : ℕ). first ++ lacking criteria (take n xs)) (let e : suc i ≡ i + 1 = omega arith in e)

-- ---- how many of the first elements pass

few_pass : {A : Type 0} (p : A → Bool) (xs : List A) (i : ℕ) → length (filter p (take i xs)) ≤ i
few_pass p [] zero = omega arith
few_pass p [] (suc i) = omega arith
few_pass p (x ∷ xs) zero = omega arith
few_pass {A = A} p (x ∷ xs) (suc i) = go (p x) (few_pass p xs i)
  where
    go : (b : Bool) → length (filter p (take i xs)) ≤ i → length (cond b (x ∷ filter p (take i xs)) (filter p (take i xs))) ≤ suc i
    go true few = omega (arith, few)
    go false few = omega (arith, few)

passed_more : {A : Type 0} (p : A → Bool) (xs : List A) (i : ℕ) (x : A) → slice_get xs i ≡ Some x →
    length (filter p (take (suc i) xs)) ≡ length (filter p (take i xs)) + length (cond (p x) (x ∷ []) [])
passed_more {A = A} p [] i x at = absurd cc
passed_more {A = A} p (y ∷ xs) zero x at = ap (λ (z : A). length (cond (p z) (z ∷ []) [])) (let e : y ≡ x = cc in e) ∙ (let e : length (cond (p x) (x ∷ []) []) ≡ 0 + length (cond (p x) (x ∷ []) []) = omega arith in e)
passed_more {A = A} p (y ∷ xs) (suc i) x at = go (p y) (passed_more p xs i x at)
  where
    rest : List A
    rest = filter p (take i xs)

    more : List A
    more = filter p (take (suc i) xs)

    go : (c : Bool) → length more ≡ length rest + length (cond (p x) (x ∷ []) []) →
        length (cond c (y ∷ more) more) ≡ length (cond c (y ∷ rest) rest) + length (cond (p x) (x ∷ []) [])
    go true e = omega (arith, e)
    go false e = e

pub counted_next : {A : Type 0} (p : A → Bool) (xs : List A) (i : ℕ) (x : A) (b : Bool) (before after : ℕ) → slice_get xs i ≡ Some x → b ≡ p x →
    before ≡ length (filter p (take i xs)) → after ≡ (if b then before + 1 else before) → after ≡ length (filter p (take (i + 1) xs))
counted_next {A = A} p xs i x b before after at is so more =
    more ∙ counted b before ∙ ap (λ (n : ℕ). n + length (cond b (x ∷ []) [])) so
    ∙ ap (λ (c : Bool). length (filter p (take i xs)) + length (cond c (x ∷ []) [])) is
    ∙ sym (passed_more p xs i x at)
    ∙ ap (λ (n : ℕ). length (filter p (take n xs))) (let e : suc i ≡ i + 1 = omega arith in e)
  where
    counted : (c : Bool) (n : ℕ) → (if c then n + 1 else n) ≡ n + length (cond c (x ∷ []) [])
    counted true n = omega arith
    counted false n = omega arith

pub few_so_far : {A : Type 0} (p : A → Bool) (xs : List A) (i n : ℕ) → n ≡ length (filter p (take i xs)) → n ≤ i
few_so_far p xs i n is = omega (arith, is, few_pass p xs i)

-- ---- criteria that are taken

-- what is at fault in the front of a list is so in the list
front : {A : Type 0} (f : List A → A → Bool) (before xs ys : List A) → first_place f before (xs ++ ys) ≡ None → first_place f before xs ≡ None
unfolding first_place
front f before [] ys none = refl
front {A = A} f before (x ∷ xs) ys none = go (f before x) (front f (before ++ x ∷ []) xs ys) none
  where
    go : (b : Bool) → (first_place f (before ++ x ∷ []) (xs ++ ys) ≡ None → first_place f (before ++ x ∷ []) xs ≡ None) →
        (if b then Some (length before) else first_place f (before ++ x ∷ []) (xs ++ ys)) ≡ None →
        (if b then Some (length before) else first_place f (before ++ x ∷ []) xs) ≡ None
    go true behind e = absurd cc
    go false behind e = behind e

-- criteria that a factory takes, with others behind them, are taken
criteria_taken : (criteria more : List Property) (rest : Option CreateFault) →
    factories.or_next (factories.criteria_refusal (criteria ++ more)) rest ≡ None → refusal false criteria ≡ None
criteria_taken criteria more rest none =
    go (first_place is_invalid [] (criteria ++ more)) (first_place (is_refused false) [] (criteria ++ more))
    (front is_invalid [] criteria more) (front (is_refused false) [] criteria more) none
  where
    both : (i u : Option ℕ) → i ≡ None → u ≡ None → refused_at i u ≡ None
    both i u e f = ap (λ (o : Option ℕ). refused_at o u) e ∙ ap (λ (o : Option ℕ). refused_at None o) f

    go : (i u : Option ℕ) → (i ≡ None → first_place is_invalid [] criteria ≡ None) → (u ≡ None → first_place (is_refused false) [] criteria ≡ None) →
        factories.or_next (factories.refused_at i u) rest ≡ None → refusal false criteria ≡ None
    go None None invalid unsupported e = both _ _ (invalid refl) (unsupported refl)
    go None (Some p) invalid unsupported e = absurd cc
    go (Some p) u invalid unsupported e = absurd cc

pub created_taken : (criteria more full given : List Property) (fit : List ℕ) (why : Option CreateFault) → full ≡ criteria ++ more → given ≡ full →
    why ≡ factories.refusal given fit [] → why ≡ None → refusal false criteria ≡ None
created_taken criteria more full given fit why is same judged none =
    criteria_taken criteria more _ (ap (λ (ps : List Property). factories.refusal ps fit []) (sym (same ∙ is)) ∙ sym judged ∙ none)

-- a style is a criterion that is taken
pub style_taken : (style : Style) → refusal false (style_criteria style) ≡ None
unfolding first_place standing_in standing_of replication_style named text_of
style_taken styles.Cold = refl
style_taken styles.Warm = refl
style_taken styles.Active = refl
