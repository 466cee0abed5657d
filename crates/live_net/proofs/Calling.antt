-- Callers are handed out, one after another.
use Rattle.std.proofs.Common.{◌≡◌, ℕ, zero, suc, List, [], ◌∷◌, ◌++◌, map, get_or, Option, Some, refl, sym, ap, ◌∙◌, subst}
use Rattle.std.proofs.lemmas.List.{map-append}
use Rattle.std.proofs.lemmas.Option.{none-some, same_Some}
use Rattle.std.specs.Prelude.{slice_get}
use Rattle.std.specs.List.{AllByRecursion}
use Rattle.outside_links.specs.Lending.{IsCaller}
use Rattle.live_net.specs.Callers.{AreCallers, HaveLinksInOrder}

-- what links of a caller have left, those of callers, and what a network tells of them
abbrev Links : Type 0
Links = Option (List (List ℕ))

abbrev Told : Type 0
Told = Option (List (List (List ℕ)))

none_yet : (told : Told) → AreCallers told told []
unfolding AreCallers
none_yet told = refl

called_more : (told now later : Told) (links : List Links) (own : Links) → AreCallers told now links → IsCaller now later own → AreCallers told later (links ++ own ∷ [])
unfolding AreCallers
called_more told now later [] own are is = (later, subst (λ (t : Told). IsCaller t later own) are is, refl)
called_more told now later (l ∷ ls) own are is = (are.0, are.1, called_more are.0 now later ls own are.2 is)

all_more : {A : Type 0} (P : A → Type 0) (xs : List A) (x : A) → AllByRecursion P xs → P x → AllByRecursion P (xs ++ x ∷ [])
all_more P [] x all it = (it, tt)
all_more P (y ∷ xs) x all it = (all.0, all_more P xs x all.1 it)

module _ {D : Type 0} (links : D → Links) where
  pub none_called : (told : Told) (callers : List D) → callers ≡ [] → AreCallers told told (map links callers)
  none_called told callers none = subst (λ (l : List D). AreCallers told told (map links l)) (sym none) (none_yet told)

  pub one_called : (told now later : Told) (callers callers' : List D) (caller : D) → AreCallers told now (map links callers) → IsCaller now later (links caller)
      → callers' ≡ callers ++ caller ∷ [] → AreCallers told later (map links callers')
  one_called told now later callers callers' caller are is more =
      subst (AreCallers told later) (sym (ap (map links) more ∙ map-append links callers (caller ∷ []))) (called_more told now later (map links callers) (links caller) are is)

module _ {A : Type 0} (P : A → Type 0) where
  pub all_none : (xs : List A) → xs ≡ [] → AllByRecursion P xs
  all_none xs none = subst (AllByRecursion P) (sym none) tt

  pub all_pushed : (xs xs' : List A) (x : A) → AllByRecursion P xs → P x → xs' ≡ xs ++ x ∷ [] → AllByRecursion P xs'
  all_pushed xs xs' x all it more = subst (AllByRecursion P) (sym more) (all_more P xs x all it)

-- ---- the law

own_links : (callers : List (List (List ℕ))) (now : Told) (links : List Links) (place : ℕ) (own : Links)
    → AreCallers (Some callers) now links → slice_get links place ≡ Some own → own ≡ Some (get_or callers place [])
unfolding AreCallers
own_links callers now [] place own are there = absurd (none-some own there)
own_links [] now (l ∷ ls) zero own are there = sym (same_Some l own there) ∙ are.1.0
own_links (c ∷ cs) now (l ∷ ls) zero own are there = sym (same_Some l own there) ∙ are.1.0
own_links [] now (l ∷ ls) (suc place) own are there = own_links [] now ls place own (subst (λ (t : Told). AreCallers t now ls) are.1.1 are.2) there
own_links (c ∷ cs) now (l ∷ ls) (suc place) own are there = own_links cs now ls place own (subst (λ (t : Told). AreCallers t now ls) are.1.1 are.2) there

pub in_order : HaveLinksInOrder
in_order = own_links
