-- What is set for groups by their numbers, through each change.
use Rattle.std.proofs.Common.{◌≡◌, ℕ, Bool, true, false, cond, List, [], ◌∷◌, Option, Some, None, refl, sym, ap, ◌∙◌}
use Rattle.std.specs.Prelude.{nat_eq}
use Rattle.std.specs.List.{AllByRecursion, IsDistinct}
use Rattle.std.specs.Map.{keys_of}
use Rattle.std.proofs.lemmas.Bool.{cond-true, cond-false, cond_both, eq-eqb, eqb-true, ne_eqb}
use Rattle.std.proofs.lemmas.Cmp.{nat_eq_equiv}
use Rattle.std.proofs.lemmas.Map.{lookup-remove_entry}
use Rattle.std.proofs.lemmas.Map.Keys.{IsDistinct-cons, IsDistinct-head, IsDistinct-tail}
use Rattle.property_manager.specs.declared.effective.Levels.{Levels}
use Rattle.property_manager.specs.Groups.{dropped, group_of, put_group}

-- ---- by number

-- of another number nothing changes
pub other_put : (gs : List (ℕ × Levels)) (k n : ℕ) (levels : Levels) → (n ≡ k → ⊥) → group_of (put_group gs k levels) n ≡ group_of gs n
other_put [] k n levels apart = cond-false (nat_eq n k) (Some levels) None (ne_eqb n k apart)
other_put (g ∷ gs) k n levels apart =
    cond_both (nat_eq k g.0) ((g.0, levels) ∷ gs) (g ∷ put_group gs k levels) (λ l. group_of l n ≡ group_of (g ∷ gs) n)
    (λ here.
    let other = ne_eqb n g.0 (λ e. apart (e ∙ sym (eqb-true k g.0 here))) in
    cond-false (nat_eq n g.0) (Some levels) (group_of gs n) other ∙ sym (cond-false (nat_eq n g.0) (Some g.1) (group_of gs n) other))
    (λ _. ap (cond (nat_eq n g.0) (Some g.1)) (other_put gs k n levels apart))

module _ (gs : List (ℕ × Levels)) (once : IsDistinct nat_eq (keys_of gs)) where
  after_drop : (k n : ℕ) → group_of (dropped gs k) n ≡ cond (nat_eq k n) None (group_of gs n)
  after_drop k n = lookup-remove_entry nat_eq_equiv (nat_eq k) (nat_eq_equiv.congr k) n gs once

  -- what isn't there isn't there after another is dropped
  pub none_dropped : (k n : ℕ) → group_of gs n ≡ None → group_of (dropped gs k) n ≡ None
  none_dropped k n none = after_drop k n ∙ ap (cond (nat_eq k n) None) none ∙ both (nat_eq k n)
    where
      both : (b : Bool) → ◌≡◌ {A = Option Levels} (cond b None None) None
      both true = refl
      both false = refl

  -- what is dropped is there no more
  pub gone : (k : ℕ) → group_of (dropped gs k) k ≡ None
  gone k = after_drop k k ∙ cond-true (nat_eq k k) None (group_of gs k) (eq-eqb k k refl)

-- ---- each once

abbrev AreOthers : ℕ → List (ℕ × Levels) → Type 0
AreOthers n gs = AllByRecursion (λ m. nat_eq n m ≡ false) (keys_of gs)

others_put : (gs : List (ℕ × Levels)) (n k : ℕ) (levels : Levels) → nat_eq n k ≡ false → AreOthers n gs → AreOthers n (put_group gs k levels)
others_put [] n k levels apart others = (apart, tt)
others_put (g ∷ gs) n k levels apart others =
    cond_both (nat_eq k g.0) ((g.0, levels) ∷ gs) (g ∷ put_group gs k levels) (AreOthers n) (λ _. others)
    (λ _. (others.0, others_put gs n k levels apart others.1))

pub once_put : (gs : List (ℕ × Levels)) (k : ℕ) (levels : Levels) → IsDistinct nat_eq (keys_of gs) → IsDistinct nat_eq (keys_of (put_group gs k levels))
once_put [] k levels once = IsDistinct-cons nat_eq k [] tt once
once_put (g ∷ gs) k levels once =
    cond_both (nat_eq k g.0) ((g.0, levels) ∷ gs) (g ∷ put_group gs k levels) (λ l. IsDistinct nat_eq (keys_of l)) (λ _. once)
    (λ past.
    IsDistinct-cons nat_eq g.0 (keys_of (put_group gs k levels))
    (others_put gs g.0 k levels (nat_eq_equiv.symm g.0 k ∙ past) (IsDistinct-head nat_eq g.0 (keys_of gs) once))
    (once_put gs k levels (IsDistinct-tail nat_eq g.0 (keys_of gs) once)))

others_dropped : (gs : List (ℕ × Levels)) (n k : ℕ) → AreOthers n gs → AreOthers n (dropped gs k)
others_dropped [] n k others = others
others_dropped (g ∷ gs) n k others =
    cond_both (nat_eq k g.0) gs (g ∷ dropped gs k) (AreOthers n) (λ _. others.1) (λ _. (others.0, others_dropped gs n k others.1))

pub once_dropped : (gs : List (ℕ × Levels)) (k : ℕ) → IsDistinct nat_eq (keys_of gs) → IsDistinct nat_eq (keys_of (dropped gs k))
once_dropped [] k once = once
once_dropped (g ∷ gs) k once =
    let rest = IsDistinct-tail nat_eq g.0 (keys_of gs) once in
    cond_both (nat_eq k g.0) gs (g ∷ dropped gs k) (λ l. IsDistinct nat_eq (keys_of l)) (λ _. rest)
    (λ _. IsDistinct-cons nat_eq g.0 (keys_of (dropped gs k)) (others_dropped gs g.0 k (IsDistinct-head nat_eq g.0 (keys_of gs) once)) (once_dropped gs k rest))
