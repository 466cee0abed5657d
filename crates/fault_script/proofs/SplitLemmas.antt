-- A line that is cut at its blanks.
use Rattle.std.proofs.Common.{◌≡◌, ℕ, zero, suc, ◌+◌, ◌<◌, Bool, true, false, List, [], ◌∷◌, length, get_or, take, drop, refl, sym, ap, ◌∙◌, subst, arith, Some}
use Rattle.std.specs.List.{slice_split, onto_first}
use Rattle.std.proofs.lemmas.List.Splits.{slice_split-cons_yes, slice_split-cons_no}
use Rattle.std.proofs.lemmas.Bool.Decides.{nat_tests}
use Rattle.memchr.specs.Find.{IsFirstByte, NoneBefore, Nowhere, Passes}
use Rattle.fault_script.specs.Words.{is_blank}

not_so : (b : Bool) → (b ≡ true → ⊥) → b ≡ false
not_so true h = absurd (h refl)
not_so false h = refl

split_none : (xs : List ℕ) → ((k : ℕ) → k < length xs → is_blank (get_or xs k 0) ≡ false) → slice_split is_blank xs ≡ xs ∷ []
split_none [] h = refl
split_none (x ∷ xs) h = slice_split-cons_no is_blank x xs (h 0 (omega arith)) ∙ ap (onto_first x) (split_none xs (λ k l. h (suc k) (omega arith)))

split_at : (xs : List ℕ) (i : ℕ) → i < length xs → ((k : ℕ) → k < i → is_blank (get_or xs k 0) ≡ false) → is_blank (get_or xs i 0) ≡ true
    → slice_split is_blank xs ≡ take i xs ∷ slice_split is_blank (drop (suc i) xs)
split_at [] i l h e = absurd (omega arith)
split_at (x ∷ xs) zero l h e = slice_split-cons_yes is_blank x xs e
split_at (x ∷ xs) (suc i) l h e =
    slice_split-cons_no is_blank x xs (h 0 (omega arith)) ∙ ap (onto_first x) (split_at xs i (omega arith) (λ k m. h (suc k) (omega arith)) e)

pub cut_none : (xs : List ℕ) → Nowhere (Passes is_blank xs) 0 (length xs) → slice_split is_blank xs ≡ xs ∷ []
cut_none xs h = split_none xs (λ k l. not_so (is_blank (get_or xs k 0)) (h k (omega arith) l))

pub cut_some : (xs before rest : List ℕ) (i : ℕ) → NoneBefore (Passes is_blank xs) 0 (length xs) i → Passes is_blank xs i
    → before ≡ take i xs → rest ≡ drop (i + 1) xs → slice_split is_blank xs ≡ before ∷ slice_split is_blank rest
cut_some xs before rest i none is f r =
    let next : suc i ≡ i + 1 = omega arith in
    split_at xs i none.high (λ k l. not_so (is_blank (get_or xs k 0)) (none.before k (omega arith) l)) is
    ∙ ap (λ (n : ℕ). take i xs ∷ slice_split is_blank (drop n xs)) next
    ∙ ap (λ (ys : List ℕ). ys ∷ slice_split is_blank (drop (i + 1) xs)) (sym f)
    ∙ ap (λ (ys : List ℕ). before ∷ slice_split is_blank ys) (sym r)

larger_fills : (x : ℕ) → 32 < x → is_blank x ≡ false
larger_fills x l = grind (arith, nat_tests)

before_one : (xs : List ℕ) → 32 < get_or xs 0 0 → (k : ℕ) → k < 1 → is_blank (get_or xs k 0) ≡ true → ⊥
before_one xs large zero h p = (let f : is_blank (get_or xs 0 0) ≡ false = larger_fills (get_or xs 0 0) large in cc)
before_one xs large (suc k) h p = omega (arith, h)

-- a word of one byte before a space
pub one_byte_first : (xs : List ℕ) → 1 < length xs → 32 < get_or xs 0 0 → get_or xs 1 0 ≡ 32 → IsFirstByte is_blank xs (Some 1)
one_byte_first xs long large space = (
  record { low = omega arith; high = long; before = λ k l h. before_one xs large k h },
  subst (λ (x : ℕ). is_blank x ≡ true) (sym space) refl,
)
