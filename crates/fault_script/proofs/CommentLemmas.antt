-- A line that begins with `#`.
use Rattle.std.proofs.Common.{◌≡◌, ◌≤◌, ℕ, ◌==◌, ◌∙◌, ap, sym, subst, cond, true, false, List, [], ◌∷◌, length, Ok, None, refl, arith}
use Rattle.std.specs.Prelude.{filter}
use Rattle.std.specs.List.{slice_split, onto_first}
use Rattle.std.proofs.lemmas.Bool.Decides.{nat_tests}
use Rattle.std.proofs.lemmas.List.Splits.{slice_split-cons_no}
use Rattle.fault_script.specs.Words.{is_blank, is_filled, is_comment, words}
use Rattle.fault_script.specs.Forms.{parse, parse_words, as_some, line_of}
use Rattle.fault_script.proofs.ReadingLemmas.{parse-short}

no_blank : (x : ℕ) → (x == 35) ≡ true → is_blank x ≡ false
no_blank x h =
    let same : x ≡ 35 = grind (arith, nat_tests) in
    subst (λ (n : ℕ). is_blank n ≡ false) (sym same) refl

filled : (x : ℕ) (w : List ℕ) → is_filled (x ∷ w) ≡ true
filled x w = grind (arith, nat_tests)

-- the first word begins with it too
begins_with_it : (x : ℕ) (pieces : List (List ℕ)) → (x == 35) ≡ true → parse_words (filter is_filled (onto_first x pieces)) ≡ Ok None
begins_with_it x [] h = ap (λ b. cond b (Ok None) (as_some (line_of (x ∷ []) []))) h
begins_with_it x (w ∷ ws) h =
    ap (λ b. parse_words (cond b ((x ∷ w) ∷ filter is_filled ws) (filter is_filled ws))) (filled x w)
    ∙ ap (λ b. cond b (Ok None) (as_some (line_of (x ∷ w) (filter is_filled ws)))) h

no_line : (text : List ℕ) → is_comment text ≡ true → parse_words (words text) ≡ Ok None
no_line [] h = cc
no_line (x ∷ xs) h =
    ap (λ (pieces : List (List ℕ)). parse_words (filter is_filled pieces)) (slice_split-cons_no is_blank x xs (no_blank x h))
    ∙ begins_with_it x (slice_split is_blank xs) h

pub no_line_read : (text : List ℕ) → length text ≤ 4096 → is_comment text ≡ true → parse text ≡ Ok None
no_line_read text l h = parse-short text l ∙ no_line text h
