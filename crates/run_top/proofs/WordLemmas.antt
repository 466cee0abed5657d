-- The one word `run`.
use Rattle.std.proofs.Common.{◌≡◌, ℕ, ◌<◌, ◌≤◌, ◌↔◌, Bool, true, List, [], ◌∷◌, length, get_or, sym, ap, ◌∙◌, arith}
use Rattle.std.specs.Str.{bytes_eq}
use Rattle.std.proofs.lemmas.Slice.Eq.{bytes_eq-Decides}

-- a list of one element
pub one_word : {A : Type 0} (words : List A) (word : A) → 1 ≤ length words → length words < 2 → word ≡ get_or words 0 word → words ≡ word ∷ []
one_word [] word some few is = absurd (omega arith)
one_word (w ∷ []) word some few is = ap (λ x. x ∷ []) (sym is)
one_word (w ∷ v ∷ words) word some few is = absurd (omega arith)

-- one text is another
pub same_text : (text wanted : List ℕ) (answer : Bool) → answer ≡ bytes_eq text wanted →
    (answer ≡ true) ↔ ((text ∷ []) ≡ (wanted ∷ []))
same_text text wanted answer is = (
  λ h. ap (λ t. t ∷ []) ((bytes_eq-Decides text wanted).0 (sym is ∙ h)),
  λ h. is ∙ (bytes_eq-Decides text wanted).1 (let e : text ≡ wanted = cc in e),
)
