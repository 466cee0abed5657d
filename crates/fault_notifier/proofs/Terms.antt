-- Terms of a filter, one by one.
use Rattle.std.proofs.Common.{◌≡◌, ◌+◌, ◌<◌, ◌∷◌, [], ◌++◌, ℕ, List, Option, Some, None, take, length, arith, add-one, refl, ap, ◌∙◌}
use Rattle.std.specs.Prelude.{◌≤◌, ◌^◌, slice_get}
use Rattle.std.specs.Borrow.{Bor}
use Rattle.std.specs.List.{slice_split}
use Rattle.std.proofs.lemmas.List.Splits.{length-slice_split}
use Rattle.std.proofs.Math.Seq.{take-suc}
use Rattle.std.proofs.lemmas.Option.{slice_get_within, get_or_from_slice_get}
use Rattle.std.proofs.lemmas.List.{length-map}
use Rattle.std.proofs.lemmas.List.Sums.{count_by-le-length}
use Rattle.std.specs.Option.{option_and_then}
use Rattle.fault_notifier.specs.Filters.{Filter, lets_all, is_comma, texts, with_term, with_terms}

after_all : (o : Option Filter) → option_and_then (λ g. Some g) o ≡ o
after_all None = refl
after_all (Some g) = refl

pub with_terms_push : (f : Filter) (texts : List (List ℕ)) (text : List ℕ)
    → with_terms f (texts ++ text ∷ []) ≡ option_and_then (λ g. with_term g text) (with_terms f texts)
unfolding with_terms
with_terms_push f [] text = after_all (with_term f text)
with_terms_push f (first ∷ texts) text =
    go (with_term f first) (λ g. with_terms_push g texts text)
  where
    go : (o : Option Filter) → ((g : Filter) → with_terms g (texts ++ text ∷ []) ≡ option_and_then (λ g. with_term g text) (with_terms g texts))
        → option_and_then (λ g. with_terms g (texts ++ text ∷ [])) o ≡ option_and_then (λ g. with_term g text) (option_and_then (λ g. with_terms g texts) o)
    go None more = refl
    go (Some g) more = more g

pub no_terms : with_terms lets_all [] ≡ Some lets_all
unfolding with_terms
no_terms = refl

take_one_more : {A : Type 0} (xs : List A) (i : ℕ) (x : A) → slice_get xs i ≡ Some x → take (i + 1) xs ≡ take i xs ++ x ∷ []
take_one_more xs i x e =
    rw add-one (take-suc xs i x (slice_get_within xs i x e) ∙ ap (λ y. take i xs ++ y ∷ []) (get_or_from_slice_get xs i x x e))

pub next_term : (texts : List (List ℕ)) (place : ℕ) (text : List ℕ) (f g : Filter)
    → slice_get texts place ≡ Some text → with_terms lets_all (take place texts) ≡ Some f → with_term f text ≡ Some g
    → with_terms lets_all (take (place + 1) texts) ≡ Some g
next_term texts place text f g there before more =
    ap (with_terms lets_all) (take_one_more texts place text there)
    ∙ with_terms_push lets_all (take place texts) text
    ∙ ap (option_and_then (λ g. with_term g text)) before
    ∙ more

-- a text has at most one term more than bytes
pub few_terms : (text : List ℕ) (parts : List (Bor (List ℕ))) → texts parts ≡ slice_split is_comma text → length text < 2 ^ 32 → length parts ≤ 2 ^ 32
few_terms text parts are short =
    let long : length (texts parts) ≡ length parts = length-map parts (λ (t : Bor (List ℕ)). t.now) in
    omega (arith, long, ap length are ∙ length-slice_split is_comma text, count_by-le-length is_comma text)
