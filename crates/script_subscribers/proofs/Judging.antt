-- The function that judges a filter's text says what the notifier's relation says.
use Rattle.std.proofs.Common.{◌≡◌, ◌+◌, ◌∷◌, [], ℕ, zero, suc, List, Option, Some, None, take, ap, ◌∙◌, arith}
use Rattle.std.specs.Prelude.{slice_get, unwrap_or}
use Rattle.std.specs.Option.{option_and_then}
use Rattle.fault_notifier.specs.Filters.{Filter, lets_all, with_term, with_terms, terms, IsBadAt}
use Rattle.script_subscribers.specs.Subscribers.{Good, Bad, or_bad, judged_from, filter_in}

good_from : (f g : Filter) (place : ℕ) (texts : List (List ℕ)) → with_terms f texts ≡ Some g → judged_from f place texts ≡ Good g
unfolding with_terms judged_from
good_from f g place [] e = ap (λ (o : Option Filter). Good (unwrap_or o f)) e
good_from f g place (text ∷ texts) e = go (with_term f text) (λ h. good_from h g (place + 1) texts) e
  where
    go : (o : Option Filter) → ((h : Filter) → with_terms h texts ≡ Some g → judged_from h (place + 1) texts ≡ Good g)
        → option_and_then (λ h. with_terms h texts) o ≡ Some g → or_bad place o (λ h. judged_from h (place + 1) texts) ≡ Good g
    go None more e = absurd cc
    go (Some h) more e = more h e

bad_from : (f known : Filter) (term : List ℕ) (place at : ℕ) (texts : List (List ℕ)) → slice_get texts at ≡ Some term
    → with_terms f (take at texts) ≡ Some known → with_term known term ≡ None → judged_from f place texts ≡ Bad (place + at)
unfolding with_terms judged_from
bad_from f known term place at [] there before bad = absurd cc
bad_from f known term place zero (text ∷ texts) there before bad =
    ap (λ (o : Option Filter). or_bad place o (λ h. judged_from h (place + 1) texts))
    (ap (λ (t : List ℕ). with_term f t) (ap (λ (o : Option (List ℕ)). unwrap_or o text) there)
    ∙ ap (λ (h : Filter). with_term h term) (ap (λ (o : Option Filter). unwrap_or o f) before) ∙ bad)
    ∙ ap Bad (omega arith)
bad_from f known term place (suc at) (text ∷ texts) there before bad = go (with_term f text) (λ h e. bad_from h known term (place + 1) at texts there e bad) before
  where
    go : (o : Option Filter) → ((h : Filter) → with_terms h (take at texts) ≡ Some known → judged_from h (place + 1) texts ≡ Bad (place + 1 + at))
        → option_and_then (λ h. with_terms h (take at texts)) o ≡ Some known
        → or_bad place o (λ h. judged_from h (place + 1) texts) ≡ Bad (place + suc at)
    go None more e = absurd cc
    go (Some h) more e = more h e ∙ ap Bad (omega arith)

pub good : (text : List ℕ) (f : Filter) → with_terms lets_all (terms text) ≡ Some f → filter_in text ≡ Good f
good text f e = good_from lets_all f 0 (terms text) e

pub bad : (text : List ℕ) (place : ℕ) → IsBadAt (terms text) place → filter_in text ≡ Bad place
bad text place is = bad_from lets_all is.known is.term 0 place (terms text) is.there is.before is.bad ∙ ap Bad (omega arith)
