use Rattle.std.proofs.Common.{◌≡◌, ◌≢◌, ℕ, List, ◌++◌, subst}
use Rattle.std.specs.Prelude.{MatchOption}
use Rattle.std.proofs.lemmas.Bool.Decides.{Decides-eqb}
use Rattle.std.proofs.lemmas.Slice.Eq.{strip_suffix_is}
use Rattle.iogr_reference.proofs.ids.before_back.Goals as goal

pub returns : goal.returns
returns c =
    subst (λ (part : List ℕ). MatchOption c.strip_suffix.result ((front : List ℕ) → c.args.text.now ≢ front ++ part) (λ x. c.args.text.now ≡ x.now ++ part)) c.as_slice.ensures
    (strip_suffix_is Decides-eqb c.args.text.now c.as_slice.result.now c.strip_suffix.result c.strip_suffix.ensures.cases)
