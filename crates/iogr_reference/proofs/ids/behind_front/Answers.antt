use Rattle.std.proofs.Common.{◌≡◌, ◌≢◌, ℕ, List, ◌++◌, subst}
use Rattle.std.specs.Prelude.{MatchOption}
use Rattle.std.proofs.lemmas.Bool.Decides.{Decides-eqb}
use Rattle.std.proofs.lemmas.Slice.Eq.{strip_prefix_is}
use Rattle.iogr_reference.proofs.ids.behind_front.Goals as goal

pub returns : goal.returns
returns c =
    subst (λ (part : List ℕ). MatchOption c.strip_prefix.result ((rest : List ℕ) → c.args.text.now ≢ part ++ rest) (λ x. c.args.text.now ≡ part ++ x.now)) c.as_slice.ensures
    (strip_prefix_is Decides-eqb c.args.text.now c.as_slice.result.now c.strip_prefix.result c.strip_prefix.ensures.cases)
