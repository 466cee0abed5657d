use Rattle.std.proofs.Common.{subst, sym, ◌∙◌}
use Rattle.servant_store.specs.PairLaws.{put_all_same}
use Rattle.servant_store.specs.Store.{IsStore}
use Rattle.servant_store.specs.Views.{pairs_of}
use Rattle.servant_store.proofs.stores.StoreCoded.equal.Goals as goal

pub invariant_of-result : goal.invariant_of-result
invariant_of-result c =
    subst IsStore (sym (c.in_ok-pairs.ensures ∙ put_all_same (pairs_of c.self.inside.pairs.entries) c.self.invariant.ordered)) c.self.invariant

pub returns : goal.returns
returns c = c.in_ok-pairs.ensures ∙ put_all_same (pairs_of c.self.inside.pairs.entries) c.self.invariant.ordered ∙ c.self.view_is
