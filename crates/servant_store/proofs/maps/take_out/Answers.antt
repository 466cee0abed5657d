use Rattle.std.proofs.Common.{◌≡◌, true, ap, subst, sym, ◌∙◌}
use Rattle.std.specs.FinMap.{is_sorted}
use Rattle.servant_store.specs.PairLaws.{out_ordered}
use Rattle.servant_store.specs.Store.{Pairs, order}
use Rattle.servant_store.specs.Views.{pairs_of}
use Rattle.servant_store.proofs.MapLaws.{removed_view}
use Rattle.servant_store.proofs.maps.take_out.Goals as goal

pub returns-clause-out : goal.returns-clause-out
returns-clause-out c = ap pairs_of c.remove.ensures.entries ∙ removed_view c.args.key.now c.args.map.now.entries c.requires

pub returns-clause-sorted : goal.returns-clause-sorted
returns-clause-sorted c =
    subst (λ (s : Pairs). is_sorted order s ≡ true)
    (sym (ap pairs_of c.remove.ensures.entries ∙ removed_view c.args.key.now c.args.map.now.entries c.requires))
    (out_ordered c.args.key.now (pairs_of c.args.map.now.entries) c.requires)
