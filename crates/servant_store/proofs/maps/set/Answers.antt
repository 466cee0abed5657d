use Rattle.std.proofs.Common.{ap, ◌∙◌, List, ℕ}
use Rattle.std.specs.FinMap.{put}
use Rattle.servant_store.specs.Store.{order}
use Rattle.servant_store.specs.Views.{pairs_of}
use Rattle.servant_store.proofs.MapLaws.{put_view}
use Rattle.servant_store.proofs.maps.set.Goals as goal

pub returns-clause-set : goal.returns-clause-set
returns-clause-set c =
    ap pairs_of c.in_ok-insert.ensures.entries ∙ put_view c.in_ok-key.key c.in_ok-value.value c.args.map.now.entries
    ∙ ap (λ (k : List ℕ). put order k c.in_ok-value.value.items (pairs_of c.args.map.now.entries)) c.in_ok-key.ensures.items
    ∙ ap (λ (v : List ℕ). put order c.args.key.now v (pairs_of c.args.map.now.entries)) c.in_ok-value.ensures.items
