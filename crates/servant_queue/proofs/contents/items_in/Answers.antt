use Rattle.std.proofs.Common.{◌≡◌, ◌+◌, ◌-◌, ◌*◌, ◌∷◌, [], ◌++◌, ℕ, List, take, drop, ap, ◌∙◌}
use Rattle.servant_queue.specs.Queue.{items_in}
use Rattle.servant_queue.proofs.Items.{items_in_more, items_in_end}
use Rattle.servant_queue.proofs.contents.items_in.Goals as goal

pub loop-i-preserved : goal.loop-i-preserved
loop-i-preserved c =
    let pushed : c.push_back.new.self.items ≡ c.loop-i.items.items ++ take 16 (drop (16 * c.loop-i.i) c.args.bytes.now) ∷ [] =
    c.in_ok-push_back.ensures.items ∙ ap (λ (x : List ℕ). c.loop-i.items.items ++ x ∷ []) c.item_at.ensures in
    ap (λ (xs : List (List ℕ)). xs ++ items_in (c.args.count - (c.loop-i.i + 1)) (drop (16 * (c.loop-i.i + 1)) c.args.bytes.now)) pushed
    ∙ items_in_more c.loop-i.items.items _ c.args.bytes.now c.args.count c.loop-i.i c.loop-i-test.true c.loop-i.invariant

pub returns : goal.returns
returns c = items_in_end c.loop-i.items.items _ c.args.bytes.now c.args.count c.loop-i.i c.loop-i-test.false c.loop-i.invariant
