use Rattle.std.proofs.Common.{◌≡◌, ℕ, ◌≤◌, length, Err, ap, sym, ◌∙◌, arith}
use Rattle.message_log.proofs.ContentLaws.{content_goes, content_stops, content_ends, view_there, no_view}
use Rattle.message_log.proofs.opening.read_all.Goals as goal

pub returns-in-Ok-false : goal.returns-in-Ok-false
returns-in-Ok-false g c =
    sym c.loop-index.invariant
    ∙ content_stops (g.K.Keeper.records c.args.keeper.now) c.loop-index.index c.in-Some.piece.now c.loop-index.opening (sym c.in-Some.ensures)
    (rw c.in-Ok-false.field-0-test at c.in-Ok-false.ensures)

pub loop-index-preserved : goal.loop-index-preserved
loop-index-preserved g c =
    sym (content_goes (g.K.Keeper.records c.args.keeper.now) c.loop-index.index c.in-Some.piece.now c.loop-index.opening c.read_one.new.opening (sym c.in-Some.ensures)
    (rw c.in-Ok-true.field-0-test at c.in-Ok-true.ensures))
    ∙ c.loop-index.invariant

pub returns-then-has_view : goal.returns-then-has_view
returns-then-has_view g c =
    let past : length (g.K.Keeper.records c.args.keeper.now) ≤ c.loop-index.index = omega (arith, c.loop-index-test.false, c.count-count.ensures) in (
      sym c.loop-index.invariant ∙ content_ends (g.K.Keeper.records c.args.keeper.now) c.loop-index.index c.loop-index.opening past
          ∙ view_there c.loop-index.index c.loop-index.opening (sym c.if-has_view.ensures),
      sym c.if-has_view.ensures,
    )

pub returns-else-has_view : goal.returns-else-has_view
returns-else-has_view g c =
    let past : length (g.K.Keeper.records c.args.keeper.now) ≤ c.loop-index.index = omega (arith, c.loop-index-test.false, c.count-count.ensures) in
    let end : c.loop-index.index ≡ c.count-count.result = omega (arith, c.loop-index-test.false, c.loop-index.auto.index-end) in
    sym c.loop-index.invariant ∙ content_ends (g.K.Keeper.records c.args.keeper.now) c.loop-index.index c.loop-index.opening past
    ∙ no_view c.loop-index.index c.loop-index.opening (sym c.if-has_view.ensures)
    ∙ ap (λ (n : ℕ). Err n) end
