use Rattle.std.proofs.Common.{◌∙◌, sym}
use Rattle.giop_stream.proofs.TallyLaws.{left_after, left_at_end, left_at_fault}
use Rattle.giop_stream.proofs.tallies.Tally.left_over.Goals as goal

pub parts-preserved : goal.parts-preserved
parts-preserved c = λ n before.
    left_after c.parts.self c.take.new.self c.parts.rest.now c.split_at.result.0.now c.split_at.result.1.now n c.in-Whole.head
    c.in-Whole.ensures.value c.take.ensures c.split_at.ensures.front c.split_at.ensures.back (c.parts.invariant n before)

pub returns-in-Partly : goal.returns-in-Partly
returns-in-Partly c = λ n before.
    c.with.ensures ∙ left_at_end c.parts.self c.parts.rest.now n (sym c.in-Partly.ensures.value) (c.parts.invariant n before)

pub returns-in-Wrong : goal.returns-in-Wrong
returns-in-Wrong c = λ n before.
    absurd (left_at_fault c.parts.self c.parts.rest.now n _ (sym c.in-Wrong.ensures.value) (c.parts.invariant n before))
