use Rattle.std.proofs.Common.{Err, ap, arith, sym, ◌∙◌}
use Rattle.group_model.specs.Decisions.{args_within}
use Rattle.group_model.specs.declared.refusals.Refusal.{Refusal}
use Rattle.decision_table.proofs.Bodies.{read_ok, read_bad}
use Rattle.decision_table.proofs.arguments.args_within.Goals as goal

pub unless_long-requires : goal.unless_long-requires
unless_long-requires c = omega (arith, c.in-Ok.ensures.sized, c.requires)

pub returns-in-Ok-unless_long-clause-args : goal.returns-in-Ok-unless_long-clause-args
returns-in-Ok-unless_long-clause-args c =
    ap (args_within c.args.known.0) (read_ok c.args.body.now c.args.signature.now c.in-Ok.args c.in-Ok.ensures.exact) ∙ sym c.in-Ok-unless_long.ensures.args

pub returns-in-Err-clause-args : goal.returns-in-Err-clause-args
returns-in-Err-clause-args c =
    ap (args_within c.args.known.0) (read_ok c.args.body.now c.args.signature.now c.in-Ok.args c.in-Ok.ensures.exact) ∙ sym c.in-Err.ensures.args

pub returns-in-Err-Bad-clause-args : goal.returns-in-Err-Bad-clause-args
returns-in-Err-Bad-clause-args c =
    let exact = rw c.in-Err-Bad.field-0-is at c.in-Err-Bad.ensures.exact in
    ap (args_within c.args.known.0) (read_bad c.args.body.now c.args.signature.now c.in-Err-Bad.place exact)
    ∙ ap (λ (r : Refusal). Err r) (sym c.refused.ensures)
