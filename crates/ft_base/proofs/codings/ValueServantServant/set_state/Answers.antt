use Rattle.std.proofs.Common.{sym, ◌∙◌}
use Rattle.ft_base.specs.CodingLaws as codings
use Rattle.ft_base.proofs.codings.ValueServantServant.set_state.Goals as goal

pub returns-in-Ok-Some-clause-set : goal.returns-in-Ok-Some-clause-set
returns-in-Ok-Some-clause-set g c =
    codings.state_said g.V.Coded.coding c.args.bytes.now c.in-Ok-Some.value (sym c.in-Ok-Some.ensures ∙ c.in-Ok-Some.field-0-is)

pub returns-in-Ok-Some-clause-judged : goal.returns-in-Ok-Some-clause-judged
returns-in-Ok-Some-clause-judged g c =
    codings.said_is_state g.V.Coded.coding c.args.bytes.now c.in-Ok-Some.value (sym c.in-Ok-Some.ensures ∙ c.in-Ok-Some.field-0-is)

pub returns-in-Ok-None-clause-judged : goal.returns-in-Ok-None-clause-judged
returns-in-Ok-None-clause-judged g c =
    codings.unsaid_is_none g.V.Coded.coding c.args.bytes.now (sym c.in-Ok-None.ensures ∙ c.in-Ok-None.field-0-is)
