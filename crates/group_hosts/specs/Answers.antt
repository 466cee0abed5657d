-- What is answered of what came to a host.
use Rattle.std.specs.Prelude.{ℕ}
use Rattle.ft_base.specs.declared.decisions.Decision.TheVariants as decisions
use Rattle.sys_faults.specs.declared.faults.SysKind.TheVariants as kinds
use Rattle.checkpoint_transfer.specs.declared.giving.Given.{Given}
use Rattle.checkpoint_transfer.specs.declared.giving.Given.TheVariants as givings
use Rattle.group_model.specs.declared.events.GroupAnswer.{GroupAnswer}
use Rattle.group_model.specs.declared.events.GroupAnswer.TheVariants as answers
use Rattle.group_model.specs.Decisions.{refusal}
use Rattle.group_model.specs.Serving.{told}

-- a request with a context that stands twice or can't be read
abbrev pub context_told : ℕ → GroupAnswer
context_told id = told (decisions.Context id) (refusal kinds.BadContext 3)

abbrev pub given_told : Given → GroupAnswer
given_told (givings.Applied position) = answers.Applied position
given_told (givings.Ignored cause) = answers.Ignored cause
given_told givings.NoMemory = answers.NoMemory
