-- An event at a core is a step of its group.
use Rattle.std.specs.Prelude.{ℕ}
use Rattle.ft_base.specs.Machine.{Machine}
use Rattle.group_model.specs.declared.events.Event.{Event}
use Rattle.group_model.specs.declared.events.GroupAnswer.{GroupAnswer}
use Rattle.group_model.specs.Agreeing.{Agrees}
use Rattle.group_model.specs.Plain.{Group}
use Rattle.group_model.specs.Steps.{IsStep}
use Rattle.group_core.specs.Acting.{IsActed}
use Rattle.group_core.specs.Cores.{CorePicture, Stands}

-- it leads to a group for which the core stands then
abbrev pub ActsAreSteps : Type 0
ActsAreSteps = (machines : ℕ → Machine) (core later : CorePicture) (g : Group) (e : Event) (answer : GroupAnswer) (before now : ℕ) →
    Stands machines core g → Agrees (machines g.common.kind) e g → IsActed machines g e answer later before now →
    (after : Group) × IsStep (machines g.common.kind) g e answer after × Stands machines later after
