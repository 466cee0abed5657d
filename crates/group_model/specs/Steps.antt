-- A step: an event that agrees with a sound group, its answer, and a group to which it leads. Where memory was wanted
-- there may be several.
use Rattle.std.specs.Prelude.{◌≡◌, ◌≤◌, List, [], ◌∷◌, length}
use Rattle.ft_base.specs.Machine.{Machine}
use Rattle.ft_base.specs.Laws.{Stays}
use Rattle.group_model.specs.declared.events.Event.{Event}
use Rattle.group_model.specs.declared.events.GroupAnswer.{GroupAnswer}
use Rattle.group_model.specs.declared.events.GroupAnswer.TheVariants as answers
use Rattle.group_model.specs.Plain.{Group}
use Rattle.group_model.specs.Events.{turn_of, after_event, shows_fault}
use Rattle.group_model.specs.Agreeing.{Agrees, IsSound}
use Rattle.group_model.specs.Lean.{IsLean}
use Rattle.group_model.specs.Laws.{Grows, Lasts}

-- The answer is that of the event's turn, in which the log's write fails exactly where the answer shows it, and the
-- group is the one after it; or memory was wanted, and the group is one that this may leave.
abbrev pub LeadsTo : Machine → Group → Event → GroupAnswer → Group → Type 0
LeadsTo m g e answers.NoMemory after = IsLean m g e after
LeadsTo m g e answer after = ((turn_of m g e (shows_fault answer)).answer ≡ answer) × (after ≡ after_event m g e (shows_fault answer))

pub record IsStep (m : Machine) (g : Group) (e : Event) (answer : GroupAnswer) (after : Group) : Type 0 where
  pub sound : IsSound m g
  pub agrees : Agrees m e g
  pub leads : LeadsTo m g e answer after

-- ---- a list of steps

-- an event and its answer
pub record Act : Type 0 where
  pub event : Event
  pub answer : GroupAnswer

-- they lead from one group to another, step by step
unfoldable pub AreSteps : Machine → Group → List Act → Group → Type 0
AreSteps m g [] after = after ≡ g
AreSteps m g (act ∷ acts) after = (next : Group) × IsStep m g act.event act.answer next × AreSteps m next acts after

-- ---- what they keep

-- a group stays sound
abbrev pub StepsStaySound : Type 0
StepsStaySound = (m : Machine) (g : Group) (acts : List Act) (after : Group) → Stays m → IsSound m g → AreSteps m g acts after → IsSound m after

-- its journal and its views only get more
abbrev pub StepsGrow : Type 0
StepsGrow = (m : Machine) (g : Group) (acts : List Act) (after : Group) → AreSteps m g acts after → Grows g.common after.common

-- What could come, and has not come, can still come.
abbrev pub StepsKeepAgreement : Type 0
StepsKeepAgreement = (m : Machine) (g : Group) (acts : List Act) (after : Group) → IsSound m g → AreSteps m g acts after →
    (e : Event) → Lasts e → Agrees m e g → Agrees m e after

-- ---- want of memory alone

-- what it leaves has only more, too
abbrev pub LeanGrows : Type 0
LeanGrows = (m : Machine) (g : Group) (e : Event) (left : Group) → g.common.ran ≤ length g.common.journal → IsLean m g e left → Grows g.common left.common

-- what it leaves is sound
abbrev pub LeanStaysSound : Type 0
LeanStaysSound = (m : Machine) (g : Group) (e : Event) (left : Group) → Stays m → IsSound m g → Agrees m e g → IsLean m g e left → IsSound m left

-- and what could come to the group can come to it
abbrev pub LeanKeepsAgreement : Type 0
LeanKeepsAgreement = (m : Machine) (g : Group) (e : Event) (left : Group) → IsSound m g → IsLean m g e left →
    (later : Event) → Lasts later → Agrees m later g → Agrees m later left
