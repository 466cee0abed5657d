-- What an event sends, and that it agrees with the group after the event.
use Rattle.std.specs.Prelude.{Bool, List, []}
use Rattle.std.specs.List.{AllByRecursion}
use Rattle.ft_base.specs.Machine.{Machine}
use Rattle.ft_base.specs.declared.numbers.HostNo.{HostNo}
use Rattle.group_model.specs.declared.events.Event.{Event}
use Rattle.group_model.specs.declared.events.Event.TheVariants as events
use Rattle.group_model.specs.declared.events.GroupAnswer.{GroupAnswer}
use Rattle.group_model.specs.declared.events.GroupAnswer.TheVariants as answers
use Rattle.group_model.specs.declared.events.Inner.{Inner}
use Rattle.group_model.specs.declared.events.Inner.TheVariants as inners
use Rattle.group_model.specs.declared.events.Out.{Out}
use Rattle.group_model.specs.Plain.{Group}
use Rattle.group_model.specs.Events.{turn_of, after_event}
use Rattle.group_model.specs.Agreeing.{Agrees, IsSound}

-- the event that it is for the host to which it goes
abbrev pub brought_to_host : HostNo → Inner → Event
brought_to_host to (inners.View version) = events.View to version
brought_to_host to (inners.State position state) = events.State to position state
brought_to_host to (inners.Update from until update) = events.Update to from until update
brought_to_host to (inners.Order index request) = events.Order to index request

-- the event that something sent is when it arrives
abbrev pub brought : Out → Event
brought out = brought_to_host out.to out.carried

-- what an answer says was sent
abbrev pub sent_by : GroupAnswer → List Out
sent_by (answers.Reply decision answer out) = out
sent_by (answers.Known version) = []
sent_by (answers.Applied n) = []
sent_by (answers.Held n) = []
sent_by (answers.Ignored cause) = []
sent_by (answers.Taken from position out) = out
sent_by (answers.Changed view out) = out
sent_by (answers.Refused fault) = []
sent_by answers.LogFault = []
sent_by answers.Down = []
sent_by answers.Up = []
sent_by answers.NoMemory = []

-- What an event sends, brought to the host to which it goes, agrees with the group after the event.
abbrev pub WhatIsSentAgrees : Type 0
WhatIsSentAgrees = (m : Machine) (g : Group) (e : Event) (fails : Bool) → IsSound m g → Agrees m e g →
    AllByRecursion (λ out. Agrees m (brought out) (after_event m g e fails)) (sent_by (turn_of m g e fails).answer)
