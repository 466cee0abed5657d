-- Arms of the world's definitions that are never taken: those for a group or a client that was never made, and those for
-- an answer that an event can't have.
use Rattle.std.specs.Prelude.{◌≡◌, ℕ, true, is_some, List, ◌++◌, slice_get, Option, Some, None}
use Rattle.std.specs.List.{AllByRecursion}
use Rattle.fault_script.specs.declared.lines.Line.{Line}
use Rattle.ft_base.specs.declared.decisions.Stop.{Stop}
use Rattle.ft_base.specs.declared.decisions.Stop.TheVariants.{Never, AfterAppend, AfterExecute}
use Rattle.ft_base.specs.declared.numbers.GroupId.{GroupId}
use Rattle.group_model.specs.declared.events.Event.{Event}
use Rattle.group_model.specs.declared.events.Event.TheVariants as events
use Rattle.group_model.specs.declared.events.GroupAnswer.{GroupAnswer}
use Rattle.group_model.specs.declared.events.GroupAnswer.TheVariants as answers
use Rattle.iogr_reference.specs.declared.references.GroupRef.{GroupRef}
use Rattle.script_clients.specs.Clients.{Client, last_reference}
use Rattle.script_groups.specs.Groups.{ScriptGroup, group_numbered, turn}
use Rattle.script_world.specs.declared.messages.Message.{Message}
use Rattle.script_world.specs.declared.messages.Message.TheVariants as messages
use Rattle.script_world.specs.World.{World, empty}
use Rattle.sys_faults.specs.declared.answers.Answer.{Answer}
use Rattle.ft_world.specs.Laws.{world_after}

-- ---- groups and clients

abbrev pub HasGroup : World → GroupId → Type 0
HasGroup w group = is_some (group_numbered w.groups group.0) ≡ true

abbrev pub HasClient : World → ℕ → Type 0
HasClient w client = is_some (slice_get w.clients client) ≡ true

-- what was sent names a group that was made; a request and a reply name such a client too
abbrev pub NamesMade : World → Message → Type 0
NamesMade w (messages.Request client host a) = HasClient w client × HasGroup w a.group
NamesMade w (messages.Reply r) = HasClient w r.client × HasGroup w r.group
NamesMade w (messages.Carried group out) = HasGroup w group
NamesMade w (messages.Ping group host) = HasGroup w group
NamesMade w (messages.Pong group host) = HasGroup w group

-- so does each reference that a client goes by
abbrev pub GoesByMade : World → Client → Type 0
GoesByMade w c = AllByRecursion (λ (r : GroupRef). HasGroup w r.group) (last_reference c ++ c.others)

abbrev pub ScriptsNameMade : Type 0
ScriptsNameMade = (script : List Line) →
    let w = world_after empty script in AllByRecursion (NamesMade w) w.messages × AllByRecursion (GoesByMade w) w.clients

-- ---- answers

-- a host says something, unless it was to stop
abbrev pub IsSaid : Option Answer → Stop → Type 0
IsSaid (Some answer) stop = Unit {0}
IsSaid None Never = ⊥
IsSaid None AfterAppend = Unit {0}
IsSaid None AfterExecute = Unit {0}

-- what an event may be answered
abbrev pub IsAnswerTo : Event → GroupAnswer → Type 0
IsAnswerTo (events.Request host clock asked stop) (answers.Reply decision answer out) = IsSaid answer stop
IsAnswerTo (events.Request host clock asked stop) answers.Down = Unit {0}
IsAnswerTo (events.View host version) (answers.Known known) = Unit {0}
IsAnswerTo (events.View host version) (answers.Ignored why) = Unit {0}
IsAnswerTo (events.View host version) answers.Down = Unit {0}
IsAnswerTo (events.State host position state) (answers.Applied n) = Unit {0}
IsAnswerTo (events.State host position state) (answers.Ignored why) = Unit {0}
IsAnswerTo (events.State host position state) answers.Down = Unit {0}
IsAnswerTo (events.Update host from to update) (answers.Applied n) = Unit {0}
IsAnswerTo (events.Update host from to update) (answers.Ignored why) = Unit {0}
IsAnswerTo (events.Update host from to update) answers.Down = Unit {0}
IsAnswerTo (events.Order host index request) (answers.Applied n) = Unit {0}
IsAnswerTo (events.Order host index request) (answers.Held n) = Unit {0}
IsAnswerTo (events.Order host index request) (answers.Ignored why) = Unit {0}
IsAnswerTo (events.Order host index request) answers.Down = Unit {0}
IsAnswerTo (events.Crash host) answers.Down = Unit {0}
IsAnswerTo (events.Restart host) answers.Up = Unit {0}
IsAnswerTo (events.Checkpoint host clock) (answers.Taken from position out) = Unit {0}
IsAnswerTo (events.Checkpoint host clock) answers.LogFault = Unit {0}
IsAnswerTo (events.Checkpoint host clock) answers.Down = Unit {0}
IsAnswerTo (events.SendUpdate host) (answers.Taken from position out) = Unit {0}
IsAnswerTo (events.SendUpdate host) answers.Down = Unit {0}
IsAnswerTo (events.Manage change) (answers.Changed view out) = Unit {0}
IsAnswerTo (events.Manage change) (answers.Refused fault) = Unit {0}
IsAnswerTo e other = ⊥

abbrev pub AnswersFit : Type 0
AnswersFit = (g : ScriptGroup) (e : Event) → IsAnswerTo e (turn g e).answer
