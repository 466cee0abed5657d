-- How much an event sends.
use Rattle.std.specs.Prelude.{ℕ, ◌+◌, ◌≤◌, Bool, length}
use Rattle.ft_base.specs.Machine.{Machine}
use Rattle.ft_base.specs.declared.views.TheConstants.{MEMBER_LIMIT}
use Rattle.group_model.specs.declared.changes.Change.{Change}
use Rattle.group_model.specs.declared.changes.Change.TheVariants as changes
use Rattle.group_model.specs.declared.events.Event.{Event}
use Rattle.group_model.specs.declared.events.Event.TheVariants as events
use Rattle.group_model.specs.Plain.{Group}
use Rattle.group_model.specs.Events.{turn_of}
use Rattle.group_model.specs.Agreeing.{IsSound}
use Rattle.group_model.specs.Sending.{sent_by}

-- A change tells its view to the old members and to those that join. These are no more than one view can have, and one
-- more where a host is replaced: the host that leaves is told too.
abbrev pub most_told : Change → ℕ
most_told (changes.Report host) = MEMBER_LIMIT
most_told (changes.Remove host) = MEMBER_LIMIT
most_told (changes.Add host) = MEMBER_LIMIT
most_told (changes.Create host listed made) = MEMBER_LIMIT
most_told (changes.Primary host) = MEMBER_LIMIT
most_told (changes.Replace host spares) = MEMBER_LIMIT + 1

-- any other event sends to other members of one view
abbrev pub most_sent : Event → ℕ
most_sent (events.Request host clock asked stop) = MEMBER_LIMIT
most_sent (events.View host sent) = MEMBER_LIMIT
most_sent (events.State host position state) = MEMBER_LIMIT
most_sent (events.Update host begin end update) = MEMBER_LIMIT
most_sent (events.Order host index request) = MEMBER_LIMIT
most_sent (events.Crash host) = MEMBER_LIMIT
most_sent (events.Restart host) = MEMBER_LIMIT
most_sent (events.Checkpoint host clock) = MEMBER_LIMIT
most_sent (events.SendUpdate host) = MEMBER_LIMIT
most_sent (events.Manage change) = most_told change

-- No event sends more.
abbrev pub FewAreSent : Type 0
FewAreSent = (m : Machine) (g : Group) (e : Event) (fails : Bool) → IsSound m g → length (sent_by (turn_of m g e fails).answer) ≤ most_sent e
