-- What the messages of a script's world say: an outcome that is replied is that of the request's one entry.
use Rattle.std.specs.Prelude.{◌≡◌, ℕ, List, slice_get, Some}
use Rattle.std.specs.List.{AllByRecursion}
use Rattle.fault_script.specs.declared.lines.Line.{Line}
use Rattle.ft_base.specs.declared.requests.Outcome.{Outcome}
use Rattle.group_model.specs.Replying.{IsEntryOf}
use Rattle.script_clients.specs.declared.answers.Attempt.{Attempt}
use Rattle.script_groups.specs.Groups.{ScriptGroup, common_of, reply_of}
use Rattle.script_world.specs.declared.messages.Message.{Message}
use Rattle.script_world.specs.declared.messages.Message.TheVariants as messages
use Rattle.script_world.specs.declared.messages.Reply.{Reply}
use Rattle.script_world.specs.World.{empty}
use Rattle.sys_faults.specs.declared.answers.Answer.{Answer}
use Rattle.sys_faults.specs.declared.answers.Answer.TheVariants.{Done}
use Rattle.ft_world.specs.Delivering.{asked_by}
use Rattle.ft_world.specs.Laws.{world_after}

-- Among these groups and messages, a reply has its request; and its group has an entry of what that asks, of which this
-- outcome is the one reply.
pub record RepliesEntry (gs : List ScriptGroup) (ms : List Message) (r : Reply) (outcome : Outcome) : Type 0 where
  -- the request, and its place among all messages
  pub number : ℕ
  pub asked : Attempt
  pub sent : slice_get ms number ≡ Some (messages.Request r.client r.host asked)
  pub id : asked.id ≡ r.id
  pub to : asked.group ≡ r.group
  -- the group, and its place among all groups
  pub place : ℕ
  pub group : ScriptGroup
  pub at : slice_get gs place ≡ Some group
  pub named : group.id ≡ r.group
  -- the entry's place in the journal
  pub entry : ℕ
  pub is_of : IsEntryOf (common_of group).journal (asked_by asked) entry
  pub tells : outcome ≡ reply_of group entry

-- other answers tell no outcome
abbrev pub RepliesAs : List ScriptGroup → List Message → Reply → Answer → Type 0
RepliesAs gs ms r (Done outcome) = RepliesEntry gs ms r outcome
RepliesAs gs ms r other = Unit {0}

-- nothing is said of any other message
abbrev pub RepliesOnce : List ScriptGroup → List Message → Message → Type 0
RepliesOnce gs ms (messages.Reply r) = RepliesAs gs ms r r.answer
RepliesOnce gs ms other = Unit {0}

-- In each world of a script, so does every reply that was ever sent, by the journal as it is now.
abbrev pub ScriptsReplyOnce : Type 0
ScriptsReplyOnce = (script : List Line) → let w = world_after empty script in AllByRecursion (RepliesOnce w.groups w.messages) w.messages
