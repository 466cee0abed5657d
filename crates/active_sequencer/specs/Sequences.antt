-- What serving a request leaves at a host of an active group, and what it sends.
use Rattle.std.specs.Prelude.{◌≡◌, ℕ, ◌+◌, List, [], Option, Some}
use Rattle.ft_base.specs.Machine.{Machine}
use Rattle.ft_base.specs.declared.decisions.Decision.{Decision}
use Rattle.ft_base.specs.declared.decisions.Decision.TheVariants as decisions
use Rattle.ft_base.specs.declared.decisions.Stop.{Stop}
use Rattle.ft_base.specs.declared.requests.Request.{Request}
use Rattle.ft_base.specs.declared.views.Style.TheVariants.{Active}
use Rattle.sys_faults.specs.declared.answers.Answer.{Answer}
use Rattle.group_model.specs.declared.events.GroupAnswer.{GroupAnswer}
use Rattle.group_model.specs.declared.events.GroupAnswer.TheVariants.{Reply}
use Rattle.group_model.specs.declared.events.Out.{Out}
use Rattle.group_model.specs.Plain.{Common, Host, Place}
use Rattle.group_model.specs.Serving.{served}
use Rattle.group_model.specs.Turns.{Turn}
use Rattle.group_stands.specs.Stands.{LogStands, ReplicaStands}
use Rattle.passive_dispatch.specs.Served.{Seen, CanServe, IsServed, shows_fault}
use Rattle.passive_dispatch.specs.declared.serving.Replied.{Replied}
use Rattle.passive_dispatch.specs.declared.serving.Served.{Served}
use Rattle.passive_dispatch.specs.declared.serving.Served.TheVariants.{Done, NoMemory}

-- the host of an active group that may serve the request
pub record CanSequence (machines : ℕ → Machine) (c : Common) (place : Place) (version : ℕ) (request : Request) (now : Seen) : Type 0 where
  pub can_serve : CanServe machines c place version request now
  pub active : c.style ≡ Active

-- a reply as the plain group's answer
abbrev pub replied_as : Replied → GroupAnswer
replied_as replied = Reply replied.decision replied.answer replied.out

-- Log, replica, decision, answer, what is sent and servant calls are a turn's.
pub record IsTurn (machines : ℕ → Machine) (t : Turn) (replied : Replied) (before : ℕ) (now : Seen) : Type 0 where
  pub log : LogStands machines t.common now.log
  pub replica : ReplicaStands machines t.common now.replica t.host.place
  pub told : t.answer ≡ replied_as replied
  pub calls : now.steps ≡ before + t.calls

-- The request had the plain group's turn; or memory was wanted, and all is as before, or it was new and joined
-- unrun.
abbrev pub IsSequenced : (ℕ → Machine) → Common → Host → ℕ → ℕ → Request → Stop → Served → Seen → Seen → Type 0
IsSequenced machines c h host clock request stop (Done replied) before now =
    IsTurn machines (served (machines c.kind) c h host clock request stop (shows_fault replied.decision)) replied before.steps now
IsSequenced machines c h host clock request stop NoMemory before now = IsServed machines c h host clock request stop NoMemory before now

-- orders go out with an answer to an entry that was appended, and with nothing else
abbrev pub sent_with : Decision → Option Answer → List Out → List Out
sent_with (decisions.Append i) (Some answer) orders = orders
sent_with decision answer orders = []

-- the reply with this sent
abbrev pub sending : List Out → Replied → Replied
sending out replied = record replied { out = out }
