-- Of the lines that a delivery prints, the decision of a host stands first where a request came to a group, and never else.
use Rattle.std.proofs.Common.{ℕ, ◌+◌, Bool, true, false, List, [], ◌∷◌, ◌++◌, length, Option, Some, None, if◌then◌else◌}
use Rattle.std.specs.Prelude.{is_some}
use Rattle.ft_base.specs.declared.decisions.Decision.{Decision}
use Rattle.ft_base.specs.declared.numbers.HostNo.{HostNo}
use Rattle.ft_base.specs.declared.numbers.Version.{Version}
use Rattle.ft_base.specs.declared.requests.Par.{Par}
use Rattle.ft_report.specs.declared.reports.ReportLine.{ReportLine}
use Rattle.ft_report.specs.declared.reports.ReportLine.TheVariants as reports
use Rattle.group_model.specs.declared.events.GroupAnswer.{GroupAnswer}
use Rattle.group_model.specs.declared.events.GroupAnswer.TheVariants as group_answers
use Rattle.group_model.specs.declared.events.Out.{Out}
use Rattle.group_model.specs.Sending.{brought}
use Rattle.script_clients.specs.Clients.{Client, hearing}
use Rattle.script_clients.specs.declared.answers.Attempt.{Attempt}
use Rattle.script_clients.specs.declared.answers.Told.{Told}
use Rattle.script_clients.specs.declared.answers.Told.TheVariants as tolds
use Rattle.script_groups.specs.Groups.{ScriptGroup, Placed, group_numbered, turn}
use Rattle.script_monitor.specs.Watches.{member_at}
use Rattle.script_world.specs.World.{World, is_up, with_client, with_messages}
use Rattle.script_world.specs.declared.messages.Message.TheVariants as messages
use Rattle.script_world.specs.declared.messages.Reply.{Reply}
use Rattle.host_ports.specs.Ports.{host_at}
use Rattle.host_server.specs.Replies.{no_group}
use Rattle.sys_faults.specs.declared.answers.Answer.TheVariants as answers
use Rattle.world_monitors.specs.Arriving.{alive_line, ping_of, pong_of}
use Rattle.world_turns.specs.Turns.{Effect, says}
use Rattle.world_turns.specs.Naming.{Naming, NeverMade, Deleted, There, late_line}
use Rattle.ft_world.specs.Clients.{adopted_lines, attempted, attempts, does}
use Rattle.ft_world.specs.Delivering.{brought_to, came, heard_by, heard_of, held, index_of, replied, turned_away}
use Rattle.ft_world.specs.Printed.{shown}
use Rattle.ft_world.specs.Replying.{IfDecided}
use Rattle.ft_world.specs.declared.deliveries.Asker.{Asker}

either_effect : (P : Effect → Type 0) (b : Bool) (x y : Effect) → P x → P y → P (if b then x else y)
either_effect P true x y p q = p
either_effect P false x y p q = q

-- whatever is said of a decision
module _ (P : HostNo → List ℕ → Decision → List ReportLine → Type 0) where
  -- one of two lines
  either_line : (b : Bool) (x y : ReportLine) (rest : List ReportLine) → IfDecided P (x ∷ rest) → IfDecided P (y ∷ rest) →
      IfDecided P ((if b then x else y) ∷ rest)
  either_line true x y rest p q = p
  either_line false x y rest p q = q

  attempt_none : (w : World) (client : ℕ) (name : List ℕ) (a : Attempt) (o : Option HostNo) → IfDecided P (attempted w client name a o).lines
  attempt_none w client name a None = tt
  attempt_none w client name a (Some host) = tt

  adopted_none : (name : List ℕ) (version : Version) (o : Option (Placed ScriptGroup)) (rest : List ReportLine) → IfDecided P rest →
      IfDecided P (adopted_lines name version o ++ rest)
  adopted_none name version None rest first = first
  adopted_none name version (Some g) rest first = tt

  does_none : (w : World) (client : ℕ) (name : List ℕ) (gives : Option Par) (idle : List ReportLine) (told : Told) → IfDecided P idle →
      IfDecided P (does w client name gives idle told).lines
  does_none w client name gives idle (tolds.Attempt a) first = attempt_none w client name a (host_at a.port)
  does_none w client name gives idle (tolds.Adopted group version a) first =
      adopted_none name version (group_numbered w.groups group.0) (attempts w client name a).lines (attempt_none w client name a (host_at a.port))
  does_none w client name gives idle (tolds.Ended number end) first = tt
  does_none w client name gives idle tolds.Nothing first = first

  pub heard_none : (w : World) (k : ℕ) (r : Reply) (o : Option Client) → IfDecided P (heard_by w k r o).lines
  heard_none w k r None = tt
  heard_none w k r (Some c) =
      let t = hearing c r.id (heard_of w r.group r.answer) (record { 0 = w.clock }) in
      does_none (with_client w r.client t.client) r.client c.name r.gives (reports.UnheardReply k ∷ []) t.told tt

  held_none : (k : ℕ) (index : Option ℕ) (position : ℕ) → IfDecided P (held k index position)
  held_none k None position = tt
  held_none k (Some index) position = tt

  came_none : (k : ℕ) (name : List ℕ) (to : HostNo) (index : Option ℕ) (a : GroupAnswer) → IfDecided P (came k name to index a)
  came_none k name to index (group_answers.Known version) = tt
  came_none k name to index (group_answers.Applied position) = tt
  came_none k name to index (group_answers.Held position) = held_none k index position
  came_none k name to index (group_answers.Ignored why) = tt
  came_none k name to index group_answers.Down = tt
  came_none k name to index other = tt

  late_none : (w : World) (k : ℕ) (to : HostNo) → IfDecided P (late_line w k to ∷ [])
  late_none w k to = either_line (is_up w to.0) (reports.IgnoredDeleted k) (reports.Lost k) [] tt tt

  pub brought_none : (w : World) (k : ℕ) (out : Out) (n : Naming) → IfDecided P (brought_to w k out n).lines
  brought_none w k out NeverMade = tt
  brought_none w k out (Deleted g) = late_none w k out.to
  brought_none w k out (There g) = came_none k g.value.name out.to (index_of out.carried) (turn g.value (brought out)).answer

  pub ping_none : (w : World) (k : ℕ) (host : HostNo) (n : Naming) → IfDecided P (ping_of w k host n).lines
  ping_none w k host NeverMade = tt
  ping_none w k host (Deleted g) = late_none w k host
  ping_none w k host (There g) =
      either_effect (λ e. IfDecided P e.lines) (is_up w host.0)
      (says (with_messages w (messages.Pong g.value.id host ∷ [])) (reports.Pong (length w.messages + 1) host g.value.name ∷ []))
      (says w (reports.Lost k ∷ [])) tt tt

  pub pong_none : (w : World) (k : ℕ) (host : HostNo) (n : Naming) → IfDecided P (pong_of w k host n).lines
  pong_none w k host NeverMade = tt
  pong_none w k host (Deleted g) = tt
  pong_none w k host (There g) = alive (is_some (member_at w.watch g.value.id.0 host.0))
    where
      alive : (b : Bool) → IfDecided P (alive_line b k g.value.name host ∷ [])
      alive true = tt
      alive false = tt

  pub away_none : (w : World) (k : ℕ) (a : Asker) → IfDecided P (turned_away w k a).lines
  away_none w k a =
      either_effect (λ e. IfDecided P e.lines) (is_up w a.host.0)
      (says (replied w a None None (answers.System no_group))
      (reports.NoGroup a.host ∷ reports.Reply (length w.messages + 1) a.host a.client_name a.id (shown a.group_name None (answers.System no_group)) ∷ []))
      (says w (reports.Lost k ∷ [])) tt tt
