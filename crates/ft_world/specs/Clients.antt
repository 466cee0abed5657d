-- What a client does, as messages and as lines.
use Rattle.std.specs.Prelude.{ℕ, ◌+◌, pos, Bool, true, false, List, [], ◌∷◌, length, Option, Some, None, Result, Ok, Err, unwrap_or}
use Rattle.ft_base.specs.declared.numbers.HostNo.{HostNo}
use Rattle.ft_base.specs.declared.numbers.Retention.{Retention}
use Rattle.ft_base.specs.declared.numbers.Tick.{Tick}
use Rattle.ft_base.specs.declared.numbers.Version.{Version}
use Rattle.ft_base.specs.declared.requests.Key.{Key}
use Rattle.ft_base.specs.declared.requests.Par.{Par}
use Rattle.ft_base.specs.declared.requests.Request.{Request}
use Rattle.fault_script.specs.Arguments.{call_words_of}
use Rattle.fault_script.specs.declared.arguments.CallWords.{CallWords}
use Rattle.fault_script.specs.declared.lines.LineFault.{LineFault}
use Rattle.fault_script.specs.declared.lines.LineFault.TheVariants.{Unknown}
use Rattle.ft_report.specs.declared.reports.ReportLine.{ReportLine}
use Rattle.ft_report.specs.declared.reports.ReportLine.TheVariants as reports
use Rattle.host_ports.specs.Ports.{host_at}
use Rattle.iogr_reference.specs.declared.references.GroupRef.{GroupRef}
use Rattle.message_sizes.specs.Sizes.{request_size}
use Rattle.script_clients.specs.declared.answers.Attempt.{Attempt}
use Rattle.script_clients.specs.declared.answers.Told.{Told}
use Rattle.script_clients.specs.declared.answers.Told.TheVariants as tolds
use Rattle.script_clients.specs.declared.answers.Call.{Call}
use Rattle.script_clients.specs.Clients.{Client, Turn as Turned, taking}
use Rattle.script_world.specs.declared.worlds.Begun.{Begun}
use Rattle.script_world.specs.Worlds.{begin}
use Rattle.script_groups.specs.Groups.{ScriptGroup, Placed, group_numbered, signature_of}
use Rattle.script_groups.specs.References.{newest_reference}
use Rattle.script_world.specs.declared.limits.TheConstants.{DEFAULT_LIFE}
use Rattle.script_world.specs.declared.messages.Message.TheVariants as messages
use Rattle.shown_ends.specs.Ends.{shown_end}
use Rattle.script_world.specs.World.{World, client_named, counted, with_client, with_messages}
use Rattle.world_turns.specs.Naming.{Naming, NeverMade, Deleted, There, gone, group_called}
use Rattle.world_turns.specs.Turns.{Effect, Turn, Refused, goes, says, saying}

-- ---- what a client does

-- an attempt goes to the host that listens at its port; where none does it is lost
abbrev pub attempted : World → ℕ → List ℕ → Attempt → Option HostNo → Effect
attempted w client name a None = says w []
attempted w client name a (Some host) =
    says (counted (with_messages w (messages.Request client host a ∷ [])) (request_size a)) (reports.Attempt (length w.messages + 1) name host a.id ∷ [])

abbrev pub attempts : World → ℕ → List ℕ → Attempt → Effect
attempts w client name a = attempted w client name a (host_at a.port)

-- the reference that it goes by now
abbrev pub adopted_lines : List ℕ → Version → Option (Placed ScriptGroup) → List ReportLine
adopted_lines name version None = []
adopted_lines name version (Some g) = reports.Adopted name g.value.name version ∷ []

-- by what it is told; these lines where it does nothing
abbrev pub does : World → ℕ → List ℕ → Option Par → List ReportLine → Told → Effect
does w client name gives idle (tolds.Attempt a) = attempts w client name a
does w client name gives idle (tolds.Adopted group version a) =
    saying (adopted_lines name version (group_numbered w.groups group.0)) (attempts w client name a)
does w client name gives idle (tolds.Ended number end) = says w (reports.Done name number (shown_end gives end) ∷ [])
does w client name gives idle tolds.Nothing = says w idle

-- ---- `call C G OP ..`

abbrev pub retention_of : Client → Option Retention → Retention
retention_of c None = record { 0 = pos (c.numbered + 1) }
retention_of c (Some retention) = retention

abbrev pub is_numbered : Option Retention → Bool
is_numbered None = true
is_numbered (Some retention) = false

abbrev pub expiration_of : World → Option Tick → Tick
expiration_of w None = record { 0 = w.clock + DEFAULT_LIFE }
expiration_of w (Some expiration) = expiration

abbrev pub key_of : World → Client → CallWords → Key
key_of w c said =
    record { client = c.name; retention = retention_of c said.retention; expiration = expiration_of w said.expiration }

abbrev pub request_of : World → Client → List ℕ → CallWords → Request
request_of w c op said = record { key = Some (key_of w c said); op = op; args = said.args }

-- over its reference of the group; a client that has none yet takes the newest
abbrev pub begun : World → Client → ScriptGroup → List ℕ → CallWords → Option GroupRef → Begun
begun w c g op said reference = record {
  reference = unwrap_or reference (newest_reference g);
  expiration = expiration_of w said.expiration;
  numbers = is_numbered said.retention;
  versioned = said.versioned;
  request = request_of w c op said;
}

abbrev pub started_by : World → Placed Client → Turned → Effect
started_by w c turn = does (with_client w c.place turn.client) c.place c.value.name None [] turn.told

abbrev pub started : World → Placed Client → ScriptGroup → List ℕ → CallWords → Effect
started w c g op said =
    let took = taking c.value g.id in
    started_by w c (begin took.client (begun w c.value g op said took.reference))

-- a client with an open invocation is busy
abbrev pub call_by : World → Placed Client → ScriptGroup → List ℕ → CallWords → Option Call → Effect
call_by w c g op said None = started w c g op said
call_by w c g op said (Some open_call) = says w (reports.Busy c.value.name ∷ [])

abbrev pub call_from : World → Option (Placed Client) → ScriptGroup → List ℕ → CallWords → Turn
call_from w None g op said = Refused Unknown 0
call_from w (Some c) g op said = goes (call_by w c g op said c.value.call)

abbrev pub call_said : World → List ℕ → ScriptGroup → List ℕ → Result CallWords LineFault → Turn
call_said w client g op (Err why) = Refused why 0
call_said w client g op (Ok said) = call_from w (client_named w client) g op said

-- a group that was deleted: its words are judged, and its client is looked for, first
abbrev pub gone_for : World → Option (Placed Client) → Turn
gone_for w None = Refused Unknown 0
gone_for w (Some c) = goes (gone w)

abbrev pub gone_said : World → List ℕ → Result CallWords LineFault → Turn
gone_said w client (Err why) = Refused why 0
gone_said w client (Ok said) = gone_for w (client_named w client)

abbrev pub call_to : World → List ℕ → Naming → List ℕ → List (List ℕ) → Turn
call_to w client NeverMade op words = Refused Unknown 0
call_to w client (Deleted g) op words = gone_said w client (call_words_of (signature_of g.value op) words)
call_to w client (There g) op words = call_said w client g.value op (call_words_of (signature_of g.value op) words)

abbrev pub call_line : World → List ℕ → List ℕ → List ℕ → List (List ℕ) → Turn
call_line w client group op words = call_to w client (group_called w group) op words
