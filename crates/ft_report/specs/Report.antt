-- The lines of output.
use Rattle.std.specs.Prelude.{ℕ, Bool, true, false, List, [], ◌∷◌, codes, decimal, unwrap_or}
use Rattle.std.specs.Fmt.{signed_decimal}
use Rattle.ft_base.specs.declared.numbers.Version.{Version}
use Rattle.ft_base.specs.declared.decisions.Decision.{Decision}
use Rattle.ft_base.specs.declared.decisions.Decision.TheVariants as decisions
use Rattle.ft_base.specs.declared.decisions.Ignored.{Ignored}
use Rattle.ft_base.specs.declared.decisions.Ignored.TheVariants as passed
use Rattle.sys_faults.specs.Kinds.{kind_name}
use Rattle.sys_faults.specs.declared.faults.Completed.{Completed}
use Rattle.sys_faults.specs.declared.faults.Completed.TheVariants.{Yes, No, Maybe}
use Rattle.sys_faults.specs.declared.faults.SysKind.{SysKind}
use Rattle.sys_faults.specs.declared.faults.SysFault.{SysFault}
use Rattle.sys_faults.specs.declared.faults.SysKind.TheVariants.{ImpLimit, NoResponse, Transient, Unknown}
use Rattle.giop_messages.specs.declared.faults.Why.{Why}
use Rattle.giop_messages.specs.declared.faults.Why.TheVariants as causes
use Rattle.group_model.specs.declared.changes.ManageFault.{ManageFault}
use Rattle.group_model.specs.declared.changes.ManageFault.TheVariants as refusals
use Rattle.report_words.specs.Words.{host_text, hosts_text, line, location_text, octets_text, phrase_text}
use Rattle.ft_report.specs.declared.outcomes.Worth.{Worth}
use Rattle.ft_report.specs.declared.outcomes.Worth.TheVariants as worths
use Rattle.ft_report.specs.declared.outcomes.ReportOutcome.{ReportOutcome}
use Rattle.ft_report.specs.declared.outcomes.ReportOutcome.TheVariants.{Value, User, System, Forward, ForwardPerm}
use Rattle.ft_report.specs.declared.reports.CallEnd.{CallEnd}
use Rattle.ft_report.specs.declared.reports.CallEnd.TheVariants as ends
use Rattle.ft_report.specs.declared.reports.Role.{Role}
use Rattle.ft_report.specs.declared.reports.Role.TheVariants as roles
use Rattle.ft_report.specs.declared.reports.SettingFault.{SettingFault}
use Rattle.ft_report.specs.declared.reports.SettingFault.TheVariants as settings
use Rattle.ft_report.specs.declared.reports.Standing.{Standing}
use Rattle.ft_report.specs.declared.reports.Standing.TheVariants as standings
use Rattle.ft_report.specs.declared.reports.SubscribeFault.{SubscribeFault}
use Rattle.ft_report.specs.declared.reports.SubscribeFault.TheVariants as subscribing
use Rattle.ft_report.specs.declared.reports.ReportLine.{ReportLine}
use Rattle.ft_report.specs.declared.reports.ReportLine.TheVariants as lines

-- a word and a number
abbrev pub with_number : List ℕ → ℕ → List ℕ
with_number word n = phrase_text (word ∷ decimal n ∷ [])

-- a word and two numbers
abbrev pub with_numbers : List ℕ → ℕ → ℕ → List ℕ
with_numbers word n m = phrase_text (word ∷ decimal n ∷ decimal m ∷ [])

-- a number behind a word, and another behind another word
abbrev pub worded_numbers : List ℕ → ℕ → List ℕ → ℕ → List ℕ
worded_numbers word n other m = phrase_text (word ∷ decimal n ∷ other ∷ decimal m ∷ [])

-- a word, a group's name and the version of a view
abbrev pub with_version : List ℕ → List ℕ → Version → List ℕ
with_version word group version = phrase_text (word ∷ group ∷ decimal version.0 ∷ [])

-- a boolean
abbrev pub flag_text : Bool → List ℕ
flag_text true = codes "true"
flag_text false = codes "false"

-- a value
abbrev pub worth_text : Worth → List ℕ
worth_text worths.Void = codes "void"
worth_text (worths.Number number) = signed_decimal number
worth_text (worths.Flag flag) = flag_text flag
worth_text (worths.Octets octets) = octets_text octets

-- whether the request was run
abbrev pub completed_text : Completed → List ℕ
completed_text Yes = codes "yes"
completed_text No = codes "no"
completed_text Maybe = codes "maybe"

-- an exception's name; its repository id in hexadecimal where that is all that is known
abbrev pub kind_text : SysKind → List ℕ
kind_text (Unknown id) = octets_text id
kind_text kind = unwrap_or (kind_name kind) []

-- a system exception
abbrev pub fault_text : SysFault → List ℕ
fault_text fault =
    phrase_text (codes "system" ∷ kind_text fault.kind ∷ decimal fault.minor ∷ completed_text fault.completed ∷ [])

-- what a request came to
abbrev pub outcome_text : ReportOutcome → List ℕ
outcome_text (Value worth) = phrase_text (codes "value" ∷ worth_text worth ∷ [])
outcome_text (User name) = phrase_text (codes "user" ∷ name ∷ [])
outcome_text (System fault) = fault_text fault
outcome_text (Forward group version) = with_version (codes "forward") group version
outcome_text (ForwardPerm group version) = with_version (codes "forward-perm") group version

-- an exception that a client raises by itself: nobody knows whether the request was run
abbrev pub own_fault : SysKind → ℕ → SysFault
own_fault kind minor = record { kind = kind; minor = minor; completed = Maybe }

-- how a client's invocation ended
abbrev pub end_text : CallEnd → List ℕ
end_text (ends.Shown shown) = outcome_text shown
end_text (ends.NoResponse expiration now) =
    phrase_text (fault_text (own_fault NoResponse 1) ∷ worded_numbers (codes "exp") expiration.0 (codes "now") now.0 ∷ [])
end_text (ends.Transient faults profiles) =
    phrase_text (fault_text (own_fault Transient 1) ∷ worded_numbers (codes "faults") faults (codes "profiles") profiles ∷ [])
end_text ends.IdsSpent = fault_text (own_fault ImpLimit 3)

-- what a host made of a request
abbrev pub decision_text : Decision → List ℕ
decision_text (decisions.Append place) = with_number (codes "append") place
decision_text (decisions.Repeat place) = with_number (codes "repeat") place
decision_text (decisions.Expired expiration now) = with_numbers (codes "expired") expiration.0 now.0
decision_text (decisions.Other place) = with_number (codes "other") place
decision_text (decisions.Full count) = with_number (codes "full") count
decision_text decisions.LogFault = codes "logfault"
decision_text (decisions.Newer asked newest) = with_numbers (codes "newer") asked.0 newest.0
decision_text (decisions.Empty known) = with_number (codes "empty") known.0
decision_text (decisions.Older asked known) = with_numbers (codes "older") asked.0 known.0
decision_text (decisions.Stranger known) = with_number (codes "stranger") known.0
decision_text (decisions.Backup known) = with_number (codes "backup") known.0
decision_text (decisions.Deposed known newest) = with_numbers (codes "deposed") known.0 newest.0
decision_text decisions.BadOperation = codes "badop"
decision_text (decisions.Marshal place) = with_number (codes "marshal") place
decision_text (decisions.Long count) = with_number (codes "long") count
decision_text (decisions.Context id) = with_number (codes "context") id

-- why a host ignored what was sent to it
abbrev pub ignored_text : Ignored → List ℕ
ignored_text passed.NotLoaded = codes "not-loaded"
ignored_text (passed.Position sent at) = worded_numbers (codes "position") sent (codes "at") at
ignored_text (passed.From from at) = worded_numbers (codes "from") from (codes "at") at
ignored_text (passed.Order index at) = worded_numbers (codes "order") index (codes "at") at
ignored_text (passed.Known sent known) = worded_numbers (codes "view") sent.0 (codes "known") known.0

-- why a change of a group's members was refused: by the exception of the chapter, or by one of the ORB
abbrev pub refusal_text : ManageFault → List ℕ
refusal_text refusals.ObjectGroupNotFound = codes "ObjectGroupNotFound"
refusal_text (refusals.NoFactory host) = with_number (codes "NoFactory") host.0
refusal_text (refusals.MemberAlreadyPresent host) = with_number (codes "MemberAlreadyPresent") host.0
refusal_text (refusals.ObjectNotAdded count) = with_number (codes "ObjectNotAdded") count
refusal_text (refusals.ObjectNotCreated host) = with_number (codes "ObjectNotCreated") host.0
refusal_text refusals.BadReplicationStyle = codes "BadReplicationStyle"
refusal_text (refusals.MemberNotFound host) = with_number (codes "MemberNotFound") host.0
refusal_text (refusals.PrimaryNotSet host) = with_number (codes "PrimaryNotSet") host.0
refusal_text (refusals.ViewsFull count) = with_number (codes "NO_RESOURCES") count
refusal_text refusals.LogFault = codes "PERSIST_STORE"
refusal_text refusals.NoMemory = codes "NO_MEMORY"

-- why properties, or a new group's criteria, are refused
abbrev pub setting_text : SettingFault → List ℕ
setting_text (settings.InvalidProperty place) = with_number (codes "InvalidProperty") place
setting_text (settings.UnsupportedProperty place) = with_number (codes "UnsupportedProperty") place
setting_text (settings.InvalidCriteria place) = with_number (codes "InvalidCriteria") place
setting_text (settings.CannotMeetCriteria initial minimum) = with_numbers (codes "CannotMeetCriteria") initial minimum
setting_text (settings.TooFew fit minimum) = with_numbers (codes "TooFew") fit minimum

-- why a subscriber is refused
abbrev pub subscribe_text : SubscribeFault → List ℕ
subscribe_text (subscribing.BadFilter place) = with_number (codes "BadFilter") place
subscribe_text (subscribing.Full count) = with_number (codes "Full") count

-- what a host is in a group
abbrev pub role_text : Role → List ℕ
role_text roles.Primary = codes "primary"
role_text roles.Backup = codes "backup"
role_text roles.Active = codes "active"
role_text roles.Former = codes "former"

-- how a host stands in a group
abbrev pub standing_text : Standing → List ℕ
standing_text (standings.At known position state) =
    phrase_text (codes "known" ∷ decimal known.0 ∷ codes "at" ∷ decimal position ∷ codes "state" ∷ octets_text state ∷ [])
standing_text (standings.Blank known) = phrase_text (codes "known" ∷ decimal known.0 ∷ codes "blank" ∷ [])
standing_text standings.Down = codes "down"

-- what is wrong with a message
abbrev pub why_text : Why → List ℕ
why_text causes.Magic = codes "magic"
why_text causes.Version = codes "version"
why_text causes.Flags = codes "flags"
why_text causes.Kind = codes "kind"
why_text causes.Length = codes "length"
why_text causes.Open = codes "open"
why_text causes.Cut = codes "cut"
why_text causes.Short = codes "short"
why_text causes.BadBool = codes "badbool"
why_text causes.BadString = codes "badstring"
why_text causes.BadOrder = codes "badorder"
why_text causes.Address = codes "address"
why_text causes.Status = codes "status"

-- a message from one host to another
abbrev pub between_hosts : ℕ → ℕ → ℕ → List ℕ
between_hosts message from to =
    phrase_text (codes "msg" ∷ decimal message ∷ codes "host" ∷ decimal from ∷ codes "to host" ∷ decimal to ∷ [])

-- the bytes of each line
abbrev pub report_text : ReportLine → List ℕ
report_text (lines.Group name id) =
    line (codes "group" ∷ name ∷ decimal id.0 ∷ [])
report_text (lines.View group version members primary) =
    line (codes "view" ∷ group ∷ decimal version.0 ∷ codes "members" ∷ hosts_text members ∷ codes "primary" ∷ host_text primary ∷ [])
report_text (lines.Deleted group) =
    line (codes "deleted" ∷ group ∷ [])
report_text (lines.Attempt message client host id) =
    line (codes "msg" ∷ decimal message ∷ codes "client" ∷ client ∷ codes "to host" ∷ decimal host.0 ∷ codes "request" ∷ decimal id ∷ [])
report_text (lines.Reply message host client id shown) =
    line (codes "msg" ∷ decimal message ∷ codes "host" ∷ decimal host.0 ∷ codes "to client" ∷ client ∷ codes "reply" ∷ decimal id ∷ outcome_text shown ∷ [])
report_text (lines.At host group decision) =
    line (codes "at" ∷ decimal host.0 ∷ group ∷ decision_text decision ∷ [])
report_text (lines.ViewMessage message host group version) =
    line (codes "msg" ∷ decimal message ∷ codes "manager to host" ∷ decimal host.0 ∷ with_version (codes "view") group version ∷ [])
report_text (lines.StateMessage message from to group position) =
    line (between_hosts message from.0 to.0 ∷ codes "state" ∷ group ∷ decimal position ∷ [])
report_text (lines.UpdateMessage message from to group base position) =
    line (between_hosts message from.0 to.0 ∷ codes "update" ∷ group ∷ decimal base ∷ decimal position ∷ [])
report_text (lines.OrderMessage message from to group index) =
    line (between_hosts message from.0 to.0 ∷ codes "order" ∷ group ∷ decimal index ∷ [])
report_text (lines.Ping message host group) =
    line (codes "msg" ∷ decimal message ∷ codes "monitor to host" ∷ decimal host.0 ∷ codes "ping" ∷ group ∷ [])
report_text (lines.Pong message host group) =
    line (codes "msg" ∷ decimal message ∷ codes "host" ∷ decimal host.0 ∷ codes "to monitor pong" ∷ group ∷ [])
report_text (lines.Applied message position) =
    line (codes "applied" ∷ decimal message ∷ codes "at" ∷ decimal position ∷ [])
report_text (lines.Held message index position) =
    line (codes "held" ∷ decimal message ∷ codes "order" ∷ decimal index ∷ codes "at" ∷ decimal position ∷ [])
report_text (lines.Known host group version) =
    line (codes "known" ∷ decimal host.0 ∷ group ∷ decimal version.0 ∷ [])
report_text (lines.Alive group host) =
    line (codes "alive" ∷ group ∷ decimal host.0 ∷ [])
report_text (lines.Lost message) =
    line (codes "lost" ∷ decimal message ∷ [])
report_text (lines.UnheardReply message) =
    line (codes "ignored" ∷ decimal message ∷ codes "reply" ∷ [])
report_text (lines.IgnoredDeleted message) =
    line (codes "ignored" ∷ decimal message ∷ codes "deleted" ∷ [])
report_text (lines.IgnoredUnwatched message) =
    line (codes "ignored" ∷ decimal message ∷ codes "unwatched" ∷ [])
report_text (lines.Ignored message why) =
    line (codes "ignored" ∷ decimal message ∷ ignored_text why ∷ [])
report_text (lines.Adopted client group version) =
    line (codes "adopt" ∷ client ∷ group ∷ decimal version.0 ∷ [])
report_text (lines.Bound client group version) =
    line (codes "bound" ∷ client ∷ group ∷ decimal version.0 ∷ [])
report_text (lines.Done client call end) =
    line (codes "done" ∷ client ∷ decimal call ∷ end_text end ∷ [])
report_text (lines.Busy client) =
    line (codes "busy" ∷ client ∷ [])
report_text (lines.Idle client) =
    line (codes "idle" ∷ client ∷ [])
report_text (lines.Down host) =
    line (codes "down" ∷ decimal host.0 ∷ [])
report_text (lines.Up host) =
    line (codes "up" ∷ decimal host.0 ∷ [])
report_text (lines.Refused fault) =
    line (codes "refused" ∷ refusal_text fault ∷ [])
report_text (lines.RefusedSetting fault) =
    line (codes "refused" ∷ setting_text fault ∷ [])
report_text (lines.RefusedSubscriber fault) =
    line (codes "refused" ∷ subscribe_text fault ∷ [])
report_text (lines.PollNone group) =
    line (codes "poll" ∷ group ∷ codes "none" ∷ [])
report_text (lines.SweepNone group) =
    line (codes "sweep" ∷ group ∷ codes "none" ∷ [])
report_text (lines.Subscribed subscriber) =
    line (codes "subscribed" ∷ subscriber ∷ [])
report_text (lines.Unsubscribed subscriber) =
    line (codes "unsubscribed" ∷ subscriber ∷ [])
report_text (lines.Fault subscriber host id group) =
    line (codes "fault" ∷ subscriber ∷ location_text host ∷ decimal id.0 ∷ group ∷ [])
report_text (lines.NoFault subscriber) =
    line (codes "fault" ∷ subscriber ∷ codes "none" ∷ [])
report_text (lines.Checkpoint group host position time) =
    line (codes "checkpoint" ∷ group ∷ codes "host" ∷ decimal host.0 ∷ codes "position" ∷ decimal position ∷ codes "time" ∷ decimal time.0 ∷ [])
report_text (lines.CheckpointNone group) =
    line (codes "checkpoint" ∷ group ∷ codes "none" ∷ [])
report_text (lines.CheckpointFailed group) =
    line (codes "checkpoint" ∷ group ∷ codes "logfault" ∷ [])
report_text (lines.Updated group host base position) =
    line (codes "update" ∷ group ∷ codes "host" ∷ decimal host.0 ∷ codes "from" ∷ decimal base ∷ codes "to" ∷ decimal position ∷ [])
report_text (lines.UpdateNone group) =
    line (codes "update" ∷ group ∷ codes "none" ∷ [])
report_text (lines.Property name value) =
    line (codes "property" ∷ name ∷ value ∷ [])
report_text (lines.Show group version entries mark time) =
    line (codes "show" ∷ group ∷ codes "view" ∷ decimal version.0 ∷ codes "entries" ∷ decimal entries ∷ codes "mark" ∷ decimal mark ∷ codes "time" ∷ decimal time.0 ∷ [])
report_text (lines.Member host role standing) =
    line (codes "member" ∷ decimal host.0 ∷ role_text role ∷ standing_text standing ∷ [])
report_text (lines.Locations group members) =
    line (codes "locations" ∷ group ∷ hosts_text members ∷ [])
report_text (lines.Id group id) =
    line (codes "id" ∷ group ∷ decimal id.0 ∷ [])
report_text (lines.Ref group text) =
    line (codes "ref" ∷ group ∷ text ∷ [])
report_text (lines.MemberRef group host text) =
    line (codes "member-ref" ∷ group ∷ decimal host.0 ∷ text ∷ [])
report_text (lines.NoGroup host) =
    line (codes "at" ∷ decimal host.0 ∷ codes "- nogroup" ∷ [])
report_text (lines.Bytes bytes) =
    line (codes "bytes" ∷ octets_text bytes ∷ [])
report_text lines.LinkClosed =
    line (codes "link closed" ∷ [])
report_text (lines.LinkMalformed why place) =
    line (codes "link malformed" ∷ why_text why ∷ decimal place ∷ [])
report_text (lines.LinkTooLarge size) =
    line (codes "link too-large" ∷ decimal size ∷ [])
report_text lines.LinkLost =
    line (codes "link lost" ∷ [])
