-- Lines that make hosts, groups and clients, and let time pass.
use Rattle.std.specs.Prelude.{ℕ, ◌+◌, ◌==◌, not, Bool, true, false, nat_le, nat_lt, if◌then◌else◌, List, [], ◌∷◌, length, suc, codes}
use Rattle.std.specs.List.{list_all, list_any}
use Rattle.ft_base.specs.declared.limits.TheConstants.{HOST_LIMIT}
use Rattle.ft_base.specs.declared.numbers.GroupId.{GroupId}
use Rattle.ft_base.specs.declared.views.TheConstants.{MEMBER_LIMIT}
use Rattle.ft_base.specs.declared.views.Style.{Style}
use Rattle.ft_base.specs.declared.views.Style.TheVariants as styles
use Rattle.ft_base.specs.declared.views.View.{View}
use Rattle.fault_script.specs.declared.lines.KindWord.{KindWord}
use Rattle.fault_script.specs.declared.lines.KindWord.TheVariants as words
use Rattle.fault_script.specs.declared.lines.LimitName.TheVariants as limits
use Rattle.fault_script.specs.declared.lines.LineFault.TheVariants.{Unknown, Again, Limit}
use Rattle.ft_report.specs.declared.reports.ReportLine.{ReportLine}
use Rattle.ft_report.specs.declared.reports.ReportLine.TheVariants as reports
use Rattle.group_model.specs.declared.events.Event.TheVariants as events
use Rattle.group_model.specs.Openings.{first_view}
use Rattle.group_model.specs.Views.{host_no}
use Rattle.property_manager.specs.declared.names.PropertyName.TheVariants as names
use Rattle.property_manager.specs.declared.settings.Property.{Property}
use Rattle.property_manager.specs.Levels.{valued}
use Rattle.script_clients.specs.Clients.{new_client}
use Rattle.script_groups.specs.Groups.{ScriptGroup, acted, opened}
use Rattle.shipped_servants.specs.declared.kinds.Kind.{Kind}
use Rattle.shipped_servants.specs.declared.kinds.Kind.TheVariants as kinds
use Rattle.script_world.specs.declared.hosts.HostState.{HostState}
use Rattle.script_world.specs.declared.limits.TheConstants.{CLIENT_LIMIT, GROUP_LIMIT}
use Rattle.script_world.specs.World.{World, is_named, is_there, passed, with_group, with_hosts, with_one_client}
use Rattle.world_turns.specs.Sending.{view_line}
use Rattle.world_turns.specs.Turns.{Cause, Effect, Turn, cause, first_cause, goes, says, unless}

-- ---- `hosts N`

abbrev pub hosts_causes : World → ℕ → List Cause
hosts_causes w count = cause (nat_lt 0 (length w.hosts)) Again ∷ cause (nat_lt HOST_LIMIT count) (Limit limits.Hosts) ∷ []

abbrev pub hosts_line : World → ℕ → Turn
hosts_line w count = unless (first_cause (hosts_causes w count)) 0 (goes (says (with_hosts w count) []))

-- ---- `group G KIND STYLE H..`

abbrev pub kind_of : KindWord → Kind
kind_of words.Account = kinds.Account
kind_of words.Store = kinds.Store
kind_of words.Queue = kinds.Queue

abbrev pub stands_twice : List ℕ → Bool
stands_twice [] = false
stands_twice (h ∷ hs) = if list_any (λ g. g == h) hs then true else stands_twice hs

abbrev pub group_causes : World → List ℕ → List ℕ → List Cause
group_causes w name members =
    cause (not (list_all (is_there w) members)) Unknown ∷ cause (is_named w name) Again
    ∷ cause (stands_twice members) Again ∷ cause (nat_le GROUP_LIMIT (length w.groups)) (Limit limits.Groups)
    ∷ cause (nat_lt MEMBER_LIMIT (length members)) (Limit limits.Members) ∷ []

-- a host that is down stops in the group
abbrev pub stopped_if : Bool → ScriptGroup → ℕ → ScriptGroup
stopped_if up g i = if up then g else acted g (events.Crash (host_no i))

abbrev pub stopped_at : ScriptGroup → ℕ → HostState → ScriptGroup
stopped_at g i h = stopped_if h.up g i

-- of these hosts, the first of which has this number, those that are down stop in the group
unfoldable pub stopped_from : ℕ → List HostState → ScriptGroup → ScriptGroup
stopped_from i [] g = g
stopped_from i (h ∷ hs) g = stopped_from (suc i) hs (stopped_at g i h)

abbrev pub next_id : World → GroupId
next_id w = record { 0 = length w.groups + 1 }

abbrev pub new_group : World → List ℕ → Kind → Style → List ℕ → ScriptGroup
new_group w name kind style members = stopped_from 0 w.hosts (opened (next_id w) name kind style members)

abbrev pub group_lines : GroupId → List ℕ → View → List ReportLine
group_lines id name view = reports.Group name id ∷ view_line name view ∷ []

-- by these criteria
abbrev pub made_group : World → List ℕ → Kind → Style → List ℕ → List Property → Effect
made_group w name kind style members criteria =
    says (with_group w (new_group w name kind style members) criteria) (group_lines (next_id w) name (first_view style members))

-- a group that is made with its members has its style as its one criterion
abbrev pub style_text : Style → List ℕ
style_text styles.Cold = codes "COLD_PASSIVE"
style_text styles.Warm = codes "WARM_PASSIVE"
style_text styles.Active = codes "ACTIVE"

abbrev pub style_criteria : Style → List Property
style_criteria style = valued names.ReplicationStyle (style_text style) ∷ []

abbrev pub group_line : World → List ℕ → KindWord → Style → List ℕ → Turn
group_line w name kind style members =
    unless (first_cause (group_causes w name members)) 0 (goes (made_group w name (kind_of kind) style members (style_criteria style)))

-- ---- `client C`

abbrev pub client_causes : World → List ℕ → List Cause
client_causes w name = cause (is_named w name) Again ∷ cause (nat_le CLIENT_LIMIT (length w.clients)) (Limit limits.Clients) ∷ []

abbrev pub client_line : World → List ℕ → Turn
client_line w name = unless (first_cause (client_causes w name)) 0 (goes (says (with_one_client w (new_client name)) []))

-- ---- `tick N`

abbrev pub tick_line : World → ℕ → Turn
tick_line w ticks = goes (says (passed w ticks) [])
