-- Groups that are made by criteria, members that a host's factory makes, and groups that are deleted.
-- (Chapter 23, GenericFactory, `create_object`, `create_member`, `delete_object`.)
use Rattle.std.specs.Prelude.{ℕ, ◌++◌, not, Bool, nat_le, List, [], ◌∷◌, length, Option, Some, None}
use Rattle.std.specs.List.{filter}
use Rattle.std.specs.Option.{option_and_then, unwrap_or}
use Rattle.ft_base.specs.Members.{is_member}
use Rattle.ft_base.specs.declared.views.Style.{Style}
use Rattle.ft_base.specs.declared.views.Style.TheVariants.{Cold}
use Rattle.fault_script.specs.declared.lines.KindWord.{KindWord}
use Rattle.fault_script.specs.declared.lines.LimitName.TheVariants as limits
use Rattle.fault_script.specs.declared.lines.LineFault.TheVariants.{Unknown, Again, Limit}
use Rattle.ft_report.specs.declared.reports.ReportLine.{ReportLine}
use Rattle.ft_report.specs.declared.reports.ReportLine.TheVariants as reports
use Rattle.ft_report.specs.declared.reports.SettingFault.TheVariants as settings
use Rattle.generic_factory.specs.Creating.{refusal}
use Rattle.generic_factory.specs.declared.faults.CreateFault.{CreateFault}
use Rattle.generic_factory.specs.declared.faults.CreateFault.TheVariants as faults
use Rattle.group_model.specs.declared.changes.Change.{Change}
use Rattle.group_model.specs.declared.changes.Change.TheVariants as changes
use Rattle.group_model.specs.Views.{host_no}
use Rattle.property_manager.specs.declared.names.PropertyName.TheVariants as names
use Rattle.property_manager.specs.declared.settings.Property.{Property}
use Rattle.property_manager.specs.Groups.{Settings, level_of}
use Rattle.property_manager.specs.Levels.{all_effective, effective, has_name}
use Rattle.property_manager.specs.Styles.{replication_style, supported_style}
use Rattle.script_groups.specs.Groups.{ScriptGroup}
use Rattle.script_world.specs.World.{World, is_named, without_group}
use Rattle.script_world.specs.declared.limits.TheConstants.{GROUP_LIMIT}
use Rattle.shipped_servants.specs.Kinds.{type_id}
use Rattle.shipped_servants.specs.declared.kinds.Kind.{Kind}
use Rattle.world_management.specs.Hosts.{changes_members, on_host}
use Rattle.world_management.specs.Making.{kind_of, made_group}
use Rattle.world_management.specs.Membership.{can_make, first_members, fit, hosts_of, value_of}
use Rattle.world_turns.specs.Naming.{Naming, NeverMade, Deleted, There, gone, group_called}
use Rattle.world_turns.specs.Turns.{Cause, Effect, Turn, Refused, cause, first_cause, goes, says, unless}

-- ---- `create G KIND P=V..`

-- all ten properties as they are for groups of a kind that are made now
abbrev pub values_of_kind : Settings → Kind → List Property
values_of_kind s kind = all_effective (s.defaults ∷ level_of s.by_type (type_id kind) ∷ [])

-- those of other properties that a list lacks
unfoldable pub lacking : List Property → List Property → List Property
lacking criteria others = filter (λ p. not (has_name p.name criteria)) others

-- the criteria, and behind them each property that they lack
abbrev pub in_full : Settings → Kind → List Property → List Property
in_full s kind criteria = criteria ++ lacking criteria (values_of_kind s kind)

-- how the members of such a group are to share its work
unfoldable pub style_in : List Property → Style
style_in full = unwrap_or (option_and_then supported_style (replication_style (effective (full ∷ []) names.ReplicationStyle))) Cold

-- why a factory that has made nothing makes no object by these criteria; the other causes can't come
abbrev pub creation_refused : CreateFault → List ReportLine
creation_refused (faults.InvalidCriteria place) = reports.RefusedSetting (settings.InvalidCriteria place) ∷ []
creation_refused (faults.UnsupportedProperty place) = reports.RefusedSetting (settings.UnsupportedProperty place) ∷ []
creation_refused (faults.CannotMeetCriteria initial minimum) = reports.RefusedSetting (settings.CannotMeetCriteria initial minimum) ∷ []
creation_refused (faults.TooFew fit minimum) = reports.RefusedSetting (settings.TooFew fit minimum) ∷ []
creation_refused other = []

abbrev pub create_causes : World → List ℕ → List Cause
create_causes w name = cause (is_named w name) Again ∷ cause (nat_le GROUP_LIMIT (length w.groups)) (Limit limits.Groups) ∷ []

-- by all its properties
abbrev pub created_unless : Option CreateFault → World → List ℕ → Kind → List Property → List Property → Effect
created_unless (Some why) w name kind full criteria = says w (creation_refused why)
created_unless None w name kind full criteria = made_group w name kind (style_in full) (first_members w full) criteria

abbrev pub created : World → List ℕ → Kind → List Property → Effect
created w name kind criteria =
    let full = in_full w.settings kind criteria in
    created_unless (refusal full (fit w full) []) w name kind full criteria

abbrev pub create_line : World → List ℕ → KindWord → List Property → Turn
create_line w name kind criteria = unless (first_cause (create_causes w name)) 0 (goes (created w name (kind_of kind) criteria))

-- ---- `grow G H`

-- the group's property Factories lists the host
abbrev pub is_listed : World → ScriptGroup → ℕ → Bool
is_listed w g host = is_member host (hosts_of (value_of w g names.Factories))

abbrev pub creation : World → ScriptGroup → ℕ → Change
creation w g host = changes.Create (host_no host) (is_listed w g host) (can_make w host)

abbrev pub grow_to : World → Naming → ℕ → Turn
grow_to w NeverMade host = Refused Unknown 0
grow_to w (Deleted g) host = on_host w host (gone w)
grow_to w (There g) host = on_host w host (changes_members w g (creation w g.value host) (host_no host))

abbrev pub grow_line : World → List ℕ → ℕ → Turn
grow_line w group host = grow_to w (group_called w group) host

-- ---- `delete G`

abbrev pub delete_found : World → Naming → Turn
delete_found w NeverMade = Refused Unknown 0
delete_found w (Deleted g) = goes (gone w)
delete_found w (There g) = goes (says (without_group w g.value) (reports.Deleted g.value.name ∷ []))

abbrev pub delete_line : World → List ℕ → Turn
delete_line w name = delete_found w (group_called w name)
