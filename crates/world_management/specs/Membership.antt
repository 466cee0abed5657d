-- The members of a group whose membership the infrastructure controls. (Chapter 23, MembershipStyle, Factories,
-- InitialNumberReplicas, MinimumNumberReplicas.)
use Rattle.std.specs.Prelude.{ℕ, ◌-◌, ◌&&◌, not, Bool, false, nat_lt, if◌then◌else◌, List, [], ◌∷◌, length, take, option_map}
use Rattle.std.specs.List.{filter}
use Rattle.std.specs.Option.{unwrap_or}
use Rattle.ft_base.specs.Members.{is_member}
use Rattle.ft_base.specs.declared.numbers.HostNo.{HostNo}
use Rattle.ft_base.specs.declared.views.TheConstants.{MEMBER_LIMIT}
use Rattle.generic_factory.specs.declared.making.TheConstants.{OBJECT_LIMIT}
use Rattle.group_model.specs.declared.changes.Change.{Change}
use Rattle.group_model.specs.declared.changes.Change.TheVariants.{Report, Replace}
use Rattle.group_model.specs.Views.{newest_view, without}
use Rattle.property_manager.specs.declared.names.PropertyName.{PropertyName}
use Rattle.property_manager.specs.declared.names.PropertyName.TheVariants as names
use Rattle.property_manager.specs.declared.settings.Property.{Property}
use Rattle.property_manager.specs.Groups.{group_of, levels_of}
use Rattle.property_manager.specs.Hosts.{factories}
use Rattle.property_manager.specs.Levels.{effective}
use Rattle.property_manager.specs.Names.{built_in}
use Rattle.property_manager.specs.Numbers.{replicas}
use Rattle.property_manager.specs.Styles.{is_infrastructure}
use Rattle.script_groups.specs.Groups.{ScriptGroup, common_of}
use Rattle.script_world.specs.World.{World, is_deleted, is_up}

-- ---- what a group has set

-- a property as the group has it
abbrev pub value_of : World → ScriptGroup → PropertyName → List ℕ
value_of w g name = unwrap_or (option_map (λ levels. effective (levels_of levels) name) (group_of w.settings.groups g.id.0)) (built_in name)

-- the number of replicas that a value is
abbrev pub number_of : List ℕ → ℕ
number_of text = unwrap_or (replicas text) 0

-- the hosts that a value of Factories lists
abbrev pub hosts_of : List ℕ → List ℕ
hosts_of text = unwrap_or (factories text) []

-- ---- hosts that fit

abbrev pub members_of : ScriptGroup → List ℕ
members_of g = (newest_view (common_of g)).members

-- a member of a group is an object of its host's factory, until it leaves or the group is deleted
abbrev pub has_object : World → ℕ → ScriptGroup → Bool
has_object w host g = if is_deleted w g then false else is_member host (members_of g)

abbrev pub objects_at : World → ℕ → ℕ
objects_at w host = length (filter (has_object w host) w.groups)

-- a host makes one more where it is up and its factory isn't full
abbrev pub can_make : World → ℕ → Bool
can_make w host = if is_up w host then nat_lt (objects_at w host) OBJECT_LIMIT else false

-- it can make one, and isn't among the members
abbrev pub fits : World → List ℕ → ℕ → Bool
fits w members host = not (is_member host members) && can_make w host

-- the first of the listed hosts that fit: so many of them, or all where there are fewer
unfoldable pub first_fitting : World → List ℕ → ℕ → List ℕ → List ℕ
first_fitting w members count listed = take count (filter (fits w members) listed)

-- ---- a new group's members

-- those on which the first members may be made, where a group is made by these properties
abbrev pub fit : World → List Property → List ℕ
fit w full = first_fitting w [] MEMBER_LIMIT (hosts_of (effective (full ∷ []) names.Factories))

-- as many as the initial number; where the application controls the membership the group has no members yet
unfoldable pub first_members : World → List Property → List ℕ
first_members w full =
    if is_infrastructure (effective (full ∷ []) names.MembershipStyle)
    then first_fitting w [] (number_of (effective (full ∷ []) names.InitialNumberReplicas)) (hosts_of (effective (full ∷ []) names.Factories))
    else []

-- ---- a host that is reported

-- how many members the group lacks of its minimum without this host
abbrev pub lack : World → ScriptGroup → ℕ → ℕ
lack w g host = number_of (value_of w g names.MinimumNumberReplicas) - length (without host (members_of g))

-- the hosts that come in its place
abbrev pub spares : World → ScriptGroup → ℕ → List ℕ
spares w g host = first_fitting w (members_of g) (lack w g host) (hosts_of (value_of w g names.Factories))

-- the infrastructure fills the group; the application does that by itself
unfoldable pub report_of : World → ScriptGroup → HostNo → Change
report_of w g host =
    if is_infrastructure (value_of w g names.MembershipStyle) then Replace host (spares w g host.0) else Report host
