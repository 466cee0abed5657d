-- The reference of a view: a profile of each member, in order of joining, which names the group and
-- its version; the primary's says besides that it is the primary. (Chapter 23, "Object group
-- references".)
use Rattle.std.specs.Prelude.{◌<◌, ◌≤◌, ◌^◌, length, position, count_by, ℕ, Bool, true, false, List, [], ◌∷◌, slice_index, map}
use Rattle.ft_base.specs.declared.numbers.GroupId.{GroupId}
use Rattle.ft_base.specs.declared.numbers.Version.{Version}
use Rattle.ft_base.specs.Views.{is_led_by}
use Rattle.ft_base.specs.declared.views.View.{View}
use Rattle.ft_base.specs.declared.views.TheConstants.{MEMBER_LIMIT}
use Rattle.cdr_codec.specs.declared.orders.Order.TheVariants.{Big}
use Rattle.cdr_codec.specs.Encapsulations.{encapsulated}
use Rattle.cdr_codec.specs.Values.{boolean}
use Rattle.iogr_reference.specs.declared.references.Profile.{Profile}
use Rattle.iogr_reference.specs.declared.references.Component.{Component}
use Rattle.iogr_reference.specs.declared.references.Iiop.{Iiop}
use Rattle.iogr_reference.specs.declared.references.Ior.{Ior}
use Rattle.iogr_reference.specs.Formats.{iiop, group_tag}
use Rattle.iogr_reference.specs.declared.references.GroupRef.{GroupRef}
use Rattle.iogr_reference.specs.declared.choices.TheConstants.{DOMAIN, ADDRESS}
use Rattle.iogr_reference.specs.declared.tags.TheConstants.{IIOP_TAG, GROUP_TAG, PRIMARY_TAG}
use Rattle.iogr_reference.specs.Choices.{object_key}

abbrev pub group_component : GroupId → Version → Component
group_component group version = record {
  tag = GROUP_TAG;
  content = encapsulated Big group_tag (record { domain = DOMAIN; group = group; version = version });
}

abbrev pub primary_component : Component
primary_component = record { tag = PRIMARY_TAG; content = encapsulated Big boolean true }

abbrev pub components_of : GroupId → Version → Bool → List Component
components_of group version false = group_component group version ∷ []
components_of group version true = group_component group version ∷ primary_component ∷ []

abbrev pub iiop_with : ℕ → List ℕ → List Component → Iiop
iiop_with port key components = record { minor = 2; host = ADDRESS; port = port; key = key; components = components }

abbrev pub member_iiop : GroupId → Version → ℕ → Bool → Iiop
member_iiop group version port is_primary = iiop_with port (object_key group) (components_of group version is_primary)

-- the group's object key at a port
abbrev pub profile_with : GroupId → ℕ → List Component → Profile
profile_with group port components = record { tag = IIOP_TAG; content = encapsulated Big iiop (iiop_with port (object_key group) components) }

abbrev pub member_profile : GroupId → Version → ℕ → Bool → Profile
member_profile group version port is_primary = profile_with group port (components_of group version is_primary)

abbrev pub profile_of_host : GroupId → View → List ℕ → ℕ → Profile
profile_of_host group view ports host = member_profile group view.version (slice_index ports host) (is_led_by view host)

-- ports has the port of each host, by the host's number
abbrev pub reference_of : GroupId → List ℕ → View → List ℕ → Ior
reference_of group type_id view ports = record { type_id = type_id; profiles = map (profile_of_host group view ports) view.members }

-- ---- the reference of one member

-- its profile has no components, so it names no group (chapter 23, `get_member_ref`); ports has the port of each
-- host, by the host's number
abbrev pub plain_reference : GroupId → List ℕ → ℕ → List ℕ → Ior
plain_reference group type_id host ports =
    record { type_id = type_id; profiles = profile_with group (slice_index ports host) [] ∷ [] }

-- ---- the group of a view

abbrev pub iiop_of_host : GroupId → View → List ℕ → ℕ → Iiop
iiop_of_host group view ports host = member_iiop group view.version (slice_index ports host) (is_led_by view host)

-- a view's numbers fit; it has members, and one of them at most is the primary
pub record HasMembers (group : GroupId) (view : View) (ports : List ℕ) : Type 0 where
  pub group_fits : group.0 < 2 ^ 64
  pub version_fits : view.version.0 < 2 ^ 32
  pub ports_fit : (host : ℕ) → slice_index ports host < 2 ^ 16
  pub some : 0 < length view.members
  pub few : length view.members ≤ MEMBER_LIMIT
  pub once : count_by (is_led_by view) view.members ≤ 1

abbrev pub group_of_view : GroupId → List ℕ → View → List ℕ → GroupRef
group_of_view group type_id view ports = record {
  domain = DOMAIN;
  group = group;
  version = view.version;
  type_id = type_id;
  profiles = map (iiop_of_host group view ports) view.members;
  primary = position (is_led_by view) view.members;
}
