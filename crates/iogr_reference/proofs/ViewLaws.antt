-- A view's reference names its group.
use Rattle.std.proofs.Common.{◌<◌, ◌^◌, ℕ, Bool, true, false, List, [], ◌∷◌, map, refl, sym, arith, rules}
use Rattle.std.specs.Prelude.{slice_index}
use Rattle.ft_base.specs.Views.{is_led_by}
use Rattle.ft_base.specs.declared.numbers.GroupId.{GroupId}
use Rattle.ft_base.specs.declared.numbers.Version.{Version}
use Rattle.ft_base.specs.declared.views.View.{View}
use Rattle.cdr_codec.specs.declared.orders.Order.TheVariants.{Big}
use Rattle.cdr_codec.specs.Values.{boolean}
use Rattle.cdr_codec.proofs.ValueLaws.{boolean_codec}
use Rattle.cdr_codec.proofs.EncapsulationLaws.{inside_written}
use Rattle.iogr_reference.specs.declared.choices.TheConstants.{DOMAIN}
use Rattle.iogr_reference.specs.declared.tags.TheConstants.{GROUP_TAG, PRIMARY_TAG}
use Rattle.iogr_reference.specs.declared.references.GroupTag.{GroupTag}
use Rattle.iogr_reference.specs.Formats.{component_parts, iiop, group_tag}
use Rattle.cdr_codec.specs.Tagged.{content_of}
use Rattle.iogr_reference.specs.Naming.{NamesTag, TellsPrimary, IsMember, AreMembers, none, member}
use Rattle.iogr_reference.specs.Views.{components_of, member_iiop, member_profile, profile_of_host, iiop_of_host, reference_of, group_of_view, HasMembers}
use Rattle.iogr_reference.specs.Laws.{ViewsAreNamed, ViewsAreRead}
use Rattle.iogr_reference.proofs.Codecs.{iiop_codec, group_tag_codec}
use Rattle.iogr_reference.proofs.ListLemmas.{length_mapped, count_mapped, position_mapped}
use Rattle.iogr_reference.proofs.NamingLaws.{group_again}

abbrev the_tag : GroupId → Version → GroupTag
the_tag group version = record { domain = DOMAIN; group = group; version = version }

tag_valid : (group : GroupId) (version : Version) → group.0 < 2 ^ 64 → version.0 < 2 ^ 32 → group_tag.Valid (the_tag group version)
tag_valid group version g v = search rules

iiop_valid : (group : GroupId) (version : Version) (port : ℕ) (is_primary : Bool) → port < 2 ^ 16 → iiop.Valid (member_iiop group version port is_primary)
iiop_valid group version port true p = search rules
iiop_valid group version port false p = search rules

-- what the components of a member's profile say

names_tag : (group : GroupId) (version : Version) (b : Bool) → group.0 < 2 ^ 64 → version.0 < 2 ^ 32
    → NamesTag (content_of component_parts GROUP_TAG (components_of group version b)) (the_tag group version)
names_tag group version true g v = inside_written group_tag group_tag_codec Big (the_tag group version) (tag_valid group version g v)
names_tag group version false g v = inside_written group_tag group_tag_codec Big (the_tag group version) (tag_valid group version g v)

truth_valid : boolean.Valid true
truth_valid = search rules

tells_primary : (group : GroupId) (version : Version) (b : Bool) → TellsPrimary (content_of component_parts PRIMARY_TAG (components_of group version b)) b
tells_primary group version true = inside_written boolean boolean_codec Big true truth_valid
tells_primary group version false = refl

is_member : (group : GroupId) (version : Version) (port : ℕ) (b : Bool) → group.0 < 2 ^ 64 → version.0 < 2 ^ 32 → port < 2 ^ 16
    → IsMember (the_tag group version) (member_profile group version port b) (member_iiop group version port b) b
is_member group version port b g v p = record {
  profile = record { tag = refl; content = inside_written iiop iiop_codec Big (member_iiop group version port b) (iiop_valid group version port b p) };
  group = names_tag group version b g v;
  primary = tells_primary group version b;
}

are_members : (group : GroupId) (view : View) (ports hosts : List ℕ) → HasMembers group view ports
    → AreMembers (the_tag group view.version) (map (profile_of_host group view ports) hosts) (map (iiop_of_host group view ports) hosts) (map (is_led_by view) hosts)
are_members group view ports [] h = none
are_members group view ports (host ∷ hosts) h =
    member (profile_of_host group view ports host) (map (profile_of_host group view ports) hosts) (iiop_of_host group view ports host) (map (iiop_of_host group view ports) hosts)
    (is_led_by view host) (map (is_led_by view) hosts)
    (is_member group view.version (slice_index ports host) (is_led_by view host) h.group_fits h.version_fits (h.ports_fit host))
    (are_members group view ports hosts h)

pub views_are_named : ViewsAreNamed
views_are_named group type_id view ports h =
    let hosts = view.members in
    let long = length_mapped (iiop_of_host group view ports) hosts in
    let counted = count_mapped (is_led_by view) (λ (mark : Bool). mark) hosts in
    record {
      marks = map (is_led_by view) hosts;
      members = are_members group view ports hosts h;
      some = let some = h.some in omega arith;
      few = let few = h.few in omega arith;
      once = let once = h.once in omega arith;
      primary = sym (position_mapped (is_led_by view) (λ (mark : Bool). mark) hosts);
      type_id = refl;
    }

pub views_are_read : ViewsAreRead
views_are_read group type_id view ports h =
    group_again (reference_of group type_id view ports) (group_of_view group type_id view ports) (views_are_named group type_id view ports h)
