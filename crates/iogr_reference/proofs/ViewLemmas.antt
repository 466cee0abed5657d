-- What is written field by field is the format's spelling.
use Rattle.std.proofs.Common.{◌≡◌, ◌≤◌, ℕ, Bool, true, false, List, [], length, refl, sym, ap, subst, ◌∙◌}
use Rattle.std.proofs.lemmas.Bool.{leb-true}
use Rattle.ft_base.specs.declared.numbers.GroupId.{GroupId}
use Rattle.ft_base.specs.declared.numbers.Version.{Version}
use Rattle.cdr_codec.specs.declared.orders.Order.TheVariants.{Big}
use Rattle.cdr_codec.specs.Encapsulations.{begun, encapsulated}
use Rattle.cdr_codec.specs.Formats.{number, octets}
use Rattle.cdr_codec.specs.Values.{text}
use Rattle.cdr_codec.specs.Calls.{Writer, appended}
use Rattle.cdr_codec.proofs.StructLaws.{struct_written}
use Rattle.iogr_reference.specs.declared.references.Component.{Component}
use Rattle.iogr_reference.specs.declared.references.Ior.{Ior}
use Rattle.iogr_reference.specs.declared.references.GroupTag.{GroupTag}
use Rattle.iogr_reference.specs.declared.references.Iiop.{Iiop}
use Rattle.iogr_reference.specs.Choices.{object_key}
use Rattle.iogr_reference.specs.Views.{components_of, iiop_with, member_profile, profile_with}
use Rattle.iogr_reference.specs.Formats.{profiles, ior_fields, ior, components_at, group_tag_fields, group_tag, iiop_fields, iiop}

pub ior_written : (r : Ior) (w : Writer) → appended ior.written r w ≡ appended profiles.written r.profiles (appended text.written r.type_id w)
ior_written r w = struct_written ior_fields r w

pub group_tag_written : (t : GroupTag) (w : Writer)
    → appended group_tag.written t w
    ≡ appended (number 4).written t.version.0 (appended (number 8).written t.group.0 (appended text.written t.domain (appended (number 1).written 0 (appended (number 1).written 1 w))))
group_tag_written t w = struct_written group_tag_fields t w

pub iiop_written : (x : Iiop) (w : Writer)
    → appended iiop.written x w
    ≡ appended (components_at x.minor).written x.components (appended octets.written x.key (appended (number 2).written x.port
    (appended text.written x.host (appended (number 1).written x.minor (appended (number 1).written 1 w)))))
iiop_written x w = struct_written iiop_fields x w

-- the encapsulation of an address, as it was written behind its beginning
pub address_encapsulated : (group : GroupId) (port : ℕ) (key bytes : List ℕ) (components : List Component) (old new : Writer)
    → key ≡ object_key group → old ≡ begun Big → new ≡ appended iiop.written (iiop_with port key components) old → bytes ≡ new.text
    → bytes ≡ encapsulated Big iiop (iiop_with port (object_key group) components)
address_encapsulated group port key bytes components old new k o n b =
    b ∙ ap (λ (w : Writer). w.text) n
    ∙ ap (λ (k : List ℕ). (appended iiop.written (iiop_with port k components) old).text) k
    ∙ ap (λ (w : Writer). (appended iiop.written (iiop_with port (object_key group) components) w).text) o

-- ---- how long the content of a member's profile is

content_short : (group : GroupId) (version : Version) (port : ℕ) (is_primary : Bool) → length (member_profile group version port is_primary).content ≤ 128
content_short group version port true = leb-true (length (member_profile group version port true).content) 128 refl
content_short group version port false = leb-true (length (member_profile group version port false).content) 128 refl

pub member_short : (group : GroupId) (version : Version) (port : ℕ) (is_primary : Bool) (components : List Component)
    → components ≡ components_of group version is_primary → length (profile_with group port components).content ≤ 128
member_short group version port is_primary components is =
    subst (λ (cs : List Component). length (profile_with group port cs).content ≤ 128) (sym is) (content_short group version port is_primary)

pub plain_short : (group : GroupId) (port : ℕ) → length (profile_with group port []).content ≤ 128
plain_short group port = leb-true (length (profile_with group port []).content) 128 refl
