-- How references, profiles and components are spelled. (GIOP chapter, "IOR profiles".)
use Rattle.std.specs.Prelude.{◌≡◌, ℕ, zero, suc, ◌+◌, ◌<◌, ◌^◌, List, [], length, None}
use Rattle.std.specs.List.{All}
use Rattle.ft_base.specs.Text.{zero_place}
use Rattle.cdr_codec.specs.declared.faults.CdrWhy.{CdrWhy}
use Rattle.cdr_codec.specs.Formats.{Format, number, octets, nothing, any_octet, tagged, all_tagged}
use Rattle.cdr_codec.specs.Structs.{Fields, field, whole, struct}
use Rattle.cdr_codec.specs.Values.{text}
use Rattle.cdr_codec.specs.Tagged.{IsShort, IsCounted, IsNumbered}
use Rattle.iogr_reference.specs.declared.references.Profile.{Profile}
use Rattle.iogr_reference.specs.declared.references.Ior.{Ior}
use Rattle.iogr_reference.specs.declared.references.Component.{Component}
use Rattle.iogr_reference.specs.declared.references.Iiop.{Iiop}
use Rattle.iogr_reference.specs.declared.references.GroupTag.{GroupTag}

abbrev pub profile_of : ℕ × List ℕ → Profile
profile_of x = record { tag = x.0; content = x.1 }

abbrev pub profile_parts : Profile → ℕ × List ℕ
profile_parts p = (p.tag, p.content)

-- a profile is its tag, and its content as octets
abbrev pub profile : Format CdrWhy Profile
profile = tagged profile_of profile_parts

abbrev pub profiles : Format CdrWhy (List Profile)
profiles = all_tagged profile_of profile_parts

-- a reference is the id of its type, and its profiles
abbrev pub ior_fields : Fields CdrWhy Ior
ior_fields =
    field text (λ r. r.type_id) (λ type_id.
    field profiles (λ r. r.profiles) (λ all.
    whole (record { type_id = type_id; profiles = all })))

abbrev pub ior : Format CdrWhy Ior
ior = struct ior_fields

-- contents that can be read as encapsulations
abbrev pub AreShort : List Profile → Type 0
AreShort ps = All (IsShort profile_parts) ps

-- contents whose length has a spelling
abbrev pub AreCounted : List Profile → Type 0
AreCounted ps = All (IsCounted profile_parts) ps

-- tags that have a spelling
abbrev pub AreNumbered : List Profile → Type 0
AreNumbered ps = All (IsNumbered profile_parts) ps

-- a reference that has a spelling, if its tags have
pub record IsWritable (r : Ior) : Type 0 where
  pub no_zero : zero_place r.type_id ≡ None
  pub short : length r.type_id + 1 < 2 ^ 32
  pub counted : length r.profiles < 2 ^ 32
  pub contents : AreCounted r.profiles

-- ---- what an IIOP profile holds

abbrev pub component_of : ℕ × List ℕ → Component
component_of x = record { tag = x.0; content = x.1 }

abbrev pub component_parts : Component → ℕ × List ℕ
component_parts c = (c.tag, c.content)

-- a component is its tag, and its content as octets
abbrev pub component : Format CdrWhy Component
component = tagged component_of component_parts

-- a profile of the minor version 0 ends with its key
abbrev pub components_at : ℕ → Format CdrWhy (List Component)
components_at zero = nothing []
components_at (suc minor) = all_tagged component_of component_parts

-- the version, of which the major number may be anything, the address, the key, and the components
abbrev pub iiop_fields : Fields CdrWhy Iiop
iiop_fields =
    field (any_octet 1) (λ x. tt) (λ major.
    field (number 1) (λ x. x.minor) (λ minor.
    field text (λ x. x.host) (λ host.
    field (number 2) (λ x. x.port) (λ port.
    field octets (λ x. x.key) (λ key.
    field (components_at minor) (λ x. x.components) (λ components.
    whole (record { minor = minor; host = host; port = port; key = key; components = components })))))))

abbrev pub iiop : Format CdrWhy Iiop
iiop = struct iiop_fields

-- ---- what the components of chapter 23 hold

-- the version 1.0 of the component, which may be any, the domain, the group's number, and the
-- version of its reference
abbrev pub group_tag_fields : Fields CdrWhy GroupTag
group_tag_fields =
    field (any_octet 1) (λ t. tt) (λ major.
    field (any_octet 0) (λ t. tt) (λ minor.
    field text (λ t. t.domain) (λ domain.
    field (number 8) (λ t. t.group.0) (λ group.
    field (number 4) (λ t. t.version.0) (λ version.
    whole (record { domain = domain; group = record { 0 = group }; version = record { 0 = version } }))))))

abbrev pub group_tag : Format CdrWhy GroupTag
group_tag = struct group_tag_fields

abbrev pub AreShortComponents : List Component → Type 0
AreShortComponents cs = All (IsShort component_parts) cs
