-- References are codecs: each by the codecs of its parts.
use Rattle.std.proofs.Common.{ℕ, zero, suc, [], refl}
use Rattle.cdr_codec.specs.declared.faults.CdrWhy.TheVariants.{Short}
use Rattle.cdr_codec.specs.Laws.{IsCodec}
use Rattle.cdr_codec.proofs.Codecs.{number_codec, octets_codec, nothing_codec}
use Rattle.cdr_codec.proofs.StructLaws.{struct_codec}
use Rattle.cdr_codec.proofs.TaggedLaws.{any_octet_codec, tagged_codec, all_tagged_codec}
use Rattle.cdr_codec.proofs.ValueLaws.{text_codec}
use Rattle.iogr_reference.specs.Formats.{profile, profile_of, profile_parts, profiles, ior_fields, ior, component, component_of, component_parts, components_at, iiop_fields, iiop, group_tag_fields, group_tag}

pub profile_codec : IsCodec Short profile
profile_codec = tagged_codec profile_of profile_parts (λ x. refl) (λ p. refl)

pub profiles_codec : IsCodec Short profiles
profiles_codec = all_tagged_codec profile_of profile_parts (λ x. refl) (λ p. refl)

pub ior_codec : IsCodec Short ior
ior_codec = struct_codec Short ior_fields (text_codec, λ type_id. (profiles_codec, λ all. tt))

pub component_codec : IsCodec Short component
component_codec = tagged_codec component_of component_parts (λ x. refl) (λ c. refl)

pub components_codec : (minor : ℕ) → IsCodec Short (components_at minor)
components_codec zero = nothing_codec Short []
components_codec (suc minor) = all_tagged_codec component_of component_parts (λ x. refl) (λ c. refl)

pub iiop_codec : IsCodec Short iiop
iiop_codec =
    struct_codec Short iiop_fields (
      any_octet_codec 1,
      λ major. (
        number_codec 1,
        λ minor. (
          text_codec,
          λ host. (
            number_codec 2,
            λ port.
                (octets_codec, λ key. (components_codec minor, λ components. tt)),
          ),
        ),
      ),
    )

pub group_tag_codec : IsCodec Short group_tag
group_tag_codec =
    struct_codec Short group_tag_fields (
      any_octet_codec 1,
      λ major. (
        any_octet_codec 0,
        λ minor. (
          text_codec,
          λ domain.
              (number_codec 8, λ group. (number_codec 4, λ version. tt)),
        ),
      ),
    )
