use Rattle.cdr_codec.specs.declared.faults.CdrWhy.TheVariants.{Short}
use Rattle.cdr_codec.proofs.CodecLaws.{refuses_exactly}
use Rattle.iogr_reference.specs.Formats.{profile, profiles, ior, components_at, iiop, group_tag}
use Rattle.iogr_reference.proofs.Codecs.{profile_codec, profiles_codec, ior_codec, components_codec, iiop_codec, group_tag_codec}
use Rattle.iogr_reference.proofs.laws.references_are_refused_exactly.Goals as goal

pub returns : goal.returns
returns c = record {
  each_profile = refuses_exactly Short profile profile_codec;
  all_profiles = refuses_exactly Short profiles profiles_codec;
  references = refuses_exactly Short ior ior_codec;
  components = λ minor. refuses_exactly Short (components_at minor) (components_codec minor);
  iiop_profiles = refuses_exactly Short iiop iiop_codec;
  group_components = refuses_exactly Short group_tag group_tag_codec;
}
