use Rattle.iogr_reference.proofs.Codecs.{profile_codec, profiles_codec, ior_codec, components_codec, iiop_codec, group_tag_codec}
use Rattle.iogr_reference.proofs.laws.references_are_codecs.Goals as goal

pub returns : goal.returns
returns c = record {
  each_profile = profile_codec;
  all_profiles = profiles_codec;
  references = ior_codec;
  components = components_codec;
  iiop_profiles = iiop_codec;
  group_components = group_tag_codec;
}
