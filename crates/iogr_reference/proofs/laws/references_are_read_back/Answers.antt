use Rattle.cdr_codec.specs.declared.faults.CdrWhy.TheVariants.{Short}
use Rattle.cdr_codec.proofs.CodecLaws.{reads_back}
use Rattle.iogr_reference.specs.Formats.{profile, profiles, ior, components_at, iiop, group_tag}
use Rattle.iogr_reference.proofs.Codecs.{profile_codec, profiles_codec, ior_codec, components_codec, iiop_codec, group_tag_codec}
use Rattle.iogr_reference.proofs.laws.references_are_read_back.Goals as goal

pub returns : goal.returns
returns c = record {
  each_profile = reads_back Short profile profile_codec;
  all_profiles = reads_back Short profiles profiles_codec;
  references = reads_back Short ior ior_codec;
  components = λ minor. reads_back Short (components_at minor) (components_codec minor);
  iiop_profiles = reads_back Short iiop iiop_codec;
  group_components = reads_back Short group_tag group_tag_codec;
}
