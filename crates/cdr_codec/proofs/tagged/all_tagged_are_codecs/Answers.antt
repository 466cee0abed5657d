use Rattle.cdr_codec.proofs.TaggedLaws.{tagged_codec, all_tagged_codec}
use Rattle.cdr_codec.proofs.tagged.all_tagged_are_codecs.Goals as goal

pub returns : goal.returns
returns g c = record {
  one = tagged_codec g.T.Tagged.made g.T.Tagged.parts g.met.T.Tagged.kept g.met.T.Tagged.whole;
  all = all_tagged_codec g.T.Tagged.made g.T.Tagged.parts g.met.T.Tagged.kept g.met.T.Tagged.whole;
}
