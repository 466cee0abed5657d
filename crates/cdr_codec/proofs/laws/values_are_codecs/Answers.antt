use Rattle.cdr_codec.proofs.Codecs.{number_codec, octets_codec}
use Rattle.cdr_codec.proofs.ValueLaws.{boolean_codec, text_codec, signed_codec}
use Rattle.cdr_codec.proofs.laws.values_are_codecs.Goals as goal

pub returns : goal.returns
returns c = record {
  numbers = number_codec;
  signed_numbers = signed_codec;
  booleans = boolean_codec;
  strings = text_codec;
  sequences_of_octets = octets_codec;
}
