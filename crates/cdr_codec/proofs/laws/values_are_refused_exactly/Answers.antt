use Rattle.cdr_codec.specs.declared.faults.CdrWhy.TheVariants.{Short}
use Rattle.cdr_codec.specs.Formats.{number, octets}
use Rattle.cdr_codec.specs.Values.{boolean, text, signed}
use Rattle.cdr_codec.proofs.Codecs.{number_codec, octets_codec}
use Rattle.cdr_codec.proofs.ValueLaws.{boolean_codec, text_codec, signed_codec}
use Rattle.cdr_codec.proofs.CodecLaws.{refuses_exactly}
use Rattle.cdr_codec.proofs.laws.values_are_refused_exactly.Goals as goal

pub returns : goal.returns
returns c = record {
  numbers = λ size. refuses_exactly Short (number size) (number_codec size);
  signed_numbers = λ w. refuses_exactly Short (signed w) (signed_codec w);
  booleans = refuses_exactly Short boolean boolean_codec;
  strings = refuses_exactly Short text text_codec;
  sequences_of_octets = refuses_exactly Short octets octets_codec;
}
