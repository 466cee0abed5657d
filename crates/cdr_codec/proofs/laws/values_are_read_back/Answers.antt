use Rattle.cdr_codec.specs.declared.faults.CdrWhy.TheVariants.{Short}
use Rattle.cdr_codec.specs.Formats.{number, octets}
use Rattle.cdr_codec.specs.Values.{boolean, text, signed}
use Rattle.cdr_codec.proofs.Codecs.{number_codec, octets_codec}
use Rattle.cdr_codec.proofs.ValueLaws.{boolean_codec, text_codec, signed_codec}
use Rattle.cdr_codec.proofs.CodecLaws.{reads_back}
use Rattle.cdr_codec.proofs.laws.values_are_read_back.Goals as goal

pub returns : goal.returns
returns c = record {
  numbers = λ size. reads_back Short (number size) (number_codec size);
  signed_numbers = λ w. reads_back Short (signed w) (signed_codec w);
  booleans = reads_back Short boolean boolean_codec;
  strings = reads_back Short text text_codec;
  sequences_of_octets = reads_back Short octets octets_codec;
}
