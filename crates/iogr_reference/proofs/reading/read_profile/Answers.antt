use Rattle.cdr_codec.specs.declared.faults.CdrWhy.TheVariants.{Short}
use Rattle.cdr_codec.proofs.CodecLaws.{is_found, is_refused}
use Rattle.cdr_codec.specs.Calls.{field_fault}
use Rattle.iogr_reference.specs.Formats.{profile}
use Rattle.iogr_reference.proofs.Codecs.{profile_codec}
use Rattle.iogr_reference.proofs.reading.read_profile.Goals as goal

pub returns-clause-found : goal.returns-clause-found
returns-clause-found c = is_found Short profile profile_codec (λ p. p) field_fault c.read_whole_profile.result c.args.reader.now c.read_whole_profile.new.reader c.read_whole_profile.ensures.read

pub returns-clause-refused : goal.returns-clause-refused
returns-clause-refused c = is_refused Short profile profile_codec (λ p. p) field_fault c.read_whole_profile.result c.args.reader.now c.read_whole_profile.new.reader c.read_whole_profile.ensures.read
