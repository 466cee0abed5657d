use Rattle.cdr_codec.specs.declared.faults.CdrWhy.TheVariants.{Short}
use Rattle.cdr_codec.proofs.CodecLaws.{is_found, is_refused}
use Rattle.cdr_codec.specs.Calls.{field_fault}
use Rattle.iogr_reference.specs.Formats.{ior}
use Rattle.iogr_reference.proofs.Codecs.{ior_codec}
use Rattle.iogr_reference.proofs.reading.read_ior.Goals as goal

pub returns-clause-found : goal.returns-clause-found
returns-clause-found c = is_found Short ior ior_codec (λ i. i) field_fault c.read_whole_ior.result c.args.reader.now c.read_whole_ior.new.reader c.read_whole_ior.ensures.read

pub returns-clause-refused : goal.returns-clause-refused
returns-clause-refused c = is_refused Short ior ior_codec (λ i. i) field_fault c.read_whole_ior.result c.args.reader.now c.read_whole_ior.new.reader c.read_whole_ior.ensures.read
