use Rattle.giop_messages.proofs.Codecs.{reference_codecs}
use Rattle.giop_messages.proofs.MessageLaws.{is_found, is_refused}
use Rattle.giop_messages.proofs.reading.read_message.Goals as goal

pub returns-clause-found : goal.returns-clause-found
returns-clause-found c = is_found (reference_codecs c.references_are_codecs.ensures.each_profile c.references_are_codecs.ensures.references) c.args.bytes.now c.read_exactly.result c.read_exactly.ensures.read

pub returns-clause-refused : goal.returns-clause-refused
returns-clause-refused c = is_refused (reference_codecs c.references_are_codecs.ensures.each_profile c.references_are_codecs.ensures.references) c.args.bytes.now c.read_exactly.result c.read_exactly.ensures.read
