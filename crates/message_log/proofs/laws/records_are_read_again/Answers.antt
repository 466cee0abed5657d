use Rattle.message_log.proofs.RecordLaws.{records_are_read}
use Rattle.message_log.proofs.laws.records_are_read_again.Goals as goal

pub returns : goal.returns
returns c =
    let laws = c.values_are_read_back.ensures in records_are_read laws.numbers laws.signed_numbers laws.booleans laws.strings laws.sequences_of_octets
