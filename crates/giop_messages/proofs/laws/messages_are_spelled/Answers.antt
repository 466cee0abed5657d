use Rattle.giop_messages.proofs.Codecs.{reference_codecs}
use Rattle.giop_messages.proofs.WritingLaws.{message_spells}
use Rattle.giop_messages.proofs.laws.messages_are_spelled.Goals as goal

pub returns : goal.returns
returns c =
    message_spells
    (reference_codecs c.references_are_codecs.ensures.each_profile c.references_are_codecs.ensures.references)
