use Rattle.giop_messages.proofs.Codecs.{reference_codecs}
use Rattle.giop_messages.proofs.MessageLaws.{message_found, message_again, spelled_once}
use Rattle.giop_messages.proofs.laws.messages_are_read_exactly.Goals as goal

pub returns : goal.returns
returns c =
    let laws = reference_codecs c.references_are_codecs.ensures.each_profile c.references_are_codecs.ensures.references in
    record {
      exactly = λ bytes message form. (message_found laws bytes message form, message_again laws bytes message form);
      once = spelled_once laws;
    }
