use Rattle.giop_stream.proofs.SpelledLaws.{Laws}
use Rattle.giop_stream.proofs.WrittenLaws.{written_streamed}
use Rattle.giop_stream.proofs.laws.written_are_streamed.Goals as goal

pub returns : goal.returns
returns c =
    let laws : Laws = record {
      headers = c.headers_are_read_back.ensures;
      fields = c.messages_are_fields_behind_headers.ensures;
      exactly = c.messages_are_read_exactly.ensures.exactly;
    } in
    written_streamed laws c.messages_are_read_back.ensures
