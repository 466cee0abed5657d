use Rattle.giop_stream.proofs.SpelledLaws.{Laws, given_spelled, streams_spelled}
use Rattle.giop_stream.proofs.laws.streams_are_spelled.Goals as goal

pub returns : goal.returns
returns c =
    let laws : Laws = record {
      headers = c.headers_are_read_back.ensures;
      fields = c.messages_are_fields_behind_headers.ensures;
      exactly = c.messages_are_read_exactly.ensures.exactly;
    } in
    record { stream = streams_spelled laws; given = given_spelled laws }
