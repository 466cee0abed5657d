use Rattle.giop_stream.proofs.SpelledLaws.{Laws}
use Rattle.giop_stream.proofs.CuttingLaws.{cut_joined}
use Rattle.giop_stream.proofs.laws.cut_are_joined.Goals as goal

pub returns : goal.returns
returns c =
    let laws : Laws = record {
      headers = c.headers_are_read_back.ensures;
      fields = c.messages_are_fields_behind_headers.ensures;
      exactly = c.messages_are_read_exactly.ensures.exactly;
    } in
    cut_joined laws c.messages_are_read_back.ensures
