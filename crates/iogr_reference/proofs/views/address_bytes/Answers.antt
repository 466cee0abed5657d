use Rattle.std.proofs.Common.{length, ap, arith, ◌∙◌}
use Rattle.iogr_reference.proofs.ViewLemmas.{address_encapsulated}
use Rattle.iogr_reference.proofs.views.address_bytes.Goals as goal

pub returns-clause-bytes : goal.returns-clause-bytes
returns-clause-bytes c =
    address_encapsulated c.args.group c.args.port c.bytes.result.now c.finish.result c.args.components.now
    c.in_ok-writer.writer c.write_address.new.writer (c.bytes.ensures ∙ c.in_ok-key.ensures.key)
    c.in_ok-writer.ensures.begun c.in_ok-write_address.ensures c.finish.ensures

pub returns-clause-short : goal.returns-clause-short
returns-clause-short c =
    let is =
    address_encapsulated c.args.group c.args.port c.bytes.result.now c.finish.result c.args.components.now
    c.in_ok-writer.writer c.write_address.new.writer (c.bytes.ensures ∙ c.in_ok-key.ensures.key)
    c.in_ok-writer.ensures.begun c.in_ok-write_address.ensures c.finish.ensures in
    let size = ap length is in
    let few = c.requires.content in
    omega (arith, size, few)
