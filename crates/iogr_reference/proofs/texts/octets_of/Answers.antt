use Rattle.std.proofs.Common.{arith}
use Rattle.hex.proofs.HexLemmas.{decode_of-ok}
use Rattle.iogr_reference.proofs.texts.octets_of.Goals as goal

pub returns-in-Ok-clause-short : goal.returns-in-Ok-clause-short
returns-in-Ok-clause-short c =
    let twice = decode_of-ok c.args.digits.now c.in-Ok.octets.items c.in-Ok.ensures.ok in
    omega (arith, twice.2)
