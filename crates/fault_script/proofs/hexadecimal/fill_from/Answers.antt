use Rattle.std.proofs.Common.{◌*◌, get_or, subst, arith}
use Rattle.std.proofs.lemmas.Simd.{get_or-chunk, get_or-put_chunk_below}
use Rattle.fault_script.specs.Digits.{IsValue}
use Rattle.fault_script.proofs.LaneLemmas.{stored}
use Rattle.fault_script.proofs.hexadecimal.fill_from.Goals as goal

pub returns-clause-lanes : goal.returns-clause-lanes
returns-clause-lanes c k h =
    subst (λ byte. IsValue byte (get_or c.values-values.result k 0)) (get_or-chunk (2 * c.args.i) 32 c.args.word.now k 0 h) (c.values-values.ensures.lanes k h)

pub returns-clause-kept : goal.returns-clause-kept
returns-clause-kept c k h = get_or-put_chunk_below c.args.i c.args.octets.now c.joined.result k 0 h

pub returns-clause-filled : goal.returns-clause-filled
returns-clause-filled c =
    stored c.args.word.now c.args.octets.now c.values-values.result c.joined.result c.args.i (omega arith) c.joined.ensures.len (returns-clause-lanes c) c.joined.ensures.lanes
