use Rattle.std.proofs.Common.{◌-◌, ◌+◌, length, arith}
use Rattle.fault_script.specs.Digits.{AreSmall}
use Rattle.fault_script.proofs.DigitLemmas.{start_filled, more_filled, finished}
use Rattle.fault_script.proofs.LaneLemmas.{small_digits, small_zeros}
use Rattle.fault_script.proofs.hexadecimal.fill_at_once.Goals as goal

pub octets-init : goal.octets-init
octets-init c = (omega arith, start_filled c.args.word.now c.args.octets.now _ (small_zeros 32))

pub octets-preserved : goal.octets-preserved
octets-preserved c =
    let filled = c.fill_from.ensures in
    let here = small_digits c.args.word.now c.fill_from.result c.octets.i filled.len filled.lanes in (
      omega arith,
      more_filled c.args.word.now c.octets.octets c.fill_from.new.octets _ _ _ c.octets.i c.octets.i 16 (omega arith) (omega arith)
          c.octets.invariant.1 filled.kept filled.filled here c.greater-greatest.ensures.small,
    )

pub returns : goal.returns
returns c =
    let last = length c.args.octets.now - 16 in
    let filled = c.fill_from-2.ensures in
    let here = small_digits c.args.word.now c.fill_from-2.result last filled.len filled.lanes in
    let all = more_filled c.args.word.now c.octets.octets c.fill_from-2.new.octets _ _ (AreSmall c.greater-greatest-2.result) c.octets.i last 16 (omega arith) (omega arith)
    c.octets.invariant.1 filled.kept filled.filled here c.greater-greatest-2.ensures.small in
    finished c.args.word.now c.fill_from-2.new.octets _ (last + 16) (omega arith) (omega arith) all c.are_small.result c.are_small.ensures
