use Rattle.std.proofs.Common.{◌+◌, ◌*◌, ◌%◌, length-set, ltb-true, lt-ltb, arith}
use Rattle.fault_script.proofs.DigitLemmas.{start_filled, one_filled, finished}
use Rattle.fault_script.proofs.hexadecimal.fill_singly.Goals as goal

pub octets-init : goal.octets-init
octets-init c = (omega arith, start_filled c.args.word.now c.args.octets.now _ (omega arith))

pub octets-preserved : goal.octets-preserved
octets-preserved c = (
  omega (arith, length-set c.octets.octets c.octets.i (c.digit-high.result % 16 * 16 + c.digit-low.result % 16)),
  one_filled c.args.word.now c.octets.octets c.octets.i c.octets.greatest _ _ _ (omega arith) c.digit-high.ensures c.digit-low.ensures
      (omega (arith, c.max-greatest.ensures, c.max.ensures)) c.octets.invariant.1,
)

pub returns : goal.returns
returns c =
    finished c.args.word.now c.octets.octets _ c.octets.i (omega arith) (omega arith) c.octets.invariant.1 _ (λ t. ltb-true _ _ t, λ h. lt-ltb _ _ h)
