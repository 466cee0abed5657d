use Rattle.std.proofs.Common.{◌<◌, length, arith}
use Rattle.std.proofs.lemmas.Int.Digits.{digits_value_more}
use Rattle.decimal_numbers.proofs.NumberLemmas.{one_digit_more}
use Rattle.decimal_numbers.proofs.numbers.digits_value.Goals as goal

pub loop-byte-preserved : goal.loop-byte-preserved
loop-byte-preserved c =
    let inside : c.loop-byte.byte-index < length c.args.word.now = omega arith in
    let more = digits_value_more 10 c.args.word.now c.loop-byte.byte-index inside in
    record { value = cc; small = one_digit_more c.loop-byte.value c.from.result c.loop-byte.byte-index c.loop-byte.invariant.small (omega arith) }
