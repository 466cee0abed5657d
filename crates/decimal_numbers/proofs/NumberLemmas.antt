-- Bounds on the value of a few decimal digits.
use Rattle.std.proofs.Common.{ℕ, ◌+◌, ◌*◌, ◌^◌, ◌<◌, ◌≤◌, arith, add-one}
use Rattle.std.proofs.Math.Nat.{pow-suc, pow-le-pow_right}

-- a number of i digits, and one digit more
pub one_digit_more : (value digit i : ℕ) → value < 10 ^ i → digit < 10 → value * 10 + digit < 10 ^ (i + 1)
one_digit_more value digit i small digit_small =
    rw (add-one, pow-suc 10 i) (omega arith)

-- less than twenty digits leave room for one more
pub short_power : (i : ℕ) → i < 20 → 10 ^ i ≤ 10 ^ 19
short_power i short = pow-le-pow_right {n = 10} (omega arith) {i = i} {j = 19} (omega arith)
