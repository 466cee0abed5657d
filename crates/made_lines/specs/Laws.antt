-- Laws of made scripts' numbers: how many messages there are, and that a decimal reads back.
use Rattle.std.proofs.Common.{◌≡◌, ℕ, zero, suc, ◌+◌, ◌*◌, ◌≤◌, ◌<◌, ◌%◌, ◌==◌, Bool, true, false, List, [], ◌∷◌, length, nat_le, decimal, Some, if◌then◌else◌, refl, ap, arith}
use Rattle.std.specs.Char.{is_ascii_digit}
use Rattle.std.specs.List.{list_all}
use Rattle.std.specs.Str.Parse.{AllDigits}
use Rattle.std.proofs.lemmas.Bool.Decides.{nat_tests}
use Rattle.std.proofs.lemmas.Fmt.{decimal_is_IsNumeral, length-decimal-le}
use Rattle.std.proofs.lemmas.Str.Parse.{digit_from_value}
use Rattle.fault_script.specs.Numbers.{is_number, number}
use Rattle.made_scripts.specs.Scripts.{drawn, sent_in}

-- ---- messages

sent_few : (again whole : Bool) → (if again then 3 else 2) + (if whole then 2 else 0) ≤ 5
sent_few true true = omega arith
sent_few true false = omega arith
sent_few false true = omega arith
sent_few false false = omega arith

-- at most five messages a round
pub few_sent : (seed rounds : ℕ) → sent_in seed rounds ≤ 5 * rounds
unfolding sent_in
few_sent seed zero = omega arith
few_sent seed (suc rounds) =
    let before = few_sent seed rounds in
    let round = sent_few (drawn seed (suc rounds) % 5 == 0) ((rounds + 1) % 100 == 0) in
    omega (arith, before, round)

-- ---- numbers

pub all_ascii_digits : (digits : List ℕ) → AllDigits 10 digits → list_all is_ascii_digit digits ≡ true
all_ascii_digits [] all = refl
all_ascii_digits (digit ∷ digits) all =
    let range = digit_from_value digit all.0 in
    let is : is_ascii_digit digit ≡ true = grind (arith, nat_tests) in
    rw (is, all_ascii_digits digits all.1) refl

-- a number of fewer than 7 digits reads back
pub number_back : (n : ℕ) → n < 1000000 → number (decimal n) ≡ Some n
number_back n small =
    let numeral = decimal_is_IsNumeral n (omega arith) in
    let digits = all_ascii_digits (decimal n) numeral.0.1 in
    let long = numeral.0.0 in
    let short = length-decimal-le 6 n (omega arith) (omega arith) (omega arith) in
    let some : nat_le 1 (length (decimal n)) ≡ true = grind (arith, nat_tests) in
    let few : nat_le (length (decimal n)) 20 ≡ true = grind (arith, nat_tests) in
    let is : is_number (decimal n) ≡ true = rw (some, few, digits) refl in
    rw is (ap Some numeral.1)
