-- A line that is not too long.
use Rattle.std.proofs.Common.{◌≡◌, ℕ, ◌≤◌, false, List, length, arith, nat_lt, refl}
use Rattle.std.proofs.lemmas.Bool.Decides.{nat_tests}
use Rattle.fault_script.specs.Words.{words}
use Rattle.fault_script.specs.Forms.{parse_words, parse}

pub parse-short : (text : List ℕ) → length text ≤ 4096 → parse text ≡ parse_words (words text)
parse-short text short = let test : nat_lt 4096 (length text) ≡ false = grind (arith, nat_tests) in rw test refl
