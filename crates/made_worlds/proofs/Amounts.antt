-- The words of a made script's calls, read.
use Rattle.std.proofs.Common.{◌≡◌, ℕ, ◌<◌, ◌^◌, ◌==◌, true, false, List, [], ◌∷◌, nat_lt, codes, decimal, Some, None, Ok, refl, arith, pos}
use Rattle.std.specs.Prelude.{slice_index}
use Rattle.std.specs.Str.Parse.{AllDigits}
use Rattle.std.proofs.lemmas.Bool.Decides.{nat_tests}
use Rattle.std.proofs.lemmas.Fmt.{decimal_is_IsNumeral}
use Rattle.std.proofs.lemmas.Str.Parse.{digit_from_value}
use Rattle.fault_script.specs.Arguments.{call_words_of}
use Rattle.fault_script.specs.declared.arguments.CallWords.{CallWords}
use Rattle.fault_script.specs.Numbers.{signed_64}
use Rattle.ft_base.specs.Canonical.{values_at}
use Rattle.ft_base.specs.Coding as words
use Rattle.ft_base.specs.declared.values.Value.TheVariants as values
use Rattle.script_groups.specs.Groups.{signature_of}
use Rattle.script_groups.specs.declared.happenings.Happening.{Happening}
use Rattle.servant_account.specs.Account.{account}
use Rattle.made_lines.specs.Laws.{number_back}
use Rattle.made_worlds.proofs.Happened.{bank_after}

no_minus : (digits : List ℕ) → AllDigits 10 digits → (slice_index digits 0 == 45) ≡ false
no_minus [] all = refl
no_minus (digit ∷ digits) all = let range = digit_from_value digit all.0 in grind (arith, nat_tests)

-- an amount reads back
amount_back : (n : ℕ) → n < 1000 → signed_64 (decimal n) ≡ Some (pos n)
amount_back n small =
    let numeral = decimal_is_IsNumeral n (omega arith) in
    let fits : nat_lt n (2 ^ 63) ≡ true = grind (arith, nat_tests) in
    rw (no_minus (decimal n) numeral.0.1, number_back n (omega arith), fits) refl

-- what a call without options says
abbrev pub said_of : List ℕ → CallWords
said_of args = record { args = args; retention = None; expiration = None; versioned = true }

abbrev pub amount_args : ℕ → List ℕ
amount_args amount = values_at 0 (values.I64 (pos amount) ∷ [])

pub deposit_said : (past : List Happening) (amount : ℕ) → amount < 1000 →
    call_words_of (signature_of (bank_after past) (codes "deposit")) (decimal amount ∷ []) ≡ Ok (said_of (amount_args amount))
unfolding words.machine_of account
deposit_said past amount small = rw (amount_back amount small) refl

pub balance_said : (past : List Happening) → call_words_of (signature_of (bank_after past) (codes "balance")) [] ≡ Ok (said_of [])
unfolding words.machine_of account
balance_said past = refl
