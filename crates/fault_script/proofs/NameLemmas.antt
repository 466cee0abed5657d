-- The names of a script are names.
use Rattle.std.proofs.Common.{◌≡◌, ℕ, ◌==◌, ◌≤◌, ◌&&◌, true, false, List, length, Option, Some, None, arith, get_or, nat_le, nat_lt, ap, refl}
use Rattle.std.specs.List.{list_all}
use Rattle.std.specs.Char.{is_ascii_alphabetic}
use Rattle.std.specs.Prelude.{slice_index}
use Rattle.std.proofs.lemmas.Bool.{and_parts, eqb-true, leb-true}
use Rattle.std.proofs.lemmas.Bool.Decides.{nat_tests}
use Rattle.std.proofs.lemmas.List.Quantifiers.{position-Some}
use Rattle.std.proofs.lemmas.List.Folds.{list_all_at}
use Rattle.ft_base.specs.Text.{zero_place}
use Rattle.fault_script.specs.Words.{is_name_byte, is_script_name, is_identifier}

no_zero_at : (word : List ℕ) (place : ℕ) → list_all is_name_byte word ≡ true → zero_place word ≡ Some place → zero_place word ≡ None
no_zero_at word place all found =
    let at = position-Some (λ b. b == 0) word place 0 found in
    let zero_byte = eqb-true _ _ at.1 in
    let bad : is_name_byte (get_or word place 0) ≡ false = ap is_name_byte zero_byte in
    let none = list_all_at is_name_byte word place 0 at.0 bad in
    cc

no_zero_byte : (word : List ℕ) → list_all is_name_byte word ≡ true → zero_place word ≡ None
no_zero_byte word all =
    let go : (found : Option ℕ) → zero_place word ≡ found → zero_place word ≡ None =
    λ found. elim found as (λ f. zero_place word ≡ f → zero_place word ≡ None) [ None ↦ λ e. e | Some place ↦ λ e. no_zero_at word place all e ]
    in go (zero_place word) refl

pub script_name_is_identifier : (word : List ℕ) → is_script_name word ≡ true → is_identifier word ≡ true
script_name_is_identifier word name =
    let all = and_parts (nat_le 1 (length word) && nat_le (length word) 64 && is_ascii_alphabetic (slice_index word 0)) (list_all is_name_byte word) name in
    let first = and_parts (nat_le 1 (length word) && nat_le (length word) 64) (is_ascii_alphabetic (slice_index word 0)) all.0 in
    let sizes = and_parts (nat_le 1 (length word)) (nat_le (length word) 64) first.0 in
    let none = no_zero_byte word all.1 in
    let filled : 1 ≤ length word = leb-true _ _ sizes.0 in
    let short : length word ≤ 64 = leb-true _ _ sizes.1 in
    let not_empty : (length word == 0) ≡ false = grind (arith, nat_tests) in
    let not_long : nat_lt 255 (length word) ≡ false = grind (arith, nat_tests) in
    rw (not_empty, not_long, none) refl
