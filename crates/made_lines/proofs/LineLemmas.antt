-- Each line of a script that is made reads as its value.
use Rattle.std.proofs.Common.{◌≡◌, ℕ, zero, suc, ◌+◌, ◌≤◌, ◌<◌, ◌^◌, ◌%◌, ◌==◌, Bool, true, false, List, [], ◌∷◌, ◌++◌, length, nat_lt, nat_le, codes, decimal, Some, Ok, if◌then◌else◌, refl, sym, ap, ◌∙◌, arith, subst, mod-lt, leb-true}
use Rattle.std.specs.Prelude.{option_and_then}
use Rattle.std.specs.List.{list_all}
use Rattle.std.specs.Str.Parse.{AllDigits}
use Rattle.std.proofs.lemmas.Bool.Decides.{nat_tests}
use Rattle.std.proofs.lemmas.Fmt.{decimal_digit, decimal_is_IsNumeral, length-decimal-le}
use Rattle.std.proofs.lemmas.Str.Parse.{digit_from_value}
use Rattle.report_words.specs.Words.{line, phrase_text}
use Rattle.fault_script.specs.Words.{is_filled, is_script_name}
use Rattle.fault_script.specs.Numbers.{capped, from_one, positive_number}
use Rattle.fault_script.specs.Forms.{parse, parse_words}
use Rattle.fault_script.specs.declared.lines.Line.{Line}
use Rattle.fault_script.specs.declared.lines.Line.TheVariants as lines
use Rattle.made_scripts.specs.Lines.{client}
use Rattle.made_scripts.specs.Scripts.{delivery, deposit}
use Rattle.made_lines.specs.Laws.{number_back}
use Rattle.made_lines.specs.Made.{arrival, bank, deposit_made}
use Rattle.made_lines.specs.Reading.{IsReadAs}
use Rattle.made_lines.proofs.WordLemmas.{inside_phrase, is_plain, is_plain_byte, phrase_room, room_of, without_end, words_back}

-- ---- words that read as a line

-- some words are plain and short, and read as a line
pub record Reads (words : List (List ℕ)) (read : Line) : Type 0 where
  pub plain : list_all is_plain words ≡ true
  pub short : room_of words ≤ 64
  pub is : parse_words words ≡ Ok (Some read)

-- so does the text that is made of them
pub text_is_read : (words : List (List ℕ)) (read : Line) → Reads words read → IsReadAs (line words) read
text_is_read [] read r = let no_line = r.is in absurd cc
text_is_read (first ∷ rest) read r =
    let text = phrase_text (first ∷ rest) in
    let room = phrase_room first rest in
    let few = r.short in
    let short : nat_lt 4096 (length text) ≡ false = grind (arith, nat_tests) in
    ap parse (without_end text (inside_phrase (first ∷ rest) r.plain)) ∙ rw (short, words_back first rest r.plain) r.is

-- ---- numbers

all_plain_digits : (digits : List ℕ) → AllDigits 10 digits → list_all is_plain_byte digits ≡ true
all_plain_digits [] all = refl
all_plain_digits (digit ∷ digits) all =
    let range = digit_from_value digit all.0 in
    let plain : is_plain_byte digit ≡ true = grind (arith, nat_tests) in
    rw (plain, all_plain_digits digits all.1) refl

filled_by_length : (word : List ℕ) → 0 < length word → is_filled word ≡ true
filled_by_length word some = let not_empty : (length word == 0) ≡ false = grind (arith, nat_tests) in rw not_empty refl

decimal_is_plain : (n : ℕ) → n < 2 ^ 64 → is_plain (decimal n) ≡ true
decimal_is_plain n small =
    let numeral = (decimal_is_IsNumeral n small).0 in
    rw (filled_by_length (decimal n) numeral.0, all_plain_digits (decimal n) numeral.1) refl

positive_back : (n : ℕ) → 0 < n → n < 1000000 → positive_number (decimal n) ≡ Some n
positive_back n some small =
    let not_none : (n == 0) ≡ false = grind (arith, nat_tests) in
    let is : capped n ≡ n = omega arith in
    ap (option_and_then from_one) (number_back n small) ∙ rw (not_none, is) refl

-- ---- the lines

pub delivery_reads : (message : ℕ) → 0 < message → message < 1000000 → Reads (delivery message) (arrival message)
delivery_reads message some small =
    let long = length-decimal-le 6 message (omega arith) (omega arith) (omega arith) in record {
      plain = rw (decimal_is_plain message (omega arith)) refl;
      short = omega (arith, long);
      is = rw (positive_back message some small) refl;
    }

-- a round's client is one of four
record IsCaller (name : List ℕ) : Type 0 where
  pub plain : is_plain name ≡ true
  pub short : length name ≡ 2
  pub named : is_script_name name ≡ true

named_by_digit : (digit : ℕ) → digit < 10 → client digit ≡ 99 ∷ (48 + digit) ∷ []
named_by_digit digit small = ap (λ (text : List ℕ). codes "c" ++ text) (decimal_digit digit small)

calls : (number : ℕ) → number < 4 → IsCaller (client number)
calls zero small = subst IsCaller (sym (named_by_digit 0 (omega arith))) (record { plain = refl; short = refl; named = refl })
calls (suc zero) small = subst IsCaller (sym (named_by_digit 1 (omega arith))) (record { plain = refl; short = refl; named = refl })
calls (suc (suc zero)) small = subst IsCaller (sym (named_by_digit 2 (omega arith))) (record { plain = refl; short = refl; named = refl })
calls (suc (suc (suc zero))) small = subst IsCaller (sym (named_by_digit 3 (omega arith))) (record { plain = refl; short = refl; named = refl })
calls (suc (suc (suc (suc number)))) small = absurd (omega arith)

pub deposit_reads : (round x : ℕ) → Reads (deposit round x) (deposit_made round x)
deposit_reads round x =
    let client = calls (round % 4) (mod-lt round (omega arith)) in
    let small : x % 1000 < 1000 = mod-lt x (omega arith) in
    let long = length-decimal-le 6 (x % 1000) (omega arith) (omega arith) (omega arith) in
    let name_long = client.short in record {
      plain = rw (client.plain, decimal_is_plain (x % 1000) (omega arith)) refl;
      short = omega (arith, long, name_long);
      is = rw client.named refl;
    }

-- a line of fixed words, where each part computes
pub fixed_reads : {words : List (List ℕ)} {read : Line} → list_all is_plain words ≡ true → nat_le (room_of words) 64 ≡ true
    → parse_words words ≡ Ok (Some read) → Reads words read
fixed_reads plain short is = record { plain = plain; short = leb-true _ _ short; is = is }

-- a state that goes to the backups, whole or not
pub transfer_reads : (whole : Bool) → Reads ((if whole then codes "checkpoint" else codes "update") ∷ codes "bank" ∷ [])
    (if whole then lines.Checkpoint bank else lines.Update bank)
transfer_reads true = fixed_reads refl refl refl
transfer_reads false = fixed_reads refl refl refl
