-- The digits of a word by their places: their values, and the octets of their pairs.
use Rattle.std.proofs.Common.{◌≡◌, ℕ, zero, suc, ◌+◌, ◌*◌, ◌%◌, ◌<◌, ◌≤◌, ◌↔◌, ◌∙◌, Bool, true, false, cond, eqb, ltb, List, length, get_or, take, drop, slice_set, Option, Some, None, unwrap_or, is_some, Result, Ok, Err, max, refl, sym, ap, subst, inl, inr, arith, eqb-true, ltb-true, ltb-false, get_or-set_other, get_or-set_same, ◌≢◌}
use Rattle.std.specs.Prelude.{IsTrue, if◌then◌else◌}
use Rattle.std.specs.Result.{result_ok}
use Rattle.std.proofs.lemmas.Bool.{cases_lt, cases_eq}
use Rattle.std.proofs.lemmas.List.{set-get_or}
use Rattle.std.proofs.lemmas.List.Elements.{All-get_or}
use Rattle.hex.specs.Hex.{decode_of, decode_pairs, hex_digit_value, is_hex_digit, pair_value}
use Rattle.hex.specs.declared.error.FromHexError.{FromHexError}
use Rattle.hex.proofs.Pairs.{prepend, decode_start, decode_step, decode_done}
use Rattle.hex.proofs.HexLemmas.{decode_of-even, decode_pairs-ok}
use Rattle.fault_script.specs.Digits.{IsValue, AreDigits, HasOctet}

-- ---- values

-- a digit's value is one of sixteen
small : (c v : ℕ) → hex_digit_value c ≡ Some v → v < 16
small c v h = grind (arith)

value_from_test : (o : Option ℕ) (v : ℕ) (t : Bool) → ((w : ℕ) → o ≡ Some w → w < 16) → (t ≡ true → v < 16) → unwrap_or o 255 ≡ cond t v 255
    → o ≡ (if t then Some v else None)
value_from_test (Some w) v true s b e = ap Some e
value_from_test (Some w) v false s b e = absurd (omega (arith, s w refl))
value_from_test None v true s b e = absurd (omega (arith, b refl))
value_from_test None v false s b e = refl

-- the test of a value, which computes
pub value_from : (byte value : ℕ) → eqb (unwrap_or (hex_digit_value byte) 255) (cond (ltb value 16) value 255) ≡ true → IsValue byte value
value_from byte value h = value_from_test (hex_digit_value byte) value (ltb value 16) (small byte) (λ e. ltb-true _ _ e) (eqb-true _ _ h)

-- a value is below sixteen just where the byte is a digit
pub value_small : (byte value : ℕ) → IsValue byte value → (value < 16) ↔ (is_hex_digit byte ≡ true)
value_small byte value e = go (ltb value 16) refl e
  where
    go : (t : Bool) → ltb value 16 ≡ t → hex_digit_value byte ≡ (if t then Some value else None) → (value < 16) ↔ (is_hex_digit byte ≡ true)
    go true b r = (λ _. ap is_some r, λ _. ltb-true _ _ b)
    go false b r = (λ h. absurd (omega (arith, ltb-false _ _ b)), λ d. cc (d, ap is_some r))

-- the value of a digit
value_is : (byte value digit : ℕ) → IsValue byte value → hex_digit_value byte ≡ Some digit → value ≡ digit
value_is byte value digit e is = go (ltb value 16) e
  where
    go : (t : Bool) → hex_digit_value byte ≡ (if t then Some value else None) → value ≡ digit
    go true r = ap (λ o. unwrap_or o 0) (sym r ∙ is)
    go false r = cc (r, is)

-- the octet of a pair of values
pub octet_of_values : (word octets : List ℕ) (k high low : ℕ) → IsValue (get_or word (2 * k) 0) high → IsValue (get_or word (2 * k + 1) 0) low
    → (high < 16 → low < 16 → get_or octets k 0 ≡ high * 16 + low) → HasOctet word octets k
octet_of_values word octets k high low h l is a b ha lb =
    let ea : high ≡ a = value_is (get_or word (2 * k) 0) high a h ha in
    let eb : low ≡ b = value_is (get_or word (2 * k + 1) 0) low b l lb in
    let sa : a < 16 = small (get_or word (2 * k) 0) a ha in
    let sb : b < 16 = small (get_or word (2 * k + 1) 0) b lb in
    let octet : get_or octets k 0 ≡ high * 16 + low = is (omega (arith, ea, sa)) (omega (arith, eb, sb)) in
    omega (arith, octet, ea, eb)

-- ---- places

abbrev pub AreDigitsBetween : List ℕ → ℕ → ℕ → Type 0
AreDigitsBetween word from to = (k : ℕ) → from ≤ k → k < to → is_hex_digit (get_or word k 0) ≡ true

-- the first octets are those of their pairs, and what is known of all values so far
pub record IsFilled (word octets : List ℕ) (AllGood : Type 0) (i : ℕ) : Type 0 where
  pub filled : (k : ℕ) → k < i → HasOctet word octets k
  pub good : AllGood ↔ AreDigits word (2 * i)

pub start_filled : (word octets : List ℕ) (AllGood : Type 0) → AllGood → IsFilled word octets AllGood 0
start_filled word octets AllGood good = record {
  filled = λ k h. absurd (omega arith);
  good = (λ _ k h. absurd (omega arith), λ _. good);
}

-- n octets more, of which the first may have been filled before
pub more_filled : (word old new : List ℕ) (AllGood Here Next : Type 0) (i at n : ℕ) → at ≤ i → i ≤ at + n → IsFilled word old AllGood i
    → ((k : ℕ) → k < at → get_or new k 0 ≡ get_or old k 0) → ((k : ℕ) → at ≤ k → k < at + n → HasOctet word new k)
    → Here ↔ AreDigitsBetween word (2 * at) (2 * (at + n)) → Next ↔ (AllGood × Here) → IsFilled word new Next (at + n)
more_filled word old new AllGood Here Next i at n from to was kept filled here both = record {
  filled = λ k h. elim (cases_lt k at) [
    | inl before ↦ (λ high low eh el. kept k before ∙ was.filled k (omega arith) high low eh el)
    | inr after ↦ filled k after h
  ];
  good = (
    λ next k h. elim (cases_lt k (2 * at)) [
      | inl before ↦ was.good.0 (both.0 next).0 k (omega arith)
      | inr after ↦ here.0 (both.0 next).1 k after h
    ],
    λ digits. both.1 (was.good.1 (λ k h. digits k (omega arith)), here.1 (λ k after h. digits k h)),
  );
}

-- the digits of one pair
pair_digits : (word : List ℕ) (i high low : ℕ) → IsValue (get_or word (2 * i) 0) high → IsValue (get_or word (2 * i + 1) 0) low
    → ((high < 16) × (low < 16)) ↔ AreDigitsBetween word (2 * i) (2 * (i + 1))
pair_digits word i high low h l =
    let first = value_small (get_or word (2 * i) 0) high h in
    let second = value_small (get_or word (2 * i + 1) 0) low l in (
      λ both k from to. elim (cases_eq (2 * i) k) [
        | inl e ↦ subst (λ p. is_hex_digit (get_or word p 0) ≡ true) e (first.0 both.0)
        | inr ne ↦ (let e : 2 * i + 1 ≡ k = omega arith in subst (λ p. is_hex_digit (get_or word p 0) ≡ true) e (second.0 both.1))
      ],
      λ digits. (first.1 (digits (2 * i) (omega arith) (omega arith)), second.1 (digits (2 * i + 1) (omega arith) (omega arith))),
    )

-- one octet more
pub one_filled : (word octets : List ℕ) (i greatest high low next : ℕ) → i < length octets
    → IsValue (get_or word (2 * i) 0) high → IsValue (get_or word (2 * i + 1) 0) low → next ≡ max (max greatest high) low
    → IsFilled word octets (greatest < 16) i → IsFilled word (slice_set octets i (high % 16 * 16 + low % 16)) (next < 16) (i + 1)
one_filled word octets i greatest high low next room h l e was =
    let octet : ℕ = high % 16 * 16 + low % 16 in
    let new : List ℕ = slice_set octets i octet in
    more_filled word octets new (greatest < 16) ((high < 16) × (low < 16)) (next < 16) i i 1 (omega arith) (omega arith) was
    (λ k before. let ne : k ≢ i = omega arith in get_or-set_other octets i k octet 0 ne)
    (λ k from to.
    let same : i ≡ k = omega arith in
    subst (λ p. HasOctet word new p) same
    (octet_of_values word new i high low h l (λ a b. get_or-set_same octets i octet 0 room ∙ omega arith)))
    (pair_digits word i high low h l)
    (λ n. (omega arith, (omega arith, omega arith)), λ b. omega (arith, b.0, b.1.0, b.1.1))

some_value : (o : Option ℕ) → is_some o ≡ true → (v : ℕ) × (o ≡ Some v)
some_value (Some v) e = (v, refl)
some_value None e = cc e

-- digits alone are read pair by pair
reads : (word octets : List ℕ) (i : ℕ) → i ≤ length octets → length word ≡ 2 * length octets → ((k : ℕ) → k < length octets → HasOctet word octets k)
    → AreDigits word (length word) → decode_pairs 0 word ≡ prepend (take i octets) (decode_pairs (2 * i) (drop (2 * i) word))
reads word octets zero room twice filled digits = decode_start word octets
reads word octets (suc i) room twice filled digits =
    let high = some_value (hex_digit_value (get_or word (2 * i) 0)) (digits (2 * i) (omega arith)) in
    let low = some_value (hex_digit_value (get_or word (2 * i + 1) 0)) (digits (2 * i + 1) (omega arith)) in
    let is = filled i (omega arith) high.0 low.0 high.1 low.1 in
    let pair : pair_value (get_or word (2 * i) 0) (get_or word (2 * i + 1) 0) (2 * i) ≡ Ok (get_or octets i 0) = rw (high.1, low.1) (ap Ok (sym is)) in
    let step = decode_step word octets i (get_or octets i 0) (omega arith) (omega arith) pair (reads word octets i (omega arith) twice filled digits) in
    let next : i + 1 ≡ suc i = omega arith in
    subst (λ n. decode_pairs 0 word ≡ prepend (take n octets) (decode_pairs (2 * n) (drop (2 * n) word))) next
    (subst (λ bytes. decode_pairs 0 word ≡ prepend (take (i + 1) bytes) (decode_pairs (2 * (i + 1)) (drop (2 * (i + 1)) word))) (set-get_or octets i 0) step)

-- what is read is digits alone
read_digits : (word : List ℕ) (r : Result (List ℕ) FromHexError) → decode_pairs 0 word ≡ r → (AreDigits word (length word) → ⊥) → result_ok r ≡ None
read_digits word (Err e) is none = refl
read_digits word (Ok bytes) is none =
    let all = (decode_pairs-ok 0 word bytes is).0 in
    absurd (none (λ k h. All-get_or (λ c. is_hex_digit c ≡ true) word k 0 h all))

-- all octets are filled
all_filled : (word octets : List ℕ) → length word ≡ 2 * length octets → ((k : ℕ) → k < length octets → HasOctet word octets k)
    → (all : Bool) → IsTrue all ↔ AreDigits word (length word) → result_ok (decode_of word) ≡ (if all then Some octets else None)
all_filled word octets twice filled true digits =
    ap result_ok (decode_of-even word (omega arith)
    ∙ decode_done word octets (length octets) (omega arith) (omega arith) (reads word octets (length octets) (omega arith) twice filled (digits.0 refl)))
all_filled word octets twice filled false digits =
    ap result_ok (decode_of-even word (omega arith)) ∙ read_digits word (decode_pairs 0 word) refl (λ h. cc (digits.1 h))

-- no octet is left
pub finished : (word octets : List ℕ) (AllGood : Type 0) (i : ℕ) → i ≡ length octets → length word ≡ 2 * length octets
    → IsFilled word octets AllGood i → (all : Bool) → IsTrue all ↔ AllGood
    → result_ok (decode_of word) ≡ (if all then Some octets else None)
finished word octets AllGood i whole twice is all good =
    all_filled word octets twice (λ k h. is.filled k (omega arith)) all
    (λ t k h. is.good.0 (good.0 t) k (omega arith), λ digits. good.1 (is.good.1 (λ k h. digits k (omega arith))))
