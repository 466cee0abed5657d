-- Booleans, strings and signed numbers are codecs, and what of them has a spelling.
use Rattle.std.proofs.Common.{◌≡◌, ℕ, ◌+◌, ◌^◌, ◌<◌, ◌==◌, Bool, true, false, cond, eqb, ltb, ℤ, List, [], ◌∷◌, ◌++◌, length, take, Some, None, refl, sym, ap, ◌∙◌, length-append, arith, lt-ltb, ltb-false, eq-eqb, SFits, not, lit<, add-zero}
use Rattle.std.specs.List.{prefix_len}
use Rattle.std.proofs.lemmas.List.Sums.{prefix_len-le-length}
use Rattle.std.specs.Int.{Width, byte_len, cast_signed, cast_unsigned}
use Rattle.std.proofs.lemmas.Int.{to_z-of_z}
use Rattle.std.proofs.lemmas.List.{take_at}
use Rattle.std.proofs.lemmas.List.Folds.{prefix_len-append}
use Rattle.ft_base.specs.Text.{zero_place}
use Rattle.cdr_codec.specs.declared.faults.CdrWhy.TheVariants.{Short, BadBool, BadString}
use Rattle.cdr_codec.specs.Formats.{number, octets}
use Rattle.cdr_codec.specs.Laws.{IsCodec}
use Rattle.cdr_codec.specs.Values.{bool_of, bool_sign, boolean, text_up_to, text_of, text, signed}
use Rattle.cdr_codec.proofs.Codecs.{number_codec, octets_codec, judged_codec}

pub boolean_codec : IsCodec Short boolean
boolean_codec = judged_codec Short (number 1) 1 BadBool bool_of bool_sign (number_codec 1)

pub text_codec : IsCodec Short text
text_codec = judged_codec Short octets 4 BadString text_of (λ t. t ++ 0 ∷ []) octets_codec

pub signed_codec : (w : Width) → IsCodec Short (signed w)
signed_codec w = judged_codec Short (number (byte_len w)) (byte_len w) Short (λ n. Some (cast_signed w n)) (cast_unsigned w) (number_codec (byte_len w))

-- ---- what has a spelling

pub boolean_valid : (b : Bool) → boolean.Valid b
boolean_valid true = (lit< tt, refl)
boolean_valid false = (lit< tt, refl)

only_if : (b : Bool) (n : ℕ) → cond b (Some n) None ≡ None → b ≡ false
only_if true n e = absurd cc
only_if false n e = refl

if_so : (b : Bool) (n m : ℕ) → b ≡ true → n ≡ m → cond b (Some n) None ≡ Some m
if_so b n m e same = rw (e, same) refl

-- a NUL behind a text without one is the first
zero_place_push : (t : List ℕ) → zero_place t ≡ None → zero_place (t ++ 0 ∷ []) ≡ Some (length t)
zero_place_push t h =
    let is_text = λ (x : ℕ). not (x == 0) in
    let none : ltb (prefix_len is_text t) (length t) ≡ false = only_if _ _ h in
    let whole : prefix_len is_text t ≡ length t = omega (arith, prefix_len-le-length is_text t, ltb-false _ _ none) in
    let test : eqb (prefix_len is_text t) (length t) ≡ true = eq-eqb _ _ whole in
    let there : prefix_len is_text (t ++ 0 ∷ []) ≡ length t = prefix_len-append is_text t (0 ∷ []) ∙ rw test (add-zero (length t)) in
    if_so _ _ _ (lt-ltb _ _ (omega (arith, there, length-append t (0 ∷ [])))) there

pub text_valid : (t : List ℕ) → zero_place t ≡ None → length t + 1 < 2 ^ 32 → text.Valid t
text_valid t none short =
    let len : length (t ++ 0 ∷ []) ≡ length t + 1 = length-append t (0 ∷ []) in
    let cut : take (length t) (t ++ 0 ∷ []) ≡ t = take_at t (0 ∷ []) (length t) refl in
    let test : eqb (length t + 1) (length (t ++ 0 ∷ [])) ≡ true = eq-eqb _ _ (sym len) in
    (omega (arith, len), ap (text_up_to (t ++ 0 ∷ [])) (zero_place_push t none) ∙ rw (test, cut) refl)

pub signed_valid : (w : Width) (z : ℤ) → SFits w z → cast_unsigned w z < 256 ^ byte_len w → (signed w).Valid z
signed_valid w z fits small = (small, ap Some (to_z-of_z w z fits))
