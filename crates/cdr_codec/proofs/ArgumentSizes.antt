-- The canonical form of a body's parameters is hardly longer than the body.
use Rattle.std.proofs.Common.{◌≡◌, ℕ, ◌+◌, ◌≤◌, Bool, true, false, cond, List, [], ◌∷◌, ◌++◌, length, take, Option, Some, None, refl, sym, ap, subst, ◌∙◌, length-append, length-take-le, arith, eqb, eqb-true}
use Rattle.std.specs.Int.{cast_unsigned, w64}
use Rattle.ft_base.specs.Text.{zero_place}
use Rattle.ft_base.specs.Canonical.{padding, one_of, number_at, value_at, values_at}
use Rattle.ft_base.specs.declared.requests.Par.{Par}
use Rattle.ft_base.specs.declared.requests.Par.TheVariants.{I64, U32, Bool as Truth, Text, Octets}
use Rattle.ft_base.specs.declared.requests.Signature.{Signature}
use Rattle.ft_base.specs.declared.values.Value.{Value}
use Rattle.ft_base.specs.declared.values.Value.TheVariants as values
use Rattle.cdr_codec.specs.declared.orders.Order.{Order}
use Rattle.cdr_codec.specs.declared.orders.Order.TheVariants.{Big}
use Rattle.cdr_codec.specs.declared.bodies.Raw.{Raw}
use Rattle.cdr_codec.specs.Formats.{SpellsNumber, SpellsOctets}
use Rattle.cdr_codec.specs.Values.{text_up_to}
use Rattle.cdr_codec.specs.Arguments.{param, params, pars_of, IsFormOf}
use Rattle.cdr_codec.proofs.Lengths.{number_length}

-- where a value begins is a multiple of this
abbrev align_of : Value → ℕ
align_of (values.I64 n) = 8
align_of (values.U32 n) = 4
align_of (values.Bool b) = 1
align_of (values.Text t) = 4
align_of (values.Octets xs) = 4

-- a value's bytes behind its padding
abbrev size_of : Value → ℕ
size_of (values.I64 n) = 8
size_of (values.U32 n) = 4
size_of (values.Bool b) = 1
size_of (values.Text t) = 4 + (length t + 1)
size_of (values.Octets xs) = 4 + length xs

-- so many bytes stand for it at a place
abbrev takes : ℕ → Value → ℕ
takes place v = padding place (align_of v) + size_of v

some_is : {X : Type 0} (x y : X) → Some x ≡ Some y → x ≡ y
some_is x y e = cc

two_parts : {X : Type 0} (all front back : List X) (m n : ℕ) → all ≡ front ++ back → length front ≡ m → length back ≡ n → length all ≡ m + n
two_parts all front back m n e f b = ap length e ∙ length-append front back ∙ cc

-- ---- a spelling

number_size : (size : ℕ) (order : Order) (place n : ℕ) (bytes : List ℕ) → SpellsNumber size order place n bytes → length bytes ≡ padding place size + size
number_size size order place n bytes s = two_parts bytes s.pad s.digits (padding place size) size s.is s.aligned s.sized

octets_size : (order : Order) (place : ℕ) (xs bytes : List ℕ) → SpellsOctets order place xs bytes → length bytes ≡ (padding place 4 + 4) + length xs
octets_size order place xs bytes s =
    two_parts bytes s.front xs (padding place 4 + 4) (length xs) s.is (number_size 4 order place (length xs) s.front s.counted) refl

ends_so : (b : Bool) (xs t : List ℕ) → cond b (Some xs) None ≡ Some t → (b ≡ true) × (xs ≡ t)
ends_so true xs t e = (refl, cc)
ends_so false xs t e = absurd cc

-- a string has one octet more
text_size : (octets t : List ℕ) (end : Option ℕ) → text_up_to octets end ≡ Some t → length octets ≡ length t + 1
text_size octets t None h = absurd cc
text_size octets t (Some n) h =
    let so = ends_so (eqb (n + 1) (length octets)) (take n octets) t h in
    let last : n + 1 ≡ length octets = eqb-true _ _ so.0 in
    let len : length (take n octets) ≡ n = length-take-le n octets (omega arith) in
    omega (arith, ap length so.1)

spelled_size : (par : Par) (order : Order) (place : ℕ) (v : Value) (bytes : List ℕ) → (param par).Spelled order place v bytes → length bytes ≡ takes place v
spelled_size I64 order place v bytes s =
    subst (λ (x : Value). length bytes ≡ takes place x) (some_is (values.I64 s.sign) v s.means) (number_size 8 order place s.spelled.sign bytes s.spelled.spelled)
spelled_size U32 order place v bytes s =
    subst (λ (x : Value). length bytes ≡ takes place x) (some_is (values.U32 s.sign) v s.means) (number_size 4 order place s.sign bytes s.spelled)
spelled_size Truth order place v bytes s =
    subst (λ (x : Value). length bytes ≡ takes place x) (some_is (values.Bool s.sign) v s.means) (number_size 1 order place s.spelled.sign bytes s.spelled.spelled)
spelled_size Text order place v bytes s =
    let octets = octets_size order place s.spelled.sign bytes s.spelled.spelled in
    let ends = text_size s.spelled.sign s.sign (zero_place s.spelled.sign) s.spelled.means in
    subst (λ (x : Value). length bytes ≡ takes place x) (some_is (values.Text s.sign) v s.means) (omega (arith, octets, ends))
spelled_size Octets order place v bytes s =
    subst (λ (x : Value). length bytes ≡ takes place x) (some_is (values.Octets s.sign) v s.means) (omega (arith, octets_size order place s.sign bytes s.spelled))

-- ---- the canonical form

form_size : (place : ℕ) (v : Value) → length (value_at place v) ≡ takes place v
form_size place (values.I64 n) = number_length 8 Big place (cast_unsigned w64 n)
form_size place (values.U32 n) = number_length 4 Big place n
form_size place (values.Bool b) = omega arith
form_size place (values.Text t) =
    omega (
      arith,
      length-append (number_at 4 place (length t + 1) ++ t) (0 ∷ []),
      length-append (number_at 4 place (length t + 1)) t,
      number_length 4 Big place (length t + 1),
    )
form_size place (values.Octets xs) =
    omega (arith, length-append (number_at 4 place (length xs)) xs, number_length 4 Big place (length xs))

-- ---- a signature's parameters, of which there are at most two

padding_small : (place : ℕ) (v : Value) → padding place (align_of v) ≤ 7
padding_small place (values.I64 n) = omega arith
padding_small place (values.U32 n) = omega arith
padding_small place (values.Bool b) = omega arith
padding_small place (values.Text t) = omega arith
padding_small place (values.Octets xs) = omega arith

no_padding : (v : Value) → padding 0 (align_of v) ≡ 0
no_padding (values.I64 n) = refl
no_padding (values.U32 n) = refl
no_padding (values.Bool b) = refl
no_padding (values.Text t) = refl
no_padding (values.Octets xs) = refl

IsSized : List Par → Type 0
IsSized pars =
    (order : Order) (place : ℕ) (vs : List Value) (bytes : List ℕ) → (params pars).Spelled order place vs bytes
    → length (values_at 0 vs) ≤ length bytes + 7

none_sized : IsSized []
unfolding IsSized
none_sized order place vs bytes s = subst (λ (xs : List Value). length (values_at 0 xs) ≤ length bytes + 7) (sym s.0) (omega arith)

one_sized : (par : Par) → IsSized (par ∷ [])
unfolding IsSized
one_sized par order place vs bytes s =
    let v = s.sign.0 in
    let two = s.spelled in
    let whole : length bytes ≡ length two.front + length two.back = ap length two.is ∙ length-append two.front two.back in
    let values-are : v ∷ [] ≡ vs = ap (λ (xs : List Value). v ∷ xs) (sym two.second.0) ∙ some_is (v ∷ s.sign.1) vs s.means in
    subst (λ (xs : List Value). length (values_at 0 xs) ≤ length bytes + 7) values-are
    (omega (arith, whole, spelled_size par order place v two.front two.first, form_size 0 v, no_padding v, length-append (value_at 0 v) []))

two_sized : (par other : Par) → IsSized (par ∷ other ∷ [])
unfolding IsSized
two_sized par other order place vs bytes s =
    let v = s.sign.0 in
    let two = s.spelled in
    let rest = two.second in
    let w = rest.sign.0 in
    let last = rest.spelled in
    let form = value_at 0 v in
    let more = value_at (0 + length form) w in
    let whole : length bytes ≡ length two.front + length two.back = ap length two.is ∙ length-append two.front two.back in
    let behind : length two.back ≡ length last.front + length last.back = ap length last.is ∙ length-append last.front last.back in
    let values-are : v ∷ w ∷ [] ≡ vs =
    ap (λ (xs : List Value). v ∷ w ∷ xs) (sym last.second.0) ∙ ap (λ (xs : List Value). v ∷ xs) (some_is (w ∷ rest.sign.1) s.sign.1 rest.means)
    ∙ some_is (v ∷ s.sign.1) vs s.means in
    subst (λ (xs : List Value). length (values_at 0 xs) ≤ length bytes + 7) values-are
    (omega (
      arith,
      whole,
      behind,
      spelled_size par order place v two.front two.first,
      spelled_size other order (place + length two.front) w last.front last.first,
      form_size 0 v,
      no_padding v,
      form_size (0 + length form) w,
      padding_small (0 + length form) w,
      length-append form (more ++ []),
      length-append more [],
    ))

both_sized : (first second : Option Par) → IsSized (one_of first ++ one_of second)
both_sized None None = none_sized
both_sized None (Some par) = one_sized par
both_sized (Some par) None = one_sized par
both_sized (Some par) (Some other) = two_sized par other

pub form_sized : (body : Raw) (signature : Signature) (args : List ℕ) → IsFormOf args body (pars_of signature) → length args ≤ length body.bytes + 7
unfolding IsSized
form_sized body signature args form =
    subst (λ (l : List ℕ). length l ≤ length body.bytes + 7) (sym form.form)
    (both_sized signature.first signature.second body.order body.align form.values body.bytes form.is)
