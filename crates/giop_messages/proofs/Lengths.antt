-- A header has twelve bytes, whatever it says.
use Rattle.std.proofs.Common.{◌≡◌, ℕ, ◌+◌, List, length, Option, refl, ap, subst, arith, length-append}
use Rattle.ft_base.specs.Canonical.{padding}
use Rattle.cdr_codec.specs.declared.orders.Order.{Order}
use Rattle.cdr_codec.specs.Orders.{order_of}
use Rattle.cdr_codec.specs.Formats.{Spelling, Format, SpellsNumber, SpellsPair, SpellsJudged, number, followed, lifted, in_order}
use Rattle.cdr_codec.specs.Structs.{Fields, field, whole, struct}
use Rattle.giop_messages.specs.declared.heads.TheConstants.{HEAD_LENGTH}
use Rattle.giop_messages.specs.Faults.{up}
use Rattle.giop_messages.specs.Heads.{octet, only, magic_byte, minor_of, version, kind_of, kind, size_by, head_fields, head, if_flags_fit, header}

-- from this place on all spellings have this many bytes
pub record IsLong {X : Type 0} (spells : Spelling X) (place count : ℕ) : Type 0 where
  pub long : (order : Order) (x : X) (bytes : List ℕ) → spells order place x bytes → length bytes ≡ count

number_long : (size place pad : ℕ) → padding place size ≡ pad → IsLong (SpellsNumber size) place (pad + size)
number_long size place pad e = record { long = λ order n bytes s. omega (arith, s.aligned, s.sized, e, ap length s.is, length-append s.pad s.digits) }

pair_long : {X Y : Type 0} (f : Spelling X) (g : X → Spelling Y) (place n m : ℕ) → IsLong f place n → ((x : X) → IsLong (g x) (place + n) m)
    → IsLong (SpellsPair f g) place (n + m)
pair_long f g place n m first second = record {
  long = λ order x bytes s.
      let one = first.long order x.0 s.front s.first in
      let there = subst (λ (k : ℕ). g x.0 order (place + k) x.1 s.back) one s.second in
      let two = (second x.0).long order x.1 s.back there in
      omega (arith, one, two, ap length s.is, length-append s.front s.back);
}

judged_long : {X Y : Type 0} (f : Spelling X) (meaning : X → Option Y) (place n : ℕ) → IsLong f place n → IsLong (SpellsJudged f meaning) place n
judged_long f meaning place n law = record { long = λ order y bytes s. law.long order s.sign bytes s.spelled }

ordered_long : {W X : Type 0} (order : Order) (f : Format W X) (place n : ℕ) → IsLong f.Spelled place n → IsLong (in_order order f).Spelled place n
ordered_long order f place n law = record { long = λ other x bytes s. law.long order x bytes s }

-- all spellings of these fields have this many bytes
abbrev AreLong : {W S : Type 0} → Fields W S → ℕ → ℕ → Type 0
AreLong (whole x) place count = count ≡ 0
AreLong {S = S} (field {A} f name rest) place count =
    (n : ℕ) × (m : ℕ) × (count ≡ n + m) × IsLong f.Spelled place n × ((a : A) → AreLong (rest a) (place + n) m)

struct_long : {W S : Type 0} (fields : Fields W S) (place count : ℕ) → AreLong fields place count → IsLong (struct fields).Spelled place count
struct_long (whole x) place count h = record { long = λ order y bytes s. omega (arith, h, ap length s.1) }
struct_long (field f name rest) place count h = record {
  long = λ order x bytes s.
      let one = h.3.long order s.value s.front s.first in
      let there = subst (λ (k : ℕ). (struct (rest s.value)).Spelled order (place + k) x s.back) one s.others in
      let two = (struct_long (rest s.value) (place + h.0) h.1 (h.4 s.value)).long order x s.back there in
      omega (arith, h.2, one, two, ap length s.is, length-append s.front s.back);
}

octet_long : (place : ℕ) → padding place 1 ≡ 0 → IsLong octet.Spelled place 1
octet_long place e = number_long 1 place 0 e

magic_long : (n place : ℕ) → padding place 1 ≡ 0 → IsLong (magic_byte n).Spelled place 1
magic_long n place e = judged_long octet.Spelled (only n) place 1 (octet_long place e)

version_long : IsLong version.Spelled 4 2
version_long =
    judged_long (followed octet (λ major. octet)).Spelled minor_of 4 2
    (pair_long octet.Spelled (λ major. octet.Spelled) 4 1 1 (octet_long 4 refl) (λ major. octet_long 5 refl))

kind_long : (minor : ℕ) → IsLong (kind minor).Spelled 7 1
kind_long minor = judged_long octet.Spelled (kind_of minor) 7 1 (octet_long 7 refl)

size_long : (flags : ℕ) → IsLong (size_by flags).Spelled 8 4
size_long flags = ordered_long (order_of flags) (lifted up (number 4)) 8 4 (number_long 4 8 0 refl)

head_long : IsLong head.Spelled 0 HEAD_LENGTH
head_long =
    struct_long head_fields 0 HEAD_LENGTH (
      1,
      11,
      refl,
      magic_long 71 0 refl,
      λ g. (
        1,
        10,
        refl,
        magic_long 73 1 refl,
        λ i. (
          1,
          9,
          refl,
          magic_long 79 2 refl,
          λ o. (
            1,
            8,
            refl,
            magic_long 80 3 refl,
            λ p.
                (2, 6, refl, version_long, λ minor. (1, 5, refl, octet_long 6 refl, λ flags. (1, 4, refl, kind_long minor, λ kind. (4, 0, refl, size_long flags, λ size. refl)))),
          ),
        ),
      ),
    )

-- a header at the front of a message
pub header_long : IsLong header.Spelled 0 HEAD_LENGTH
header_long = judged_long head.Spelled if_flags_fit 0 HEAD_LENGTH head_long
