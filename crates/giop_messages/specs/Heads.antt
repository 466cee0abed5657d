-- The header of a message: `GIOP`, the version 1.0, 1.1 or 1.2, the flags, the type, and the size without the header.
-- (GIOP chapter, "GIOP Message Header".)
use Rattle.std.specs.Prelude.{ℕ, ◌+◌, ◌/◌, ◌%◌, ◌==◌, ◌&&◌, ◌||◌, not, nat_lt, Bool, true, false, if◌then◌else◌, List, [], ◌∷◌, Option, Some, None, Result, Ok}
use Rattle.std.specs.List.{find}
use Rattle.cdr_codec.specs.declared.orders.Order.TheVariants.{Big}
use Rattle.cdr_codec.specs.Reading.{reader_at, Fault, ◌>>=◌}
use Rattle.cdr_codec.specs.Orders.{order_of}
use Rattle.cdr_codec.specs.Formats.{Format, number, followed, judged, judged_at, lifted, in_order}
use Rattle.cdr_codec.specs.Structs.{Fields, field, whole, struct}
use Rattle.giop_messages.specs.declared.faults.Why.{Why}
use Rattle.giop_messages.specs.declared.faults.Why.TheVariants as causes
use Rattle.giop_messages.specs.declared.heads.Kind.{Kind}
use Rattle.giop_messages.specs.declared.heads.Kind.TheVariants as kinds
use Rattle.giop_messages.specs.declared.heads.Head.{Head}
use Rattle.giop_messages.specs.Faults.{up}

abbrev pub octet : Format Why ℕ
octet = lifted up (number 1)

-- one format or the other
abbrev pub either : {W X : Type 0} → Bool → Format W X → Format W X → Format W X
either true f g = f
either false f g = g

-- a field that tells nothing
abbrev pub mark : {S : Type 0} → Format Why (Unit {0}) → Fields Why S → Fields Why S
mark f rest = field f (λ s. tt) (λ u. rest)

-- ---- the magic word and the version

abbrev pub only : ℕ → ℕ → Option (Unit {0})
only n m = if m == n then Some tt else None

-- one byte of the magic word
abbrev pub magic_byte : ℕ → Format Why (Unit {0})
magic_byte n = judged octet 1 causes.Magic (only n) (λ u. n)

-- the minor version of 1.0, 1.1 and 1.2; another version is refused at its first byte
abbrev pub minor_of : ℕ × ℕ → Option ℕ
minor_of v = if v.0 == 1 && nat_lt v.1 3 then Some v.1 else None

abbrev pub version : Format Why ℕ
version = judged (followed octet (λ major. octet)) 1 causes.Version minor_of (λ minor. (1, minor))

-- ---- the type

-- the number of each type
abbrev pub kind_sign : Kind → ℕ
kind_sign kinds.Request = 0
kind_sign kinds.Reply = 1
kind_sign kinds.CancelRequest = 2
kind_sign kinds.LocateRequest = 3
kind_sign kinds.LocateReply = 4
kind_sign kinds.CloseConnection = 5
kind_sign kinds.MessageError = 6
kind_sign kinds.Fragment = 7

-- only 1.2 has fragments here
abbrev pub fragments_in : ℕ → List Kind
fragments_in minor = if minor == 2 then kinds.Fragment ∷ [] else []

abbrev pub kinds_in : ℕ → List Kind
kinds_in minor =
    kinds.Request ∷ kinds.Reply ∷ kinds.CancelRequest ∷ kinds.LocateRequest ∷ kinds.LocateReply ∷ kinds.CloseConnection ∷ kinds.MessageError
    ∷ fragments_in minor

-- the type with this number, in a message of this minor version
abbrev pub kind_of : ℕ → ℕ → Option Kind
kind_of minor n = find (λ k. kind_sign k == n) (kinds_in minor)

abbrev pub kind : ℕ → Format Why Kind
kind minor = judged octet 1 causes.Kind (kind_of minor) kind_sign

-- there is such a minor version, and it has messages of this type
abbrev pub has_kind : ℕ → Kind → Bool
has_kind minor k = nat_lt minor 3 && (minor == 2 || not (kind_sign k == 7))

-- which messages may come in fragments
abbrev pub has_parts : Kind → Bool
has_parts kinds.Request = true
has_parts kinds.Reply = true
has_parts kinds.CancelRequest = false
has_parts kinds.LocateRequest = true
has_parts kinds.LocateReply = true
has_parts kinds.CloseConnection = false
has_parts kinds.MessageError = false
has_parts kinds.Fragment = true

-- ---- the flags, of which bit 0 names the byte order

-- bit 1, which in 1.0 says nothing
abbrev pub has_fragment_bit : ℕ → Bool
has_fragment_bit flags = flags / 2 % 2 == 1

-- more fragments follow
abbrev pub more_in : Head → Bool
more_in h = h.minor == 2 && has_fragment_bit h.flags

-- which messages may have bit 1: in 1.1 none
abbrev pub may_have_fragment_bit : ℕ → Kind → Bool
may_have_fragment_bit minor k = if minor == 0 then true else (if minor == 1 then false else has_parts k)

-- no fragments are announced of a message that has none
abbrev pub flags_fit : Head → Bool
flags_fit h = not (has_fragment_bit h.flags) || may_have_fragment_bit h.minor h.kind

abbrev pub if_flags_fit : Head → Option Head
if_flags_fit h = if flags_fit h then Some h else None

-- ---- the header

-- the size, in the byte order that the flags name
abbrev pub size_by : ℕ → Format Why ℕ
size_by flags = in_order (order_of flags) (lifted up (number 4))

-- `GIOP`, the version, the flags, the type, the size
abbrev pub head_fields : Fields Why Head
head_fields =
    mark (magic_byte 71) (mark (magic_byte 73) (mark (magic_byte 79) (mark (magic_byte 80)
    (field version (λ h. h.minor) (λ minor.
    field octet (λ h. h.flags) (λ flags.
    field (kind minor) (λ h. h.kind) (λ kind.
    field (size_by flags) (λ h. h.size) (λ size.
    whole (record { minor = minor; flags = flags; kind = kind; size = size })))))))))

-- a header, whatever its flags
abbrev pub head : Format Why Head
head = struct head_fields

-- a header whose flags fit its type; others are refused at their flags
abbrev pub header : Format Why Head
header = judged_at head (λ place. place + 6) causes.Flags if_flags_fit (λ h. h)

-- the header at the front of these bytes, or what is wrong with it
abbrev pub head_in : List ℕ → Result Head (Fault Why)
head_in bytes = head.read (reader_at Big 0 bytes) >>= λ h. Ok h.0
