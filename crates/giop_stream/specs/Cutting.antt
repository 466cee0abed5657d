-- A message that is cut into parts, with other messages between them. (GIOP chapter, "Fragment Message".)
use Rattle.std.specs.Prelude.{◌≡◌, ◌<◌, ◌^◌, ℕ, ◌+◌, ◌%◌, Bool, true, false, if◌then◌else◌, List, [], ◌∷◌, ◌++◌, length, flat_map}
use Rattle.cdr_codec.specs.declared.orders.Order.{Order}
use Rattle.cdr_codec.specs.declared.orders.Order.TheVariants.{Big}
use Rattle.cdr_codec.specs.Reading.{digits_in}
use Rattle.cdr_codec.specs.Orders.{order_sign}
use Rattle.giop_messages.specs.declared.heads.Kind.{Kind}
use Rattle.giop_messages.specs.declared.heads.Kind.TheVariants as kinds
use Rattle.giop_messages.specs.declared.heads.Head.{Head}
use Rattle.giop_messages.specs.Heads.{has_parts, header}
use Rattle.giop_messages.specs.Messages.{kind_in}
use Rattle.giop_messages.specs.Writing.{written_payload}
use Rattle.giop_stream.specs.Parts.{Received}
use Rattle.giop_stream.specs.Streams.{Rest, stream}
use Rattle.giop_stream.specs.Written.{IsWritable, written}

-- the header of a part, which only 1.2 has; bit 1 of the flags says that more follow
abbrev pub part_head : Order → Kind → Bool → ℕ → Head
part_head order kind more size = record { minor = 2; flags = order_sign order + (if more then 2 else 0); kind = kind; size = size }

abbrev pub part : Order → Kind → Bool → List ℕ → List ℕ
part order kind more payload = header.written Big 0 (part_head order kind more (length payload)) ++ payload

-- a fragment repeats the request id
abbrev pub fragment_of : Order → ℕ → Bool → List ℕ → List ℕ
fragment_of order id more rest = part order kinds.Fragment more (digits_in order 4 id ++ rest)

-- what is sent between the first part and the last: a further fragment, or another message
pub data Sent : Type 0 where
  Further : List ℕ → Sent
  Other : Received → Sent

abbrev pub sent_bytes : Order → ℕ → Sent → List ℕ
sent_bytes order id (Further rest) = fragment_of order id true rest
sent_bytes order id (Other m) = written m

abbrev pub rest_in : Sent → List ℕ
rest_in (Further rest) = rest
rest_in (Other m) = []

abbrev pub other_in : Sent → List Received
other_in (Further rest) = []
other_in (Other m) = m ∷ []

-- each part but the last has a length that is a multiple of 8
abbrev pub IsSent : Sent → Type 0
IsSent (Further rest) = length rest % 8 ≡ 0
IsSent (Other m) = IsWritable m

abbrev pub AreSent : List Sent → Type 0
AreSent [] = Unit {0}
AreSent (s ∷ sent) = IsSent s × AreSent sent

-- The message is cut behind its request id into a first part, further ones and a last one.
pub record IsCut (m : Received) (id : ℕ) (first : List ℕ) (sent : List Sent) (last : List ℕ) : Type 0 where
  pub of_1_2 : m.1.minor ≡ 2
  pub writable : IsWritable m
  pub parts : has_parts (kind_in m.0) ≡ true
  pub id_fits : id < 2 ^ 32
  pub is : written_payload m.1 m.0 ≡ (digits_in m.1.order 4 id ++ first) ++ (flat_map rest_in sent ++ last)
  pub first_fits : length first % 8 ≡ 0
  pub each : AreSent sent

-- A message that is cut into parts streams as the whole one where its last part ends, behind the messages that
-- stand between the parts.
abbrev pub CutAreJoined : Type 0
CutAreJoined = (m : Received) (id : ℕ) (first : List ℕ) (sent : List Sent) (last : List ℕ) → IsCut m id first sent last
    → stream (part m.1.order (kind_in m.0) true (digits_in m.1.order 4 id ++ first) ++ (flat_map (sent_bytes m.1.order id) sent ++ fragment_of m.1.order id false last))
    ≡ record { messages = flat_map other_in sent ++ m ∷ []; end = Rest 0 }
