-- Messages that are begun, and what a whole message or part does to them. (GIOP chapter, "Fragment Message".)
use Rattle.std.specs.Prelude.{◌≡◌, ℕ, ◌+◌, ◌==◌, nat_lt, if◌then◌else◌, Bool, true, false, List, [], ◌∷◌, ◌++◌, length, drop, remove, min, position, is_some, slice_get, slice_set, Option, Some, None, Result, Ok, Err}
use Rattle.cdr_codec.specs.declared.orders.Order.{Order}
use Rattle.cdr_codec.specs.Reading.{reader_at, ◌>>=◌}
use Rattle.giop_messages.specs.declared.faults.Why.TheVariants as causes
use Rattle.giop_messages.specs.declared.forms.Form.{Form}
use Rattle.giop_messages.specs.declared.heads.Head.{Head}
use Rattle.giop_messages.specs.declared.heads.Kind.{Kind}
use Rattle.giop_messages.specs.declared.heads.Kind.TheVariants as kinds
use Rattle.giop_messages.specs.declared.messages.Message.{Message}
use Rattle.giop_messages.specs.Heads.{more_in}
use Rattle.giop_messages.specs.declared.heads.TheConstants.{HEAD_LENGTH, MESSAGE_LIMIT}
use Rattle.cdr_codec.specs.Orders.{order_of}
use Rattle.giop_messages.specs.Fields.{request_id}
use Rattle.giop_messages.specs.Messages.{fields_in}
use Rattle.giop_stream.specs.declared.begun.TheConstants.{BEGUN_LIMIT, FRAGMENT_HEAD}
use Rattle.giop_stream.specs.declared.faults.StreamFault.{StreamFault}
use Rattle.giop_stream.specs.declared.faults.StreamFault.TheVariants as faults
use Rattle.cdr_codec.specs.Calls.{OnFault}
use Rattle.giop_stream.specs.Faults.{told, link_fault}

-- a message and its form
abbrev pub Received : Type 0
Received = Message × Form

-- The message of this header whose fields these bytes are, or what is wrong with it. Of the header its type
-- and form count.
unfoldable pub message_of : Head → List ℕ → Result Received StreamFault
message_of h payload = told (fields_in h payload)

-- the request id of a part, in the part's own byte order; it stands right behind the header
unfoldable pub id_in : Order → List ℕ → Result ℕ StreamFault
id_in order part = told (request_id.read (reader_at order HEAD_LENGTH (drop HEAD_LENGTH part)) >>= λ id. Ok id.0)

-- ---- begun messages

-- A message whose last fragment has not come: its request id, the header of its first part, what stands behind
-- that with the rests of the fragments so far, and the number of bytes of all these parts with their headers.
pub record Begun : Type 0 where
  pub id : ℕ
  pub head : Head
  pub payload : List ℕ
  pub spent : ℕ

-- the most messages that are begun at once
abbrev pub begun_limit : ℕ
begun_limit = BEGUN_LIMIT

-- a number of bytes, as far as it is counted
abbrev pub capped : ℕ → ℕ
capped n = min n 4294967295

-- where the message with this id stands among the begun ones
abbrev pub place_of : ℕ → List Begun → Option ℕ
place_of id os = position (λ (o : Begun). o.id == id) os

-- with the rest of one more fragment; its header and id are 16 bytes
abbrev pub grown : Begun → List ℕ → Begun
grown o rest = record { id = o.id; head = o.head; payload = o.payload ++ rest; spent = capped (o.spent + (FRAGMENT_HEAD + length rest)) }

-- the number of bytes of the joined message, with its header, where this rest comes behind a begun one
abbrev pub joined_size : Begun → List ℕ → ℕ
joined_size o rest = HEAD_LENGTH + length o.payload + length rest

-- ---- what a whole message or part does

-- the begun messages after it, and the message that it makes whole, if any; or its fault
pub data Turn : Type 0 where
  Joins : List Begun → Turn
  Gives : Received → List Begun → Turn
  Fails : StreamFault → Turn

-- a part out of turn
abbrev pub out_of_turn : Turn
out_of_turn = Fails (faults.Malformed causes.Open HEAD_LENGTH)

abbrev pub gave : List Begun → Result Received StreamFault → Turn
gave os (Ok m) = Gives m os
gave os (Err fault) = Fails fault

-- a first part: its id may not be begun, nor may eight others
abbrev pub opens : List Begun → Head → List ℕ → ℕ → Turn
opens os h part id =
    if is_some (place_of id os) then out_of_turn
    else (if nat_lt (length os) begun_limit then Joins (os ++ record { id = id; head = h; payload = drop HEAD_LENGTH part; spent = length part } ∷ [])
    else out_of_turn)

abbrev pub begins_by : List Begun → Head → List ℕ → Result ℕ StreamFault → Turn
begins_by os h part (Ok id) = opens os h part id
begins_by os h part (Err fault) = Fails fault

abbrev pub begins : List Begun → Head → List ℕ → Turn
begins os h part = begins_by os h part (id_in (order_of h.flags) part)

-- The last fragment's rest, behind the begun message that stands there: the first part's message, with the rests
-- of its fragments appended.
abbrev pub completes : List Begun → ℕ → Begun → List ℕ → Turn
completes os at o rest = gave (remove os at) (message_of o.head (o.payload ++ rest))

-- a fragment's rest, behind the begun message that stands there
abbrev pub grows_at : List Begun → ℕ → Bool → List ℕ → Option Begun → Turn
grows_at os at more rest None = out_of_turn
grows_at os at more rest (Some o) =
    if nat_lt MESSAGE_LIMIT (joined_size o rest) then Fails (faults.TooLarge (joined_size o rest))
    else (if more then Joins (slice_set os at (grown o rest))
    else completes os at o rest)

abbrev pub fragment_at : List Begun → Bool → List ℕ → Option ℕ → Turn
fragment_at os more rest None = out_of_turn
fragment_at os more rest (Some at) = grows_at os at more rest (slice_get os at)

abbrev pub fragment_by : List Begun → Bool → List ℕ → Result ℕ StreamFault → Turn
fragment_by os more part (Ok id) = fragment_at os more (drop FRAGMENT_HEAD part) (place_of id os)
fragment_by os more part (Err fault) = Fails fault

abbrev pub fragment : List Begun → Head → List ℕ → Turn
fragment os h part = fragment_by os (more_in h) part (id_in (order_of h.flags) part)

abbrev pub is_fragment : Kind → Bool
is_fragment kinds.Request = false
is_fragment kinds.Reply = false
is_fragment kinds.CancelRequest = false
is_fragment kinds.LocateRequest = false
is_fragment kinds.LocateReply = false
is_fragment kinds.CloseConnection = false
is_fragment kinds.MessageError = false
is_fragment kinds.Fragment = true

-- a fragment, a first part with more to follow, or a message of its own
unfoldable pub turn : List Begun → Head → List ℕ → Turn
turn os h part =
    if is_fragment h.kind then fragment os h part
    else (if more_in h then begins os h part else gave os (message_of h (drop HEAD_LENGTH part)))

-- ---- what a call did

-- The call did this turn. After a fault the begun messages are as they were; nothing else is said of want
-- of memory.
abbrev pub Turned : Result (Option Received) StreamFault → List Begun → Turn → List Begun → Type 0
Turned (Ok None) old t new = t ≡ Joins new
Turned (Ok (Some m)) old t new = t ≡ Gives m new
Turned (Err fault) old t new = (new ≡ old) × OnFault (link_fault fault) (t ≡ Fails fault)
