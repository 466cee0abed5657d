-- The whole stream of a link: the messages in its bytes, in the order in which they become whole, and how
-- it ends.
use Rattle.std.specs.Prelude.{ℕ, zero, suc, ◌+◌, List, [], ◌∷◌, ◌++◌, length, take, drop, sum_by}
use Rattle.giop_stream.specs.declared.faults.StreamFault.{StreamFault}
use Rattle.giop_stream.specs.declared.fronts.Front.{Front}
use Rattle.giop_stream.specs.declared.fronts.Front.TheVariants.{Partly, Wrong, Whole}
use Rattle.giop_stream.specs.Fronts.{total, front}
use Rattle.giop_stream.specs.Parts.{Received, Begun, capped, Turn, Joins, Gives, Fails, turn}

-- so many bytes that belong to no whole message, or the first fault
pub data End : Type 0 where
  Rest : ℕ → End
  Stops : StreamFault → End

pub record Streamed : Type 0 where
  pub messages : List Received
  pub end : End

-- these messages before those of a stream
abbrev pub behind : List Received → Streamed → Streamed
behind ms s = record { messages = ms ++ s.messages; end = s.end }

abbrev pub stops : StreamFault → Streamed
stops fault = record { messages = []; end = Stops fault }

-- the bytes of all parts of the begun messages, with their headers
abbrev pub spent_in : List Begun → ℕ
spent_in os = sum_by (λ (o : Begun). o.spent) os

abbrev pub waits : List Begun → List ℕ → Streamed
waits os bytes = record { messages = []; end = Rest (capped (spent_in os + length bytes)) }

-- after a turn, with what comes of the bytes behind it
abbrev pub turned : Turn → List ℕ → (List Begun → List ℕ → Streamed) → Streamed
turned (Joins os) rest onward = onward os rest
turned (Gives m os) rest onward = behind (m ∷ []) (onward os rest)
turned (Fails fault) rest onward = stops fault

abbrev pub at_front : List Begun → List ℕ → Front → (List Begun → List ℕ → Streamed) → Streamed
at_front os bytes Partly onward = waits os bytes
at_front os bytes (Wrong fault) onward = stops fault
at_front os bytes (Whole h) onward = turned (turn os h (take (total h) bytes)) (drop (total h) bytes) onward

-- of at most so many messages and parts
unfoldable pub stream_in : ℕ → List Begun → List ℕ → Streamed
stream_in zero os bytes = waits os bytes
stream_in (suc n) os bytes = at_front os bytes (front bytes) (stream_in n)

-- what comes of these bytes where these messages are begun
abbrev pub stream_on : List Begun → List ℕ → Streamed
stream_on os bytes = stream_in (length bytes) os bytes

-- what comes of all bytes of a link
abbrev pub stream : List ℕ → Streamed
stream bytes = stream_on [] bytes
