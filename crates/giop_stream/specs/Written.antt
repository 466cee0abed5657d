-- Messages that are written back to back, as a stream.
use Rattle.std.specs.Prelude.{◌≡◌, ℕ, List, false, flat_map}
use Rattle.std.specs.List.{AllByRecursion}
use Rattle.giop_messages.specs.Messages.{kind_in}
use Rattle.giop_messages.specs.Writing.{IsNumbered, Writable, written_message}
use Rattle.giop_stream.specs.Parts.{Received, is_fragment}
use Rattle.giop_stream.specs.Streams.{Rest, stream}

-- a message that can be written, and is whole by itself
pub record IsWritable (m : Received) : Type 0 where
  pub numbered : IsNumbered m.0
  pub writable : Writable m.0 m.1
  pub whole : is_fragment (kind_in m.0) ≡ false

abbrev pub written : Received → List ℕ
written m = written_message m.0 m.1

-- messages that can be written, back to back, are the messages of their stream, and nothing is left
abbrev pub WrittenAreStreamed : Type 0
WrittenAreStreamed = (ms : List Received) → AllByRecursion IsWritable ms → stream (flat_map written ms) ≡ record { messages = ms; end = Rest 0 }
