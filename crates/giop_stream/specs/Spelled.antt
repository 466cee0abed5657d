-- What a stream gives is spelled by few bytes.
use Rattle.std.specs.Prelude.{◌≤◌, ℕ, List, [], ◌∷◌, length, Result, Ok, Err}
use Rattle.std.specs.List.{AllByRecursion}
use Rattle.ft_base.specs.declared.memory.NoMemory.{NoMemory}
use Rattle.giop_messages.specs.declared.heads.TheConstants.{MESSAGE_LIMIT}
use Rattle.giop_messages.specs.Messages.{Spells}
use Rattle.giop_stream.specs.declared.sessions.SessionStep.{SessionStep}
use Rattle.giop_stream.specs.declared.sessions.SessionStep.TheVariants as steps
use Rattle.giop_stream.specs.Parts.{Received}
use Rattle.giop_stream.specs.Streams.{stream}
use Rattle.giop_stream.specs.Frames.{Frames, Passes}

-- some bytes, of at most 1 MiB, spell the message in its form
pub record IsSpelled (m : Received) : Type 0 where
  pub bytes : List ℕ
  pub small : length bytes ≤ MESSAGE_LIMIT
  pub spelled : Spells bytes m.1 m.0

-- each message of a stream is spelled
abbrev pub StreamsAreSpelled : Type 0
StreamsAreSpelled = (bytes : List ℕ) → AllByRecursion IsSpelled (stream bytes).messages

-- a message that a framer gives from one place to another is spelled
abbrev pub GivenIsSpelled : Type 0
GivenIsSpelled = (f g : Frames) (m : Received) → Passes f g (m ∷ []) → IsSpelled m

-- of a message that was given or is to be served, a fact
abbrev pub OnServed : Result SessionStep NoMemory → (Received → Type 0) → Type 0
OnServed (Ok (steps.Serve m)) P = P m
OnServed (Ok steps.Wait) P = Unit {0}
OnServed (Ok (steps.End end)) P = Unit {0}
OnServed (Err e) P = Unit {0}
