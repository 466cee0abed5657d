-- What a server serves of a link: its messages before the first that ends the link, and how the link ends.
-- (GIOP chapter, "GIOP Message Transfer": a client sends no replies, and CloseConnection and MessageError end a
-- connection.)
use Rattle.std.specs.Prelude.{◌≡◌, ◌<◌, ℕ, ◌==◌, if◌then◌else◌, List, [], ◌∷◌, ◌++◌, length, Option, Some, None, Result, Ok, Err}
use Rattle.ft_base.specs.declared.memory.NoMemory.{NoMemory}
use Rattle.giop_messages.specs.declared.faults.Why.TheVariants as causes
use Rattle.giop_messages.specs.declared.messages.Message.{Message}
use Rattle.giop_messages.specs.declared.messages.Message.TheVariants as messages
use Rattle.giop_stream.specs.declared.faults.StreamFault.{StreamFault}
use Rattle.giop_stream.specs.declared.faults.StreamFault.TheVariants as faults
use Rattle.giop_stream.specs.declared.sessions.StreamEnd.{StreamEnd}
use Rattle.giop_stream.specs.declared.sessions.StreamEnd.TheVariants.{Closed, Malformed, TooLarge}
use Rattle.giop_stream.specs.declared.sessions.SessionStep.{SessionStep}
use Rattle.giop_stream.specs.declared.sessions.SessionStep.TheVariants as steps
use Rattle.giop_stream.specs.Parts.{Received}
use Rattle.giop_stream.specs.Streams.{End, Rest, Stops, Streamed, stream}
use Rattle.giop_stream.specs.Frames.{Frames, Stands, resume}

-- the end of the link to which this message brings it, if any; a server is sent no replies
abbrev pub end_by : Message → Option StreamEnd
end_by (messages.Request r) = None
end_by (messages.Reply r) = Some (Malformed causes.Kind 7)
end_by (messages.Cancel id) = None
end_by (messages.LocateRequest id key) = None
end_by (messages.LocateReply id status) = Some (Malformed causes.Kind 7)
end_by messages.CloseConnection = Some Closed
end_by messages.MessageError = Some Closed
end_by (messages.Fragment id rest) = None

-- behind the last whole message so many bytes are left: in order where there are none, else cut off
abbrev pub rest_end : ℕ → StreamEnd
rest_end count = if count == 0 then Closed else Malformed causes.Cut count

-- no stream ends for want of memory
abbrev pub fault_end : StreamFault → StreamEnd
fault_end (faults.Malformed why place) = Malformed why place
fault_end (faults.TooLarge size) = TooLarge size
fault_end faults.NoMemory = Closed

abbrev pub stream_end : End → StreamEnd
stream_end (Rest count) = rest_end count
stream_end (Stops fault) = fault_end fault

-- the messages that are served, in order, and the end of the link
pub record Session : Type 0 where
  pub messages : List Received
  pub end : StreamEnd

-- these messages before those of a session
abbrev pub served_before : List Received → Session → Session
served_before ms s = record { messages = ms ++ s.messages; end = s.end }

abbrev pub ends_now : StreamEnd → Session
ends_now end = record { messages = []; end = end }

-- a message ends the session, or is served before the others
abbrev pub unless_ended : Received → Option StreamEnd → Session → Session
unless_ended m None s = served_before (m ∷ []) s
unless_ended m (Some end) s = ends_now end

-- the messages before the first that ends the link; the end where none of them does
unfoldable pub served : List Received → StreamEnd → Session
served [] end = ends_now end
served (m ∷ ms) end = unless_ended m (end_by m.0) (served ms end)

abbrev pub session_of : Streamed → Session
session_of s = served s.messages (stream_end s.end)

-- what a server serves of a link with these bytes
abbrev pub session : List ℕ → Session
session bytes = session_of (stream bytes)

-- ---- a session that is served step by step

-- where its framer stands, and the end, once a message brought it
pub record Serving : Type 0 where
  pub frames : Frames
  pub ended : Option StreamEnd

abbrev pub served_on : Serving → List ℕ → Option StreamEnd → Session
served_on s more (Some end) = ends_now end
served_on s more None = session_of (resume s.frames more)

-- before the end its framer stands for the same bytes and messages
abbrev pub StandsUnlessEnded : Option StreamEnd → Frames → List ℕ → List Received → Type 0
StandsUnlessEnded None f fed given = Stands f fed given
StandsUnlessEnded (Some end) f fed given = Unit {0}

-- These bytes were fed and these messages served: whatever follows, the whole session is what was served and what
-- still comes.
pub record Serves (s : Serving) (fed : List ℕ) (given : List Received) : Type 0 where
  pub on : (more : List ℕ) → session (fed ++ more) ≡ served_before given (served_on s more s.ended)
  pub stands : StandsUnlessEnded s.ended s.frames fed given

-- whatever follows, the session ends so, behind these messages
abbrev pub IsOver : List ℕ → List Received → StreamEnd → Type 0
IsOver fed given end = (more : List ℕ) → session (fed ++ more) ≡ record { messages = given; end = end }

-- these are all messages that are whole in these bytes
abbrev pub AreAll : List ℕ → List Received → Type 0
AreAll fed given = (n : ℕ) × (stream fed ≡ record { messages = given; end = Rest n })

-- What the next step answered, where these bytes were fed and these messages served before. After want of memory
-- too it stands for the same bytes and messages.
abbrev pub Goes : Result SessionStep NoMemory → List ℕ → List Received → Serving → Type 0
Goes (Ok (steps.Serve m)) fed given new = Serves new fed (given ++ m ∷ [])
Goes (Ok steps.Wait) fed given new = Serves new fed given × AreAll fed given
Goes (Ok (steps.End end)) fed given new = Serves new fed given × IsOver fed given end
Goes (Err e) fed given new = Serves new fed given

-- a fault of the link, and not want of memory
abbrev pub IsOfLink : StreamFault → Type 0
IsOfLink (faults.Malformed why place) = Unit {0}
IsOfLink (faults.TooLarge size) = Unit {0}
IsOfLink faults.NoMemory = ⊥

-- a message is served, or ends the link
abbrev pub Takes : SessionStep → Received → Serving → Serving → Type 0
Takes (steps.Serve m) received old new = (m ≡ received) × (end_by received.0 ≡ None) × (new ≡ old)
Takes steps.Wait received old new = ⊥
Takes (steps.End end) received old new = (end_by received.0 ≡ Some end) × (new ≡ record old { ended = Some end })

-- a fault ends the link; want of memory does not
abbrev pub StopsBy : Result SessionStep NoMemory → StreamFault → Serving → Serving → Type 0
StopsBy (Ok (steps.Serve m)) fault old new = ⊥
StopsBy (Ok steps.Wait) fault old new = ⊥
StopsBy (Ok (steps.End end)) fault old new = IsOfLink fault × (end ≡ fault_end fault) × (new ≡ record old { ended = Some end })
StopsBy (Err e) fault old new = new ≡ old

-- with a message, fewer bytes are left
abbrev pub IsShorter : Result SessionStep NoMemory → Serving → Serving → Type 0
IsShorter (Ok (steps.Serve m)) old new = length new.frames.rest < length old.frames.rest
IsShorter (Ok steps.Wait) old new = Unit {0}
IsShorter (Ok (steps.End end)) old new = Unit {0}
IsShorter (Err e) old new = Unit {0}

-- the end stays
abbrev pub StaysEnded : Result SessionStep NoMemory → Serving → Type 0
StaysEnded (Ok (steps.Serve m)) new = new.ended ≡ None
StaysEnded (Ok steps.Wait) new = new.ended ≡ None
StaysEnded (Ok (steps.End end)) new = new.ended ≡ Some end
StaysEnded (Err e) new = new.ended ≡ None
