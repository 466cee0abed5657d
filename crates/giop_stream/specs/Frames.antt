-- Where a framer stands in its stream, and what it keeps.
use Rattle.std.specs.Prelude.{◌≡◌, ◌≤◌, ◌<◌, ◌+◌, ℕ, List, [], ◌∷◌, ◌++◌, length, Option, Some, None, Result, Ok, Err}
use Rattle.giop_messages.specs.declared.heads.Head.{Head}
use Rattle.giop_stream.specs.declared.faults.StreamFault.{StreamFault}
use Rattle.cdr_codec.specs.Calls.{OnFault}
use Rattle.giop_stream.specs.Faults.{link_fault}
use Rattle.giop_stream.specs.Fronts.{needed, judged_front, IsJudgedAt}
use Rattle.giop_stream.specs.Parts.{Received, Begun}
use Rattle.giop_stream.specs.Streams.{Streamed, Rest, Stops, behind, stops, stream_on, stream}

-- The bytes that were fed and not taken yet, the begun messages, and the fault at which it stopped. Beside these,
-- the number of bytes that were taken and are still kept, and the header at the front where it was judged, which
-- tells how many bytes its message or part needs.
pub record Frames : Type 0 where
  pub rest : List ℕ
  pub begun : List Begun
  pub stopped : Option StreamFault
  pub used : ℕ
  pub head : Option Head

-- So many bytes at least are missing of what has begun at the front, and there is nothing to do before they come.
pub record Lacks (need : ℕ) (f : Frames) : Type 0 where
  pub short : length f.rest + need ≤ needed f.head
  pub settled : f.used ≡ 0
  pub going : f.stopped ≡ None

-- the header that is kept was judged, and where bytes are said to be missing they are
pub record IsKept (need : ℕ) (f : Frames) : Type 0 where
  pub judged : IsJudgedAt f.head f.rest
  pub lacks : 0 < need → Lacks need f

abbrev pub goes_on : Frames → List ℕ → Option StreamFault → Streamed
goes_on f more (Some fault) = stops fault
goes_on f more None = stream_on f.begun (f.rest ++ more)

-- what still comes of the stream, where these bytes follow
abbrev pub resume : Frames → List ℕ → Streamed
resume f more = goes_on f more f.stopped

-- These bytes were fed and these messages given: whatever follows, the whole stream is what was given and
-- what still comes.
pub record Stands (f : Frames) (fed : List ℕ) (given : List Received) : Type 0 where
  pub on : (more : List ℕ) → stream (fed ++ more) ≡ behind given (resume f more)

-- from one place to another, with these messages given between
pub record Passes (f g : Frames) (ms : List Received) : Type 0 where
  pub on : (more : List ℕ) → resume f more ≡ behind ms (resume g more)

-- whatever follows, the stream of what was fed ends with this fault, after these messages
abbrev pub EndsWith : List ℕ → List Received → StreamFault → Type 0
EndsWith fed given fault = (more : List ℕ) → stream (fed ++ more) ≡ record { messages = given; end = Stops fault }

-- What `next` answered, where these bytes were fed and these messages given before: one more message; that
-- there is no further one in what was fed; or the fault with which the stream ends. After want of memory
-- too it stands for the same bytes and messages.
abbrev pub HasNext : Result (Option Received) StreamFault → List ℕ → List Received → Frames → Type 0
HasNext (Ok (Some m)) fed given new = Stands new fed (given ++ m ∷ [])
HasNext (Ok None) fed given new = Stands new fed given × ((n : ℕ) × (stream fed ≡ record { messages = given; end = Rest n }))
HasNext (Err fault) fed given new = Stands new fed given × OnFault (link_fault fault) (EndsWith fed given fault)

-- with a message, fewer bytes are left
abbrev pub Shortens : Result (Option Received) StreamFault → Frames → Frames → Type 0
Shortens (Ok (Some m)) old new = length new.rest < length old.rest
Shortens (Ok None) old new = Unit {0}
Shortens (Err fault) old new = Unit {0}

-- stopped at a fault: nothing else is kept
abbrev pub stopped_at : StreamFault → Frames
stopped_at fault = record { rest = []; begun = []; stopped = Some fault; used = 0; head = None }

-- of a message that was given, a fact
abbrev pub OnGiven : Result (Option Received) StreamFault → (Received → Type 0) → Type 0
OnGiven (Ok (Some m)) P = P m
OnGiven (Ok None) P = Unit {0}
OnGiven (Err fault) P = Unit {0}

-- a piece is kept behind the other bytes, and changes nothing else; of a link at fault nothing is kept
abbrev pub piece_kept : Frames → List ℕ → Option StreamFault → Frames
piece_kept f piece (Some fault) = f
piece_kept f piece None = record f { rest = f.rest ++ piece }

abbrev pub with_piece : Frames → List ℕ → Frames
with_piece f piece = piece_kept f piece f.stopped

-- Of the bytes that were taken no more are kept than are left; none where no further message is whole, and then
-- the header of the begun message or part is judged once and for all. Behind a fault but want of memory nothing is
-- kept, and the fault stays.
abbrev pub Keeps : Result (Option Received) StreamFault → Frames → Type 0
Keeps (Ok (Some m)) new = new.used ≤ length new.rest
Keeps (Ok None) new = (new.stopped ≡ None) × (new.used ≡ 0) × (new.head ≡ judged_front new.rest)
Keeps (Err fault) new = OnFault (link_fault fault) (new ≡ stopped_at fault)
