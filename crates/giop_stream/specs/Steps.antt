-- What the steps of `next` do.
use Rattle.std.specs.Prelude.{◌≡◌, ◌<◌, ◌≤◌, [], ◌∷◌, length, take, drop, Option, Some, None, Result, Ok, Err}
use Rattle.giop_messages.specs.declared.heads.Head.{Head}
use Rattle.giop_stream.specs.declared.faults.StreamFault.{StreamFault}
use Rattle.giop_stream.specs.declared.faults.StreamFault.TheVariants as faults
use Rattle.giop_stream.specs.declared.framers.Step.{Step}
use Rattle.giop_stream.specs.declared.framers.Step.TheVariants as steps
use Rattle.giop_stream.specs.declared.fronts.Front.TheVariants.{Partly}
use Rattle.cdr_codec.specs.Calls.{OnFault}
use Rattle.giop_stream.specs.Faults.{link_fault}
use Rattle.giop_stream.specs.Fronts.{total, front, judged_front}
use Rattle.giop_stream.specs.Parts.{Received, Joins, Gives, Fails, turn}
use Rattle.giop_stream.specs.Frames.{Frames, Passes, stopped_at}

-- stopped at a fault; want of memory stops nothing
abbrev pub stop_at : Frames → StreamFault → Frames
stop_at f (faults.Malformed why place) = stopped_at (faults.Malformed why place)
stop_at f (faults.TooLarge size) = stopped_at (faults.TooLarge size)
stop_at f faults.NoMemory = f

-- the header at the front was judged
abbrev pub looked : Frames → Frames
looked f = record f { head = judged_front f.rest }

-- no whole message or part is at the front: of what was taken nothing is kept
abbrev pub waiting : Frames → Frames
waiting f = record f { used = 0; head = judged_front f.rest }

-- the whole message or part at the front was taken; after a fault nothing has changed
abbrev pub Took : Result (Option Received) StreamFault → Frames → Head → Frames → Type 0
Took (Ok None) f h g =
    (turn f.begun h (take (total h) f.rest) ≡ Joins g.begun) × (g.rest ≡ drop (total h) f.rest) × (g.stopped ≡ f.stopped)
Took (Ok (Some m)) f h g =
    (turn f.begun h (take (total h) f.rest) ≡ Gives m g.begun) × (g.rest ≡ drop (total h) f.rest) × (g.stopped ≡ f.stopped) × (g.used ≤ length g.rest)
Took (Err fault) f h g = (g ≡ f) × OnFault (link_fault fault) (turn f.begun h (take (total h) f.rest) ≡ Fails fault)

abbrev pub IsLess : Frames → Frames → Type 0
IsLess g f = length g.rest < length f.rest

abbrev pub Stepped : Result Step StreamFault → Frames → Frames → Type 0
Stepped (Ok steps.Waits) f g = (g ≡ waiting f) × (front f.rest ≡ Partly)
Stepped (Ok steps.Joins) f g = Passes f g [] × (g.stopped ≡ None) × IsLess g f
Stepped (Ok (steps.Gives m)) f g = Passes f g (m ∷ []) × IsLess g f × (g.used ≤ length g.rest)
Stepped (Err fault) f g = Passes f g [] × OnFault (link_fault fault) (g ≡ stopped_at fault)

-- bytes are missing of what is begun at the front, and nothing is to be done
pub record Needs (f : Frames) : Type 0 where
  pub partly : front f.rest ≡ Partly
  pub settled : f.used ≡ 0
  pub judged : f.head ≡ judged_front f.rest
  pub going : f.stopped ≡ None

abbrev pub IsWaiting : Frames → Type 0
IsWaiting g = (g.stopped ≡ None) × (g.used ≡ 0) × (g.head ≡ judged_front g.rest)

-- as far as the next message, if one is whole
abbrev pub Advances : Result (Option Received) StreamFault → Frames → Frames → Type 0
Advances (Ok (Some m)) f g = Passes f g (m ∷ []) × IsLess g f × (g.used ≤ length g.rest)
Advances (Ok None) f g = Passes f g [] × (front g.rest ≡ Partly) × IsWaiting g
Advances (Err fault) f g = Passes f g [] × OnFault (link_fault fault) (g ≡ stopped_at fault)
