-- How a link is left, where its session has ended.
use Rattle.std.specs.Prelude.{◌≡◌, ℕ, Bool, true, false, List, Option}
use Rattle.ft_outside.specs.Outside.{next_count}
use Rattle.giop_stream.specs.declared.sessions.StreamEnd.{StreamEnd}
use Rattle.giop_stream.specs.declared.sessions.StreamEnd.TheVariants as stream_ends
use Rattle.link_serving.specs.declared.ends.Ended.{Ended}
use Rattle.link_serving.specs.declared.ends.Ended.TheVariants as ends
use Rattle.link_serving.specs.Wires.{Gained, GainedFront, Wire}
use Rattle.link_session.specs.Serving.{bytes_of}

abbrev pub ended_by : StreamEnd → Ended
ended_by stream_ends.Closed = ends.Closed
ended_by (stream_ends.Malformed why place) = ends.Malformed why place
ended_by (stream_ends.TooLarge size) = ends.TooLarge size

abbrev pub is_closed : Ended → Bool
is_closed ends.Closed = true
is_closed (ends.Malformed why place) = false
is_closed (ends.TooLarge size) = false
is_closed ends.ReadFault = false
is_closed ends.WriteFault = false
is_closed ends.Down = false
is_closed ends.NoMemory = false

-- the session has ended so, and what is owed for that is written, as far as that went
pub data HasEnded (error : Option (List ℕ)) (end : StreamEnd) (w v : Wire) (ended : Ended) : Type 0 where
  in_order : ended ≡ ended_by end → Gained (bytes_of error) w v → v.faults ≡ w.faults → v.left ≡ w.left → HasEnded error end w v ended
  not_written : ended ≡ ends.WriteFault → GainedFront (bytes_of error) w v → v.faults ≡ next_count w.faults → v.left ≡ w.left → HasEnded error end w v ended
  no_memory : ended ≡ ends.NoMemory → v ≡ w → HasEnded error end w v ended
