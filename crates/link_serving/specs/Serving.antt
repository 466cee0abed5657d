-- A link to a host, and what is made of it.
use Rattle.std.specs.Prelude.{◌≡◌, ℕ, ◌⊎◌, false, if◌then◌else◌, List, [], ◌∷◌, ◌++◌, Option, Some, None}
use Rattle.ft_outside.specs.Outside.{next_count}
use Rattle.giop_stream.specs.declared.sessions.StreamEnd.{StreamEnd}
use Rattle.giop_stream.specs.declared.sessions.StreamEnd.TheVariants as stream_ends
use Rattle.giop_stream.specs.Parts.{Received}
use Rattle.giop_stream.specs.Sessions.{AreAll, Serving, Session, ends_now, served_before, session}
use Rattle.link_session.specs.Calls.{calling_of}
use Rattle.link_session.specs.Exchanges.{Exchanging}
use Rattle.link_session.specs.Loops as loops
use Rattle.link_session.specs.Ports.{end_error}
use Rattle.link_session.specs.Serving as messages
use Rattle.link_session.specs.Serving.{IsAnswered, IsDown, IsShort, Meets, bytes_of}
use Rattle.link_serving.specs.declared.ends.Ended.{Ended}
use Rattle.link_serving.specs.declared.ends.Ended.TheVariants as ends
use Rattle.link_serving.specs.declared.serving.Visit.{Visit}
use Rattle.link_serving.specs.Ends.{is_closed}
use Rattle.link_serving.specs.Fronts.{is_closed_first}
use Rattle.link_serving.specs.Wires.{Gained, GainedFront, Lost, Wire}

-- what is to be written at the end of a session: the answers to its messages, or these and what is owed for its end
abbrev pub IsOwed : Session → List ℕ → List ℕ → Type 0
IsOwed more written text = (text ≡ written) ⊎ ((end : StreamEnd) × (more ≡ ends_now end) × (text ≡ written ++ bytes_of (end_error end)))

module _ {P : Type 0} (exchanges : Exchanging P) (host : ℕ) where
  -- ---- how a link is left

  -- the session ends so behind what was served, and all is written
  abbrev pub EndsBy : StreamEnd → Session → List ℕ → P → P → Wire → Wire → Type 0
  EndsBy end more written at now w v =
      (more ≡ ends_now end) × (now ≡ at) × Gained (written ++ bytes_of (end_error end)) w v × (v.faults ≡ w.faults)

  -- memory was wanted between messages, or at the next one
  abbrev pub IsCutShort : Session → P → P → Type 0
  IsCutShort more at now =
      (now ≡ at) ⊎ ((m : Received) × (rest : Session) × (more ≡ served_before (m ∷ []) rest) × IsShort exchanges host (calling_of m.0) at now)

  -- How a link is left. `more` is what the session of the bytes that were read has behind the messages that were
  -- served; `all` says that no further message is whole in them.
  abbrev pub Leaves : Ended → Session → Type 0 → List ℕ → P → P → Wire → Wire → Type 0
  Leaves ends.Closed more all written at now w v = EndsBy stream_ends.Closed more written at now w v
  Leaves (ends.Malformed why place) more all written at now w v = EndsBy (stream_ends.Malformed why place) more written at now w v
  Leaves (ends.TooLarge size) more all written at now w v = EndsBy (stream_ends.TooLarge size) more written at now w v
  Leaves ends.ReadFault more all written at now w v = all × (now ≡ at) × Gained written w v × (v.faults ≡ next_count w.faults)
  Leaves ends.WriteFault more all written at now w v =
      (text : List ℕ) × IsOwed more written text × GainedFront text w v × (now ≡ at) × (v.faults ≡ next_count w.faults)
  Leaves ends.Down more all written at now w v =
      (m : Received) × (rest : Session) × (more ≡ served_before (m ∷ []) rest) × IsDown exchanges host (calling_of m.0) at now
      × Gained written w v × (v.faults ≡ w.faults)
  Leaves ends.NoMemory more all written at now w v = IsCutShort more at now × Gained written w v × (v.faults ≡ w.faults)

  -- A link was served of which these bytes were read: of their session these messages were answered by these bytes and
  -- by the turns that led from the old pass to `at`; and the link was left so.
  pub record IsServed (fed : List ℕ) (p : P) (w : Wire) (q : P) (v : Wire) (ended : Ended) : Type 0 where
    pub given : List Received
    pub more : Session
    pub is : session fed ≡ served_before given more
    pub at : P
    pub written : List ℕ
    pub served : messages.IsServed exchanges host given p at written
    pub read : Lost fed w v
    pub leaves : Leaves ended more (AreAll fed given) written at q w v

  pub record IsServedLink (p : P) (w : Wire) (q : P) (v : Wire) (ended : Ended) : Type 0 where
    pub fed : List ℕ
    pub served : IsServed fed p w q v ended

  -- it is also told whether its first message was CloseConnection
  pub record IsVisited (p : P) (w : Wire) (q : P) (v : Wire) (visit : Visit) : Type 0 where
    pub fed : List ℕ
    pub served : IsServed fed p w q v visit.ended
    pub farewell : visit.is_farewell ≡ (if is_closed visit.ended then is_closed_first fed else false)

  -- ---- on the way

  -- a message was answered; or the link is left at it
  abbrev pub Took : Received → P → P → Wire → Wire → Option Ended → Type 0
  Took m p q w v None =
      (b : Option (List ℕ)) × IsAnswered exchanges host m.1 (calling_of m.0) p q b × Gained (bytes_of b) w v × (v.faults ≡ w.faults) × (v.left ≡ w.left)
  Took m p q w v (Some ends.Closed) = ⊥
  Took m p q w v (Some (ends.Malformed why place)) = ⊥
  Took m p q w v (Some (ends.TooLarge size)) = ⊥
  Took m p q w v (Some ends.ReadFault) = ⊥
  Took m p q w v (Some ends.WriteFault) =
      (b : List ℕ) × IsAnswered exchanges host m.1 (calling_of m.0) p q (Some b) × GainedFront b w v × (v.faults ≡ next_count w.faults) × (v.left ≡ w.left)
  Took m p q w v (Some ends.Down) = IsDown exchanges host (calling_of m.0) p q × (v ≡ w)
  Took m p q w v (Some ends.NoMemory) = IsShort exchanges host (calling_of m.0) p q × (v ≡ w)

  -- between two messages: what was given so far is answered
  pub record IsAmid (fed : List ℕ) (p : P) (w : Wire) (q : P) (v : Wire) (s : Serving) : Type 0 where
    pub written : List ℕ
    pub amid : loops.IsAmid (Meets exchanges host) (p, []) fed s (q, written)
    pub read : Lost fed w v
    pub wrote : Gained written w v
    pub calm : v.faults ≡ w.faults

  -- the same, and no further message is whole
  pub record IsWaiting (fed : List ℕ) (p : P) (w : Wire) (q : P) (v : Wire) (s : Serving) : Type 0 where
    pub so_far : IsAmid fed p w q v s
    pub all : AreAll fed so_far.amid.given
