-- Hosts of a running group, and what the group's history has of them.
use Rattle.std.specs.Prelude.{◌≡◌, ◌++◌, ℕ, ◌<◌, ◌≤◌, List, [], ◌∷◌, Option, Some, None, Result, Ok, Err}
use Rattle.std.specs.List.{AllByRecursion}
use Rattle.ft_outside.specs.Outside.{next_count}
use Rattle.hist_lock.specs.Histories.{Among, Continues, turns_by}
use Rattle.hist_lock.specs.Passes.{IsOf, numbers, own_turns}
use Rattle.shared_group.specs.Turns.{GroupPass, SharedValue}
use Rattle.shared_port.specs.Turns.{GroupTurn, IsCallAt, Moves}
use Rattle.live_hosts.specs.declared.starts.StartFault.{StartFault}
use Rattle.live_hosts.specs.declared.starts.StartFault.TheVariants as faults

-- where a host is posted: its number, its group, and the pass that it is given
pub record Post : Type 0 where
  pub host : ℕ
  pub group : SharedValue
  pub pass : GroupPass

-- ---- starts

-- the host serves this group, and its pass has had no turn
pub record IsPosted (group : SharedValue) (post : Post) : Type 0 where
  pub serves : post.group ≡ group
  pub own : IsOf group.lock post.pass
  pub fresh : own_turns post.pass ≡ []

-- each number is greater than the one before it
unfoldable pub Rises : ℕ → List ℕ → Type 0
Rises before [] = Unit {0}
Rises before (n ∷ ns) = (before < n) × Rises n ns

-- a pass is as it was, but for the numbers and the parts that it has handed out
pub record HandsOut (old new : GroupPass) : Type 0 where
  pub same : new ≡ record old { stride = new.stride; parts = new.parts }
  pub strides : old.stride ≤ new.stride

abbrev pub started_by : {A : Type 0} → Result A StartFault → Option StartFault
started_by (Ok started) = None
started_by (Err fault) = Some fault

-- the crew's faults: a refusal is one
abbrev pub after_starts : Option StartFault → ℕ → ℕ
after_starts None count = count
after_starts (Some faults.Refused) count = next_count count
after_starts (Some faults.NoMemory) count = count

-- ---- ends

-- a pass is the one that it was, and has seen more; it has had no turn, and has what it took in
pub record HasSeenMore (old new : GroupPass) : Type 0 where
  pub number : new.number ≡ old.number
  pub stride : new.stride ≡ old.stride
  pub seen : Continues (numbers old) old.seen new.seen
  pub joined : (x : ℕ) → Among x old.joined → Among x new.joined

-- What a history has of a host that has ended: it goes on from what the host's pass had seen in the end, and under the number
-- of that pass it has the host's turns alone, all of which are requests and looks at the host.
pub record HasTurnsOf (post : Post) (history : List GroupTurn) : Type 0 where
  pub gone : GroupPass
  pub moves : Moves post.host post.pass gone
  pub rest : List GroupTurn
  pub seen : history ≡ gone.seen ++ rest
  pub turns : turns_by post.pass.number history ≡ own_turns gone
  pub calls : AllByRecursion (λ turn. IsCallAt post.host turn.event) (turns_by post.pass.number history)

-- a host's pass was taken in, and its turns are in what was seen
pub record HasEnded (post : Post) (main : GroupPass) : Type 0 where
  pub joined : Among post.pass.number main.joined
  pub has : HasTurnsOf post main.seen
