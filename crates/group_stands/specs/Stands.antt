-- When the pictures of a group's log and of a host's replica stand for the plain group: they have each state
-- and each reply that the plain group computes from its journal, though the log has cut the journal's front.
-- (Chapter 23, "Logging & Recovery Management".) `machines` gives each kind of servant its function.
use Rattle.std.specs.Prelude.{◌≡◌, ℕ, ◌≤◌, true, nat_lt, Bool, if◌then◌else◌, List, length, slice_get, Option, Some, None}
use Rattle.ft_base.specs.Machine.{Machine}
use Rattle.ft_base.specs.Journal.{Entry, reply_at}
use Rattle.ft_base.specs.declared.requests.Outcome.{Outcome}
use Rattle.reply_table.specs.declared.entries.Retained.{Retained}
use Rattle.message_log.specs.Picture.{Picture as LogPicture, views_of}
use Rattle.message_log.specs.Standing.{StandsFor}
use Rattle.ft_replica.specs.Picture.{Picture as ReplicaPicture}
use Rattle.group_model.specs.Plain.{Common, Place, state_at}
use Rattle.group_model.specs.Agreeing.{IsSoundCommon}
use Rattle.group_model.specs.Views.{kept_views}

-- ---- the log

-- the one reply of an entry, once some host has run it
abbrev pub reply_once_run : Machine → List ℕ → List Entry → ℕ → ℕ → Option Outcome
reply_once_run m opening journal ran i = if nat_lt i ran then Some (reply_at m opening journal i) else None

-- a retained entry has its reply exactly where it was run, and it is the journal's
abbrev pub AreAnswered : Machine → List ℕ → List Entry → ℕ → List Retained → Type 0
AreAnswered m opening journal ran table =
    (n : ℕ) (r : Retained) → slice_get table n ≡ Some r → r.reply ≡ reply_once_run m opening journal ran r.position

-- the state of the newest checkpoint, where one was taken: that after the entries that it covers
abbrev pub state_taken : Machine → Common → Bool → Option (List ℕ)
state_taken m c taken = if taken then Some (state_at m c c.mark) else None

-- The log's picture stands for what the hosts of a sound group share: its mark and time, and the views that it still has; its entries
-- are the journal's from the mark on, and it has retained what a repeat asks for, with the replies of what
-- was run; its state is the checkpoint's. Its records, its plan, its faults and what is reserved don't count.
pub record LogStands (machines : ℕ → Machine) (c : Common) (log : LogPicture) : Type 0 where
  pub views : views_of log ≡ kept_views c
  pub mark : log.mark ≡ c.mark
  pub time : log.time ≡ c.time
  pub journal : StandsFor c.journal log
  pub state : log.state ≡ state_taken (machines c.kind) c c.taken
  pub replies : AreAnswered (machines c.kind) c.opening c.journal c.ran log.table
  pub sound : IsSoundCommon (machines c.kind) c

-- ---- a replica

-- The replica's picture stands for a host's place: it is of the group's kind, where its place says; loaded, its
-- state is that after the entries before its position, and its copy's that after those before its base. A
-- host has run no more than has been run. A blank host's place is `nowhere`, and its replica is blank.
pub record ReplicaStands (machines : ℕ → Machine) (c : Common) (replica : ReplicaPicture) (place : Place) : Type 0 where
  pub kind : replica.kind ≡ c.kind
  pub loaded : replica.loaded ≡ place.loaded
  pub position : replica.position ≡ place.position
  pub base : replica.base ≡ place.base
  pub state : place.loaded ≡ true → replica.state ≡ state_at (machines c.kind) c place.position
  pub copied : place.loaded ≡ true → replica.copied ≡ state_at (machines c.kind) c place.base
  pub order : place.base ≤ place.position
  pub ran : place.position ≤ c.ran

-- A servant of this kind in this state is one with which the group was made.
pub record OpeningStands (c : Common) (its_kind : ℕ) (its_state : List ℕ) : Type 0 where
  pub kind : its_kind ≡ c.kind
  pub state : its_state ≡ c.opening

-- The host's replica is loaded and has run the whole journal.
pub record IsCaughtUp (c : Common) (place : Place) : Type 0 where
  pub loaded : place.loaded ≡ true
  pub end : place.position ≡ length c.journal
