-- What a turn at a group behind a lock tells, and what is left when the lock is closed.
use Rattle.std.specs.Prelude.{◌≡◌, ◌++◌, ℕ, List, [], ◌∷◌, Option, Some, None}
use Rattle.ft_base.specs.Machine.{Machine}
use Rattle.group_model.specs.declared.events.GroupAnswer.{GroupAnswer}
use Rattle.group_model.specs.Agreeing.{IsSound}
use Rattle.group_model.specs.Plain.{Group}
use Rattle.group_core.specs.Cores.{Stands}
use Rattle.hist_lock.specs.declared.standings.Turn.{Turn}
use Rattle.hist_lock.specs.Histories.{Continues, IsLegal, calls, turn_by}
use Rattle.hist_lock.specs.Passes.{IsOf, IsTurn, LockValue, PassValue, numbers, own_turns}
use Rattle.ft_base.specs.declared.numbers.GroupId.{GroupId}
use Rattle.shared_group.specs.declared.calls.Call.{Call}
use Rattle.shared_group.specs.declared.calls.CallAnswer.{CallAnswer}
use Rattle.shared_group.specs.declared.calls.CallAnswer.TheVariants as told
use Rattle.shared_group.specs.declared.calls.QueuedAnswer.{QueuedAnswer}
use Rattle.shared_group.specs.Books.{BookPicture, IsBook}
use Rattle.shared_group.specs.Shared.{Legal, Shared, Steps, opening}

abbrev pub GroupLock : Type 0
GroupLock = LockValue BookPicture

abbrev pub GroupPass : Type 0
GroupPass = PassValue BookPicture Call CallAnswer

-- a group behind its lock, and what the references of its views are made of: its number, its type id, and each host's port
pub record SharedValue : Type 0 where
  pub lock : GroupLock
  pub group : GroupId
  pub type_id : List ℕ
  pub ports : List ℕ

-- ---- what is answered

abbrev pub IsEvent : CallAnswer → Type 0
IsEvent (told.Event of) = Unit {0}
IsEvent other = ⊥

abbrev pub IsAsk : CallAnswer → Type 0
IsAsk (told.Ask of) = Unit {0}
IsAsk other = ⊥

abbrev pub IsCarry : CallAnswer → Type 0
IsCarry (told.Event of) = Unit {0}
IsCarry told.Nothing = Unit {0}
IsCarry other = ⊥

abbrev pub IsCheckpoint : CallAnswer → Type 0
IsCheckpoint (told.Checkpoint of) = Unit {0}
IsCheckpoint told.Nothing = Unit {0}
IsCheckpoint other = ⊥

abbrev pub IsHere : CallAnswer → Type 0
IsHere (told.Here here) = Unit {0}
IsHere other = ⊥

abbrev pub AreFiguresOf : CallAnswer → Type 0
AreFiguresOf (told.Figures of) = Unit {0}
AreFiguresOf other = ⊥

abbrev pub IsReplyOf : CallAnswer → Type 0
IsReplyOf (told.Reply of) = Unit {0}
IsReplyOf other = ⊥

-- what stands in the history where there was something to carry, or not
abbrev pub carry_told : Option GroupAnswer → CallAnswer
carry_told None = told.Nothing
carry_told (Some of) = told.Event of

-- the same of a checkpoint
abbrev pub checkpoint_told : Option QueuedAnswer → CallAnswer
checkpoint_told None = told.Nothing
checkpoint_told (Some of) = told.Checkpoint of

-- ---- turns

module _ (machines : ℕ → Machine) where
  -- from the book that was put behind the lock the history leads to one
  abbrev pub IsGroupHistory : GroupLock → List (Turn Call CallAnswer) → Type 0
  IsGroupHistory lock history = IsLegal (IsBook machines) lock.opening history

  -- From the group with which the lock was made the turns before this one lead to another, and this one leads on from there,
  -- to a sound group.
  pub record IsGiven (o : Group) (history : List (Turn Call CallAnswer)) (call : Call) (answer : CallAnswer) : Type 0 where
    pub before : Shared
    pub after : Shared
    pub legal : Legal (machines o.common.kind) (opening o) (calls history) before
    pub step : Steps (machines o.common.kind) call answer before after
    pub sound : IsSound (machines o.common.kind) after.group

  -- The pass had a turn. Others had turns since what it had seen, and then it had this one, which stands under its number.
  -- Its answer is what one group gives at that place of one history.
  pub record IsTaken (lock : GroupLock) (pass : GroupPass) (call : Call) (answer : CallAnswer) (later : GroupPass) : Type 0 where
    pub own : IsOf lock later
    pub turn : IsTurn pass call answer later
    pub gained : own_turns later ≡ own_turns pass ++ turn_by pass.number call answer ∷ []
    pub legal : IsGroupHistory lock later.seen
    pub given : (o : Group) → Stands machines lock.opening.core o → IsGiven o turn.history call answer

  -- A whole history, which begins with what the pass had seen, and leads to this book.
  pub record IsWhole (lock : GroupLock) (pass : GroupPass) (object : BookPicture) : Type 0 where
    pub history : List (Turn Call CallAnswer)
    pub seen : Continues (numbers pass) pass.seen history
    pub book : IsBook machines lock.opening (calls history) object
