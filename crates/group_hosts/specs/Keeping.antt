-- What an event leaves of its group's keeper: whether it wrote, and whether that failed.
use Rattle.std.specs.Prelude.{◌≡◌, ℕ, true, false, List, [], ◌∷◌, ◌++◌, ◌⊎◌}
use Rattle.ft_base.specs.Journal.{Entry}
use Rattle.ft_base.specs.declared.decisions.Decision.{Decision}
use Rattle.ft_base.specs.declared.decisions.Decision.TheVariants as decisions
use Rattle.ft_outside.specs.Keeping.{plan_after, IsForetold}
use Rattle.ft_outside.specs.Outside.{next_count}
use Rattle.message_log.specs.Calls.{IsTidied}
use Rattle.message_log.specs.Picture.{Picture as LogPicture, keeper_of}
use Rattle.message_log.specs.declared.tidying.Tidied.{Tidied}
use Rattle.group_model.specs.declared.changes.ManageFault.{ManageFault}
use Rattle.group_model.specs.declared.changes.ManageFault.TheVariants as manage_faults
use Rattle.group_model.specs.declared.events.Event.{Event}
use Rattle.group_model.specs.declared.events.Event.TheVariants as events
use Rattle.group_model.specs.declared.events.GroupAnswer.{GroupAnswer}
use Rattle.group_model.specs.declared.events.GroupAnswer.TheVariants as answers

-- nothing was written
abbrev pub WroteNothing : LogPicture → LogPicture → Type 0
WroteNothing old new = (new.plan ≡ old.plan) × (new.faults ≡ old.faults)

-- one record was written
pub record Wrote (old new : LogPicture) : Type 0 where
  pub foretold : IsForetold old.plan false
  pub plan : new.plan ≡ plan_after old.plan
  pub faults : new.faults ≡ old.faults

-- the log has the same entries, or one more
abbrev pub HasSameEntries : LogPicture → LogPicture → Type 0
HasSameEntries old new = (new.mark ≡ old.mark) × (new.entries ≡ old.entries)

abbrev pub HasOneMore : LogPicture → LogPicture → Type 0
HasOneMore old new = (entry : Entry) × (new.mark ≡ old.mark) × (new.entries ≡ old.entries ++ entry ∷ [])

-- Where memory was wanted: nothing was written, and the log has the entries of before; or one record was written, and the log
-- has one entry more.
abbrev pub WroteShort : LogPicture → LogPicture → Type 0
WroteShort old new = (WroteNothing old new × HasSameEntries old new) ⊎ (Wrote old new × HasOneMore old new)

-- the one write failed
pub record FailedToWrite (old new : LogPicture) : Type 0 where
  pub foretold : IsForetold old.plan true
  pub plan : new.plan ≡ plan_after old.plan
  pub faults : new.faults ≡ next_count old.faults

-- A checkpoint was written. What was tidied behind it may have failed all the same: then the count of faults
-- rises, and no answer shows it.
pub record WroteCheckpoint (old new : LogPicture) : Type 0 where
  pub foretold : IsForetold old.plan false
  pub checkpoint : List ℕ
  pub view : List ℕ
  pub how : Tidied
  pub tidied : IsTidied how (record (keeper_of old) { plan = plan_after old.plan }) checkpoint view (keeper_of new)

-- by what was decided of a request
abbrev pub WroteBy : Decision → LogPicture → LogPicture → Type 0
WroteBy (decisions.Append i) old new = Wrote old new
WroteBy decisions.LogFault old new = FailedToWrite old new
WroteBy other old new = WroteNothing old new

abbrev pub WroteRefused : ManageFault → LogPicture → LogPicture → Type 0
WroteRefused manage_faults.LogFault old new = FailedToWrite old new
WroteRefused other old new = WroteNothing old new

-- a checkpoint is written, and an update isn't
abbrev pub WroteTaken : Event → LogPicture → LogPicture → Type 0
WroteTaken (events.Checkpoint host clock) old new = WroteCheckpoint old new
WroteTaken other old new = WroteNothing old new

-- By an event and its answer. Want of memory comes before the one write, or behind that of an entry that its host was to
-- run.
abbrev pub WroteFor : Event → GroupAnswer → LogPicture → LogPicture → Type 0
WroteFor e (answers.Reply decision answer out) old new = WroteBy decision old new
WroteFor e (answers.Changed view out) old new = Wrote old new
WroteFor e (answers.Refused fault) old new = WroteRefused fault old new
WroteFor e (answers.Taken from position out) old new = WroteTaken e old new
WroteFor e answers.LogFault old new = FailedToWrite old new
WroteFor e answers.NoMemory old new = WroteShort old new
WroteFor e other old new = WroteNothing old new

-- so it is told, whatever the event, where nothing was written
abbrev pub IsQuiet : GroupAnswer → Type 0
IsQuiet answer = (e : Event) (log : LogPicture) → WroteFor e answer log log
