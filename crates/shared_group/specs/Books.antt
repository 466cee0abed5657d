-- A book: a group's core, what its events sent and nobody has brought yet, and all that its core has acted. When it
-- stands for a group behind a lock, and what a call leaves of it.
use Rattle.std.specs.Prelude.{◌≡◌, ◌++◌, ℕ, ◌+◌, ◌≤◌, ◌⊎◌, Bool, false, if◌then◌else◌, List, [], ◌∷◌, map, Some, None}
use Rattle.ft_base.specs.Machine.{Machine}
use Rattle.group_model.specs.declared.events.Event.{Event}
use Rattle.group_model.specs.declared.events.GroupAnswer.{GroupAnswer}
use Rattle.group_model.specs.declared.events.GroupAnswer.TheVariants as answers
use Rattle.group_model.specs.declared.events.Out.{Out}
use Rattle.group_model.specs.Agreeing.{Agrees, IsSound}
use Rattle.group_model.specs.Laws.{Lasts}
use Rattle.group_model.specs.Plain.{Group}
use Rattle.group_model.specs.Steps.{Act}
use Rattle.group_core.specs.Cores.{CorePicture, Stands}
use Rattle.group_core.specs.Telling.{IsCounted}
use Rattle.message_log.specs.Picture.{Picture as LogPicture}
use Rattle.shared_group.specs.declared.calls.Call.{Call}
use Rattle.shared_group.specs.declared.calls.CallAnswer.{CallAnswer}
use Rattle.shared_group.specs.declared.traces.Entry.{Entry}
use Rattle.shared_group.specs.Shared.{AllMayCome, IsInside, Legal, Shared, Steps, answered, event_in, opening, shows_fault_by}

-- what contracts see of a core with all that it has acted
pub record Traced : Type 0 where
  pub core : CorePicture
  pub acts : List Act

abbrev pub act_of : Entry → Act
act_of entry = record { event = entry.event.value; answer = entry.answer.value }

abbrev pub acts_of : List Entry → List Act
acts_of entries = map act_of entries

pub record BookPicture : Type 0 where
  pub core : CorePicture
  pub queue : List Out
  pub acts : List Act

-- ---- the log's faults

-- how many answers show a failed log
abbrev pub fault_of : Bool → ℕ
fault_of shows = if shows then 1 else 0

unfoldable pub shown_faults : List (Call × CallAnswer) → ℕ
shown_faults [] = 0
shown_faults (c ∷ cs) = fault_of (shows_fault_by (answered c.1)) + shown_faults cs

unfoldable pub NoneShowsFault : List (Call × CallAnswer) → Type 0
NoneShowsFault [] = Unit {0}
NoneShowsFault (c ∷ cs) = (shows_fault_by (answered c.1) ≡ false) × NoneShowsFault cs

-- No more answers show a failed log than the keeper counts faults, but at the count's end. Over a keeper of which it was
-- told that no write fails, none does.
pub record AreCounted (first : LogPicture) (past : List (Call × CallAnswer)) (now : LogPicture) : Type 0 where
  pub counted : (shown_faults past ≤ now.faults) ⊎ (18446744073709551615 ≤ now.faults)
  pub calm : first.plan ≡ Some [] → (now.plan ≡ Some []) × NoneShowsFault past

-- so it is of one call
pub record CountsFaults (shows : Bool) (old new : LogPicture) : Type 0 where
  pub counted : IsCounted shows old.faults new.faults
  pub calm : old.plan ≡ Some [] → (shows ≡ false) × (new.plan ≡ Some [])

-- ---- what a call leaves of a book

-- One entry joined. Or none: there was no room, and nothing changed.
abbrev pub IsPut : Event → GroupAnswer → BookPicture → BookPicture → Type 0
IsPut e answer old new =
    (new.acts ≡ old.acts ++ record { event = e; answer = answer } ∷ []) ⊎ ((answer ≡ answers.NoMemory) × (new ≡ old))

-- One entry joined. Or none, where nothing was acted; or where there was no room for what might be sent, and nothing
-- changed.
pub data IsEntered (answer : CallAnswer) (core core' : CorePicture) (acts acts' : List Act) : Type 0 where
  entered : (act : Act) → answered answer ≡ Some act.answer → acts' ≡ acts ++ act ∷ [] → IsEntered answer core core' acts acts'
  looked : answered answer ≡ None → core' ≡ core → acts' ≡ acts → IsEntered answer core core' acts acts'
  without_room : answered answer ≡ Some answers.NoMemory → core' ≡ core → acts' ≡ acts → IsEntered answer core core' acts acts'

-- what it acted are the calls without the looks, and without those that found no room
pub data AreActs : List (Call × CallAnswer) → List Act → Type 0 where
  none : AreActs [] []
  one_more : (past : List (Call × CallAnswer)) (acts : List Act) (c : Call × CallAnswer) (act : Act) → AreActs past acts
      → answered c.1 ≡ Some act.answer → AreActs (past ++ c ∷ []) (acts ++ act ∷ [])
  skipped : (past : List (Call × CallAnswer)) (acts : List Act) (c : Call × CallAnswer) → AreActs past acts
      → (answered c.1 ≡ None) ⊎ (answered c.1 ≡ Some answers.NoMemory) → AreActs (past ++ c ∷ []) acts

module _ (machines : ℕ → Machine) where
  -- the core stands for this group, and the queue is what it is; all of it may come, and so may what the call brings
  pub record IsReady (call : Call) (book : BookPicture) (s : Shared) : Type 0 where
    pub stands : Stands machines book.core s.group
    pub queue : book.queue ≡ s.queue
    pub may_come : AllMayCome (machines s.group.common.kind) s.queue s.group
    pub agrees : (e : Event) → event_in call ≡ Some e → Lasts e × Agrees (machines s.group.common.kind) e s.group
    pub inside : IsInside call

  -- the call has its answer, and the book stands for where that leads
  pub record IsDone (call : Call) (answer : CallAnswer) (s : Shared) (old new : BookPicture) : Type 0 where
    pub next : Shared
    pub steps : Steps (machines s.group.common.kind) call answer s next
    pub stands : Stands machines new.core next.group
    pub queue : new.queue ≡ next.queue
    pub entry : IsEntered answer old.core new.core old.acts new.acts

  -- so it is of each group for which the core stood
  abbrev pub DoesFor : Call → CallAnswer → BookPicture → BookPicture → Type 0
  DoesFor call answer old new = (s : Shared) → IsReady call old s → IsDone call answer s old new

  -- ---- a book behind the lock

  -- From this group the calls lead to one for which the core stands. The queue is what they sent and nobody has brought, all
  -- of which may come.
  pub record IsAt (o : Group) (past : List (Call × CallAnswer)) (book : BookPicture) : Type 0 where
    pub now : Shared
    pub legal : Legal (machines o.common.kind) (opening o) past now
    pub kind : now.group.common.kind ≡ o.common.kind
    pub stands : Stands machines book.core now.group
    pub queue : book.queue ≡ now.queue
    pub may_come : AllMayCome (machines o.common.kind) now.queue now.group

  -- So it is with each group for which the core stood as it was put behind the lock; there is one.
  pub record IsBook (first : BookPicture) (past : List (Call × CallAnswer)) (book : BookPicture) : Type 0 where
    pub opened : (o : Group) × Stands machines first.core o
    pub at : (o : Group) → Stands machines first.core o → IsAt o past book
    pub acts : AreActs past book.acts
    pub faults : AreCounted first.core.log past book.core.log

  -- A call may be made whose event goes on agreeing, and agrees with each group to which the calls may lead.
  pub record MayCall (first : BookPicture) (past : List (Call × CallAnswer)) (call : Call) : Type 0 where
    pub inside : IsInside call
    pub agrees : (e : Event) → event_in call ≡ Some e → Lasts e
        × ((o : Group) (s : Shared) → Stands machines first.core o → Legal (machines o.common.kind) (opening o) past s → IsSound (machines o.common.kind) s.group
        → Agrees (machines o.common.kind) e s.group)
