-- A list of events, one after another.
use Rattle.std.specs.Prelude.{◌≡◌, ℕ, ◌+◌, ◌<◌, ◌⊎◌, Bool, true, false, List, [], ◌∷◌, ◌++◌, length}
use Rattle.ft_base.specs.Journal.{AtMostOnce, reply_at}
use Rattle.ft_base.specs.Machine.{Machine}
use Rattle.group_model.specs.declared.events.Event.{Event}
use Rattle.group_model.specs.declared.events.GroupAnswer.{GroupAnswer}
use Rattle.group_model.specs.declared.events.GroupAnswer.TheVariants as answers
use Rattle.group_model.specs.Agreeing.{Agrees}
use Rattle.group_model.specs.Counting.{total, run_in, caught_up_in, applied_in}
use Rattle.group_model.specs.Events.{after_event, shows_fault}
use Rattle.group_model.specs.Laws.{Grows}
use Rattle.group_model.specs.Plain.{Group}
use Rattle.group_model.specs.Runs.{Step, after_steps, answers_to, calls_of}
use Rattle.group_core.specs.Acting.{IsShort}
use Rattle.group_core.specs.Cores.{CorePicture, Stands}

-- each event agrees with the group to which it comes, whatever writes fail before it
unfoldable pub AlwaysAgree : Machine → Group → List Event → Type 0
AlwaysAgree m g [] = Unit {0}
AlwaysAgree m g (e ∷ events) = Agrees m e g × ((fails : Bool) → AlwaysAgree m (after_event m g e fails) events)

-- each event with whether the log's write failed, as its answer shows it
unfoldable pub steps_of : List Event → List GroupAnswer → List Step
steps_of [] answers = []
steps_of (e ∷ events) [] = []
steps_of (e ∷ events) (answer ∷ answers) = record { event = e; fails = shows_fault answer } ∷ steps_of events answers

-- The core stands for the plain group after these events. Each has its answer, which is the plain group's, and so
-- is the number of servant calls.
pub record HasRun (machines : ℕ → Machine) (g : Group) (events : List Event) (answers : List GroupAnswer) (core : CorePicture) (before now : ℕ) : Type 0 where
  pub stands : Stands machines core (after_steps (machines g.common.kind) g (steps_of events answers))
  pub whole : length answers ≡ length events
  pub told : answers_to (machines g.common.kind) g (steps_of events answers) ≡ answers
  pub calls : now ≡ before + calls_of (machines g.common.kind) g (steps_of events answers)

-- What the plain group's laws say of these events, whichever they were: each request is accepted at most once
-- before its expiration; the journal and the views only got more, and the time and what has run didn't fall; an
-- entry's reply is what it was; and the servant was called once for each accepted entry that was run, once for each
-- entry that a host caught up with, and once for each order that was applied.
pub record GoesOn (m : Machine) (g : Group) (steps : List Step) : Type 0 where
  pub once : AtMostOnce (after_steps m g steps).common.journal
  pub grows : Grows g.common (after_steps m g steps).common
  pub replies : (i : ℕ) → i < length g.common.journal →
      reply_at m (after_steps m g steps).common.opening (after_steps m g steps).common.journal i ≡ reply_at m g.common.opening g.common.journal i
  pub counted : calls_of m g steps ≡ total (run_in m) m g steps + total (caught_up_in m) m g steps + total (applied_in m) m g steps

-- ---- where memory was wanted

-- between two events, or by the next one
abbrev pub IsLeft : (ℕ → Machine) → Group → Event → CorePicture → ℕ → ℕ → Type 0
IsLeft machines g next core before now = (Stands machines core g × (now ≡ before)) ⊎ IsShort machines g next core before now

-- Some of the events had their answers, as `HasRun` has it. The core stands for the group after these, or for what
-- want of memory may leave of the next one.
pub record HasStopped (machines : ℕ → Machine) (g : Group) (events : List Event) (core : CorePicture) (before now : ℕ) : Type 0 where
  pub done : List Event
  pub next : Event
  pub rest : List Event
  pub are : events ≡ done ++ next ∷ rest
  pub answers : List GroupAnswer
  pub whole : length answers ≡ length done
  pub told : answers_to (machines g.common.kind) g (steps_of done answers) ≡ answers
  pub left : IsLeft machines (after_steps (machines g.common.kind) g (steps_of done answers)) next core
      (before + calls_of (machines g.common.kind) g (steps_of done answers)) now

abbrev pub is_short : GroupAnswer → Bool
is_short answers.NoMemory = true
is_short other = false
