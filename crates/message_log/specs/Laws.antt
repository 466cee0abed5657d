-- The laws of a log that stands for a journal.
use Rattle.std.specs.Prelude.{◌≡◌, ℕ, ◌≤◌, max, Bool, List, [], ◌∷◌, ◌++◌, slice_get, option_map, Option}
use Rattle.ft_base.specs.Journal.{Entry}
use Rattle.ft_base.specs.declared.admissions.Admission.TheVariants.{New}
use Rattle.ft_base.specs.declared.numbers.Tick.{Tick}
use Rattle.ft_base.specs.declared.numbers.Version.{Version}
use Rattle.ft_base.specs.declared.requests.Outcome.{Outcome}
use Rattle.ft_base.specs.declared.requests.Request.{Request}
use Rattle.ft_base.specs.declared.views.View.{View}
use Rattle.message_log.specs.Picture.{Picture, request_at}
use Rattle.message_log.specs.Admission.{admitted_by, admitted}
use Rattle.message_log.specs.Calls.{fresh, with_entry, with_outcome, checkpointed}
use Rattle.message_log.specs.Standing.{StandsFor}
use Rattle.message_log.specs.declared.answers.Admit.TheVariants as admits

-- what a log admits is what its whole journal admits
abbrev pub AdmitsAsJournal : Type 0
AdmitsAsJournal = (journal : List Entry) (log : Picture) → StandsFor journal log → (version clock : ℕ) (request : Request)
    → admitted log version clock request ≡ admitted_by log.newest.version.0 journal log.time version clock request

-- the request of a position is the journal's, from the mark on
abbrev pub LendsJournal : Type 0
LendsJournal = (journal : List Entry) (log : Picture) → StandsFor journal log → (position : ℕ) → log.mark ≤ position
    → request_at log position ≡ option_map (λ (e : Entry). e.request) (slice_get journal position)

-- a fresh log stands for no entries
abbrev pub StandsFresh : Type 0
StandsFresh = (view : View) (plan : Option (List Bool)) (faults : ℕ) → StandsFor [] (fresh view plan faults)

-- after a request that was new, it stands for the journal with that request
abbrev pub StandsWithEntry : Type 0
StandsWithEntry = (journal : List Entry) (log : Picture) → StandsFor journal log → (version : Version) (clock : Tick) (request : Request)
    → admitted log version.0 clock.0 request ≡ admits.Admission New
    → StandsFor (journal ++ record { at = max clock.0 log.time; request = request } ∷ []) (with_entry log version clock request)

-- after a checkpoint, though entries were cut and replies were dropped, it stands for the same journal
abbrev pub StandsCut : Type 0
StandsCut = (journal : List Entry) (log : Picture) → StandsFor journal log → (clock : Tick) (state : List ℕ) → StandsFor journal (checkpointed log clock state)

abbrev pub StandsAnswered : Type 0
StandsAnswered = (journal : List Entry) (log : Picture) → StandsFor journal log → (position : ℕ) (outcome : Outcome) → StandsFor journal (with_outcome log position outcome)
