-- The numbers that stand for a client and all that it heard, and how they are counted.
use Rattle.std.specs.Prelude.{◌≡◌, ℕ, ◌+◌, ◌*◌, ◌<◌, ◌≤◌, length, Option, Some, None, Result, Ok, Err}
use Rattle.ft_base.specs.declared.numbers.Tick.{Tick}
use Rattle.iogr_reference.specs.declared.choices.TheConstants.{PROFILE_LIMIT}
use Rattle.iogr_reference.specs.declared.references.GroupRef.{GroupRef}
use Rattle.client_retry.specs.declared.answers.Act.{Act}
use Rattle.client_retry.specs.declared.answers.Act.TheVariants.{Done, Nothing}
use Rattle.client_retry.specs.declared.answers.End.{End}
use Rattle.client_retry.specs.declared.answers.Heard.{Heard}
use Rattle.client_retry.specs.declared.clients.Progress.{Progress}
use Rattle.client_retry.specs.declared.meanings.Meaning.{Meaning}
use Rattle.client_retry.specs.declared.meanings.Meaning.TheVariants.{Unheard, Fault, Newer, Final}
use Rattle.client_retry.specs.Meanings.{said, replied}
use Rattle.client_retry.specs.Attempts.{at_first, at_fault}
use Rattle.client_retry.specs.Invocations.{reference_of, faults_of, last_id_of, sent, sent_over}
use Rattle.client_retry.specs.Clients.{Client, Idle, Busy}

pub record Picture : Type 0 where
  pub reference : Option GroupRef
  pub last : ℕ
  -- of the open invocation
  pub progress : Option Progress

abbrev pub kept : Client → Picture
kept (Idle last reference) = record { reference = reference; last = last; progress = None }
kept (Busy i) = record {
  reference = Some (reference_of i);
  last = last_id_of i;
  progress = Some (record { first = i.first; expiration = i.expiration; faults = faults_of i });
}

-- the core has kept these numbers of all that the client heard
abbrev pub StandsFor : Client → Picture → Type 0
StandsFor client core = core ≡ kept client

-- an invocation that is open over this reference can make another attempt
pub record CanGoOn (faults profiles : ℕ) : Type 0 where
  pub left : faults < 3 * profiles
  pub limit : profiles ≤ PROFILE_LIMIT

-- what is true of every core
abbrev pub IsSound : Option GroupRef → Option Progress → Type 0
IsSound reference None = Unit {0}
IsSound None (Some progress) = ⊥
IsSound (Some reference) (Some progress) = CanGoOn progress.faults (length reference.profiles)

-- ---- counting

pub record Counted : Type 0 where
  pub core : Picture
  pub act : Act

abbrev pub counted : Picture → Act → Counted
counted core act = record { core = core; act = act }

abbrev pub picture : GroupRef → ℕ → Option Progress → Picture
picture reference last progress = record { reference = Some reference; last = last; progress = progress }

-- where an attempt is made, or the invocation ends
abbrev pub going_on : GroupRef → ℕ → Progress → Result ℕ End → Picture
going_on reference last progress (Ok place) = picture reference (last + 1) (Some progress)
going_on reference last progress (Err end) = picture reference last None

abbrev pub beginning : GroupRef → ℕ → Tick → Result ℕ End → Counted
beginning reference last expiration attempt =
    counted (going_on reference last (record { first = last + 1; expiration = expiration; faults = 0 }) attempt) (sent last attempt)

abbrev pub failing : GroupRef → ℕ → Progress → Result ℕ End → Counted
failing reference last progress attempt =
    counted (going_on reference last (record progress { faults = progress.faults + 1 }) attempt) (sent last attempt)

abbrev pub adopting : GroupRef → ℕ → Progress → Result ℕ End → Counted
adopting other last progress attempt =
    counted (going_on other last (record progress { faults = 0 }) attempt) (sent_over other last attempt)

-- by the core before, and by its reference and its progress
abbrev pub counting_open : Picture → Option GroupRef → Option Progress → Meaning → Counted
counting_open core None progress meaning = counted core Nothing
counting_open core (Some reference) None meaning = counted core Nothing
counting_open core (Some reference) (Some progress) Unheard = counted core Nothing
counting_open core (Some reference) (Some progress) (Fault now) =
    failing reference core.last progress (at_fault reference (progress.faults + 1) core.last progress.expiration now)
counting_open core (Some reference) (Some progress) (Newer other) = adopting other core.last progress (at_first other core.last)
counting_open core (Some reference) (Some progress) (Final end) = counted (record core { progress = None }) (Done end)

abbrev pub counting : Picture → Meaning → Counted
counting core meaning = counting_open core core.reference core.progress meaning

abbrev pub counting_start : Picture → GroupRef → Tick → Counted
counting_start core reference expiration = beginning reference core.last expiration (at_first reference core.last)

-- what a reply means to the open invocation, if there is one
abbrev pub read_open : ℕ → Option GroupRef → Option Progress → ℕ → Heard → Tick → Meaning
read_open last None progress id heard now = Unheard
read_open last (Some reference) None id heard now = Unheard
read_open last (Some reference) (Some progress) id heard now = replied progress.first last id (said reference now heard)

abbrev pub read : Picture → ℕ → Heard → Tick → Meaning
read core id heard now = read_open core.last core.reference core.progress id heard now
