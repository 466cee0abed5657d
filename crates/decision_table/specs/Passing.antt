-- What came of what was asked, against the plain group's decision table.
use Rattle.std.specs.Prelude.{◌≡◌, ℕ, ◌≤◌, length, None, IsSome, Result, Ok, Err}
use Rattle.ft_base.specs.Machine.{Machine, Fits}
use Rattle.ft_base.specs.declared.limits.TheConstants.{ARGUMENTS_LIMIT}
use Rattle.ft_base.specs.declared.requests.Request.{Request}
use Rattle.ft_base.specs.declared.views.Style.{Style}
use Rattle.message_log.specs.Picture.{Picture as LogPicture}
use Rattle.group_model.specs.Asking.{asked_version, signature_asked}
use Rattle.group_model.specs.Decisions.{refused_by_view}
use Rattle.group_model.specs.Plain.{Common}
use Rattle.group_model.specs.Views.{StillHas, newest}
use Rattle.group_model.specs.declared.asking.Asked.{Asked}
use Rattle.group_model.specs.declared.refusals.Refusal.{Refusal}
use Rattle.group_stands.specs.Stands.{LogStands}
use Rattle.decision_table.specs.declared.arguments.Unpassed.{Unpassed}
use Rattle.decision_table.specs.declared.arguments.Unpassed.TheVariants as unpassed
use Rattle.decision_table.specs.declared.passing.Passed.{Passed}
use Rattle.decision_table.specs.declared.passing.Passed.TheVariants as passed

-- A log, a style and a kind of servant are a group's, and its host knows the version of a view that the group still has.
pub record IsAsked (machines : ℕ → Machine) (c : Common) (its_log : LogPicture) (its_style : Style) (its_kind known : ℕ) : Type 0 where
  pub log : LogStands machines c its_log
  pub style : its_style ≡ c.style
  pub kind : its_kind ≡ c.kind
  pub has : StillHas c known

-- it is the request that no row refuses, or the first row's refusal; or memory was wanted
abbrev pub Passes : Result Request Refusal → Passed → Type 0
Passes wanted (passed.Request request) = wanted ≡ Ok request
Passes wanted (passed.Refused refusal) = wanted ≡ Err refusal
Passes wanted passed.NoMemory = Unit {0}

-- a fact of the request that passed
abbrev pub IfRequest : Passed → (Request → Type 0) → Type 0
IfRequest (passed.Request request) P = P request
IfRequest (passed.Refused refusal) P = Unit {0}
IfRequest passed.NoMemory P = Unit {0}

-- its host knows the newest view, its servant may run it, and its arguments aren't too long
pub record MayBeServed (m : Machine) (c : Common) (known : ℕ) (request : Request) : Type 0 where
  pub newest : known ≡ newest c
  pub fits : Fits m request
  pub short : length request.args ≤ ARGUMENTS_LIMIT

-- memory was wanted, so this holds
abbrev pub IfNoMemory : Passed → Type 0 → Type 0
IfNoMemory (passed.Request request) P = Unit {0}
IfNoMemory (passed.Refused refusal) P = Unit {0}
IfNoMemory passed.NoMemory P = P

-- Memory is taken for the arguments alone: no row on views stands, and the servant has the operation.
pub record TakesMemory (m : Machine) (c : Common) (host known : ℕ) (asked : Asked) : Type 0 where
  pub no_row : refused_by_view c host (asked_version known asked.version) known ≡ None
  pub named : IsSome (signature_asked m asked.op)

-- ---- inside

-- a call answered this, or that there is no memory
abbrev pub Comes : {X : Type 0} → Result X Unpassed → Result X Refusal → Type 0
Comes (Ok x) wanted = wanted ≡ Ok x
Comes (Err (unpassed.Refused refusal)) wanted = wanted ≡ Err refusal
Comes (Err unpassed.NoMemory) wanted = Unit {0}

abbrev pub IfUnread : {X : Type 0} → Result X Unpassed → Type 0 → Type 0
IfUnread (Ok x) P = Unit {0}
IfUnread (Err (unpassed.Refused refusal)) P = Unit {0}
IfUnread (Err unpassed.NoMemory) P = P

abbrev pub told_of : Result Request Unpassed → Passed
told_of (Ok request) = passed.Request request
told_of (Err (unpassed.Refused refusal)) = passed.Refused refusal
told_of (Err unpassed.NoMemory) = passed.NoMemory
