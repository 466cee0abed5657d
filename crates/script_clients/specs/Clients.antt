-- The plain client of a script: client_retry's client, which has one invocation after another, with the
-- references of the groups that it invoked, and the call that is open.
use Rattle.std.specs.Prelude.{ℕ, ◌+◌, ◌==◌, ◌&&◌, not, Bool, true, false, if◌then◌else◌, List, [], ◌∷◌, ◌++◌, slice_get, Option, Some, None}
use Rattle.std.specs.List.{filter, find}
use Rattle.std.specs.Option.{option_to_list}
use Rattle.ft_base.specs.declared.numbers.GroupId.{GroupId}
use Rattle.ft_base.specs.declared.numbers.Tick.{Tick}
use Rattle.ft_base.specs.declared.numbers.Version.{Version}
use Rattle.ft_base.specs.declared.requests.Request.{Request}
use Rattle.iogr_reference.specs.declared.references.GroupRef.{GroupRef}
use Rattle.iogr_reference.specs.declared.references.Iiop.{Iiop}
use Rattle.client_retry.specs.declared.answers.Act.{Act}
use Rattle.client_retry.specs.declared.answers.Act.TheVariants as acts
use Rattle.client_retry.specs.declared.answers.Heard.{Heard}
use Rattle.client_retry.specs.Invocations.{News, Reply, Silence}
use Rattle.client_retry.specs.Clients as retries
use Rattle.client_retry.specs.Counters.{kept}
use Rattle.script_clients.specs.declared.answers.Attempt.{Attempt}
use Rattle.script_clients.specs.declared.answers.Call.{Call}
use Rattle.script_clients.specs.declared.answers.Told.{Told}
use Rattle.script_clients.specs.declared.answers.Told.TheVariants as told

pub record Client : Type 0 where
  pub name : List ℕ
  -- the invocations that it began
  pub started : ℕ
  -- those of them that were sent, and whose retention id it chose itself
  pub numbered : ℕ
  -- the references that it goes by, but for that of its last invocation
  pub others : List GroupRef
  -- its last invocation
  pub retry : retries.Client
  -- what it asks, while that is open
  pub call : Option Call

abbrev pub new_client : List ℕ → Client
new_client name = record { name = name; started = 0; numbered = 0; others = []; retry = retries.new_client; call = None }

-- what a client does, and the client after it
pub record Turn : Type 0 where
  pub client : Client
  pub told : Told

-- ---- its references

abbrev pub is_of : GroupId → GroupRef → Bool
is_of group reference = reference.group.0 == group.0

-- that of its last invocation
abbrev pub last_reference : Client → List GroupRef
last_reference c = option_to_list (kept c.retry).reference

-- the one that it goes by for a group
abbrev pub reference_of : Client → GroupId → Option GroupRef
reference_of c group = find (is_of group) (last_reference c ++ c.others)

-- a reference that is taken from a client
pub record Taken : Type 0 where
  pub client : Client
  pub reference : Option GroupRef

-- between two invocations its reference of a group is taken from it; it keeps those of all other groups
abbrev pub taking : Client → GroupId → Taken
taking c group = record {
  client = record c { others = filter (λ reference. not (is_of group reference)) (c.others ++ last_reference c); retry = retries.setting_down c.retry };
  reference = reference_of c group;
}

-- it goes by this reference for the reference's group from now on
abbrev pub binding : Client → GroupRef → Client
binding c reference = let left = (taking c reference.group).client in record left { others = left.others ++ reference ∷ [] }

-- ---- attempts

-- the port of a profile; 0 where there is none at this place, which no attempt names
abbrev pub port_of_profile : Option Iiop → ℕ
port_of_profile None = 0
port_of_profile (Some iiop) = iiop.port

abbrev pub version_asked : Bool → Version → Option Version
version_asked true version = Some version
version_asked false version = None

-- to the profile at a place of a reference
abbrev pub attempt : Call → GroupRef → ℕ → ℕ → Attempt
attempt call reference place id = record {
  group = reference.group;
  port = port_of_profile (slice_get reference.profiles place);
  id = id;
  version = version_asked call.versioned reference.version;
  request = call.request;
}

-- what an act of client_retry's client is to an open call, by the reference that the call then goes by. Once
-- it began there is one.
abbrev pub told_of : Call → Option GroupRef → Act → Told
told_of call None act = told.Nothing
told_of call (Some reference) (acts.Send place id) = told.Attempt (attempt call reference place id)
told_of call (Some reference) (acts.Adopted version place id) = told.Adopted reference.group version (attempt call reference place id)
told_of call (Some reference) (acts.Done end) = told.Ended call.number end
told_of call (Some reference) acts.Nothing = told.Nothing

-- ---- a turn of its last invocation

abbrev pub is_busy : retries.Client → Bool
is_busy (retries.Idle last reference) = false
is_busy (retries.Busy i) = true

-- a call is open as long as its invocation
abbrev pub while_busy : retries.Client → Call → Option Call
while_busy retry call = if is_busy retry then Some call else None

abbrev pub acting : Client → Call → retries.Turn → Turn
acting c call turn = record {
  client = record c { retry = turn.client; call = while_busy turn.client call };
  told = told_of call (kept turn.client).reference turn.act;
}

-- ---- a call begins

-- a call counts for the retention ids where it is sent, and is to count
abbrev pub numbered_after : ℕ → Bool → Bool → ℕ
numbered_after numbered numbers sent = if numbers && sent then numbered + 1 else numbered

abbrev pub beginning : Client → Bool → Call → retries.Turn → Turn
beginning c numbers call turn =
    acting (record c { started = call.number; numbered = numbered_after c.numbered numbers (is_busy turn.client) }) call turn

-- over a reference; its request expires at this moment
abbrev pub starting : Client → GroupRef → Tick → Bool → Bool → Request → Turn
starting c reference expiration numbers versioned request =
    beginning c numbers (record { number = c.started + 1; versioned = versioned; request = request }) (retries.starting c.retry reference expiration)

-- ---- news come

-- it hears nothing but news of its open call
abbrev pub going_on : Client → Option Call → retries.Turn → Turn
going_on c None turn = record { client = c; told = told.Nothing }
going_on c (Some call) turn = acting c call turn

abbrev pub after_news : Client → News → Turn
after_news c news = going_on c c.call (retries.hearing c.retry news)

-- a reply to the request with this id comes at this moment
abbrev pub hearing : Client → ℕ → Heard → Tick → Turn
hearing c id heard now = after_news c (Reply id heard now)

-- at this moment it is known that its last attempt gets no reply
abbrev pub failing : Client → Tick → Turn
failing c now = after_news c (Silence now)
