-- The Requests of a client, as values and as bytes, and the members to which they are sent. (GIOP chapter, "Request
-- Message"; chapter 23, "Group Version Service Context" and "Request Duration Context".)
use Rattle.std.specs.Prelude.{◌≡◌, ℕ, pos, true, List, [], length, ◌<◌, slice_get, Option, Some, None}
use Rattle.std.specs.List.{list_all}
use Rattle.ft_base.specs.declared.requests.Request.{Request}
use Rattle.cdr_codec.specs.declared.orders.Order.TheVariants.{Big}
use Rattle.iogr_reference.specs.declared.references.GroupRef.{GroupRef}
use Rattle.iogr_reference.specs.declared.references.Iiop.{Iiop}
use Rattle.giop_messages.specs.Messages.{giop}
use Rattle.giop_messages.specs.Writing.{written_message}
use Rattle.client_retry.specs.declared.answers.Act.{Act}
use Rattle.client_retry.specs.declared.answers.Act.TheVariants as acts
use Rattle.client_retry.specs.Counters.{Picture}
use Rattle.script_clients.specs.declared.answers.Attempt.{Attempt}
use Rattle.message_sizes.specs.Sizes.{request_of}
use Rattle.client_replies.specs.Heards.{is_host}
use Rattle.client_calls.specs.declared.requests.TheConstants.{DEPOSIT, NEVER, ONE}
use Rattle.client_calls.specs.declared.aims.Step.{Step}
use Rattle.client_calls.specs.declared.aims.Step.TheVariants as steps
use Rattle.client_calls.specs.Aims.{Aim}

-- the call with this number of a live client: it deposits 1, and its number is its retention id
abbrev pub deposit_of : List ℕ → ℕ → Request
deposit_of client number =
    record { key = Some (record { client = client; retention = record { 0 = pos number }; expiration = NEVER }); op = DEPOSIT; args = ONE }

-- a request's attempt at a member of a group, which names the version of the reference
abbrev pub attempt_at : Request → GroupRef → Iiop → ℕ → Attempt
attempt_at request reference profile id =
    record { group = reference.group; port = profile.port; id = id; version = Some reference.version; request = request }

-- its bytes
abbrev pub spelling : Attempt → List ℕ
spelling attempt = written_message (request_of attempt) (giop 2 Big)

-- ---- where an act sends, and what

abbrev pub aim_at : Request → GroupRef → Iiop → ℕ → Aim
aim_at request reference profile id =
    record { to = record { host = profile.host; port = profile.port }; text = spelling (attempt_at request reference profile id) }

-- to the profile at this place
pub record IsAimedAt (request : Request) (reference : GroupRef) (place id : ℕ) (aim : Aim) : Type 0 where
  pub profile : Iiop
  pub there : slice_get reference.profiles place ≡ Some profile
  pub is : aim ≡ aim_at request reference profile id

abbrev pub IsSentTo : Request → Option GroupRef → ℕ → ℕ → Aim → Type 0
IsSentTo request None place id aim = ⊥
IsSentTo request (Some reference) place id aim = IsAimedAt request reference place id aim

-- to where the attempt before was sent; nothing is sent again
abbrev pub IsStill : Option Aim → Aim → Type 0
IsStill None aim = ⊥
IsStill (Some before) aim = aim ≡ record before { text = [] }

-- An act by the reference that the client then goes by, and the attempt before. An act that does nothing hears on there.
abbrev pub IsAimed : Request → Option GroupRef → Act → Option Aim → Aim → Type 0
IsAimed request reference (acts.Send place id) last aim = IsSentTo request reference place id aim
IsAimed request reference (acts.Adopted version place id) last aim = IsSentTo request reference place id aim
IsAimed request reference (acts.Done end) last aim = ⊥
IsAimed request reference acts.Nothing last aim = IsStill last aim

-- what an act comes to
abbrev pub IsStep : Request → Option GroupRef → Act → Option Aim → Step → Type 0
IsStep request reference act last (steps.Sends aim) = IsAimed request reference act last aim
IsStep request reference act last (steps.Ends end) = act ≡ acts.Done end

-- ---- when an act can be done

-- the hosts of a reference can be called
abbrev pub HasHosts : GroupRef → Type 0
HasHosts reference = list_all is_host reference.profiles ≡ true

-- the place is one of the reference's
abbrev pub IsThere : ℕ → Option GroupRef → Type 0
IsThere place None = ⊥
IsThere place (Some reference) = (place < length reference.profiles) × HasHosts reference

-- a call that has ended leaves its client with a reference for the next
pub record IsRested (core : Picture) : Type 0 where
  pub reference : GroupRef
  pub held : core.reference ≡ Some reference
  pub hosts : HasHosts reference
  pub idle : core.progress ≡ None

abbrev pub HasBefore : Option Aim → Type 0
HasBefore None = ⊥
HasBefore (Some aim) = Unit {0}

abbrev pub CanAct : Picture → Act → Option Aim → Type 0
CanAct core (acts.Send place id) last = IsThere place core.reference
CanAct core (acts.Adopted version place id) last = IsThere place core.reference
CanAct core (acts.Done end) last = IsRested core
CanAct core acts.Nothing last = HasBefore last
