-- The ids of a client's attempts, and its reference, over all of its invocations.
use Rattle.std.specs.Prelude.{◌≡◌, ℕ, ◌+◌, is_some, true, Option, Some, None}
use Rattle.ft_base.specs.declared.numbers.Tick.{Tick}
use Rattle.iogr_reference.specs.declared.references.GroupRef.{GroupRef}
use Rattle.client_retry.specs.declared.answers.Act.{Act}
use Rattle.client_retry.specs.declared.answers.Act.TheVariants.{Send, Adopted, Done, Nothing}
use Rattle.client_retry.specs.Invocations.{News}
use Rattle.client_retry.specs.Clients.{Client, last_of, starting, setting_down, hearing}
use Rattle.client_retry.specs.Counters.{kept}

-- the id of the attempt that is made, if one is
abbrev pub id_of : Act → Option ℕ
id_of (Send place id) = Some id
id_of (Adopted version place id) = Some id
id_of (Done end) = None
id_of Nothing = None

-- by the client's last ids before and after it: an attempt's id is one above the last, and is then the last
abbrev pub IsNextId : ℕ → Option ℕ → ℕ → Type 0
IsNextId before None after = after ≡ before
IsNextId before (Some id) after = (id ≡ before + 1) × (after ≡ id)

abbrev pub IdsBegin : Type 0
IdsBegin = (client : Client) (reference : GroupRef) (expiration : Tick)
    → IsNextId (last_of client) (id_of (starting client reference expiration).act) (last_of (starting client reference expiration).client)

abbrev pub IdsGoOn : Type 0
IdsGoOn = (client : Client) (news : News)
    → IsNextId (last_of client) (id_of (hearing client news).act) (last_of (hearing client news).client)

-- no id is lost with a reference that is given away
abbrev pub IdsStay : Type 0
IdsStay = (client : Client) → last_of (setting_down client) ≡ last_of client

-- a client has a reference once it has started
abbrev pub HasReference : Type 0
HasReference = (client : Client) (reference : GroupRef) (expiration : Tick)
    → is_some (kept (starting client reference expiration).client).reference ≡ true

abbrev pub ReferenceStays : Type 0
ReferenceStays = (client : Client) (news : News)
    → is_some (kept (hearing client news).client).reference ≡ is_some (kept client).reference
