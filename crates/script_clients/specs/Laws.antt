-- The ids of a client's attempts, over all of its invocations.
use Rattle.std.specs.Prelude.{◌≡◌, ℕ, Bool, Option, Some, None}
use Rattle.ft_base.specs.declared.numbers.GroupId.{GroupId}
use Rattle.ft_base.specs.declared.numbers.Tick.{Tick}
use Rattle.ft_base.specs.declared.requests.Request.{Request}
use Rattle.iogr_reference.specs.declared.references.GroupRef.{GroupRef}
use Rattle.client_retry.specs.Invocations.{News}
use Rattle.client_retry.specs.Clients.{last_of}
use Rattle.client_retry.specs.Laws.{IsNextId}
use Rattle.script_clients.specs.declared.answers.Told.{Told}
use Rattle.script_clients.specs.declared.answers.Told.TheVariants as told
use Rattle.script_clients.specs.Clients.{Client, Turn, taking, starting, after_news}

-- the id of the attempt that is made, if one is
abbrev pub id_told : Told → Option ℕ
id_told (told.Attempt attempt) = Some attempt.id
id_told (told.Adopted group version attempt) = Some attempt.id
id_told (told.Ended number end) = None
id_told told.Nothing = None

-- an attempt has the id one above the client's last, and is then the last; nothing else moves it
abbrev pub GoesOn : Client → Turn → Type 0
GoesOn c turn = IsNextId (last_of c.retry) (id_told turn.told) (last_of turn.client.retry)

abbrev pub IdsBegin : Type 0
IdsBegin = (c : Client) (reference : GroupRef) (expiration : Tick) (numbers versioned : Bool) (request : Request)
    → GoesOn c (starting c reference expiration numbers versioned request)

abbrev pub IdsGoOn : Type 0
IdsGoOn = (c : Client) (news : News) → GoesOn c (after_news c news)

-- a reference that is taken takes no id with it
abbrev pub IdsStay : Type 0
IdsStay = (c : Client) (group : GroupId) → last_of (taking c group).client.retry ≡ last_of c.retry
