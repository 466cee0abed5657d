-- The ids of a client's attempts are those of client_retry's client.
use Rattle.std.proofs.Common.{◌≡◌, ℕ, ◌+◌, Some, None, Option, refl, sym, subst}
use Rattle.client_retry.specs.declared.answers.Act.{Act}
use Rattle.client_retry.specs.declared.answers.Act.TheVariants as acts
use Rattle.client_retry.specs.Invocations.{News, Invocation, last_id_of, with_news, answer, sent}
use Rattle.client_retry.specs.Attempts.{at_first}
use Rattle.client_retry.specs.Clients as retries
use Rattle.client_retry.specs.Counters.{kept}
use Rattle.client_retry.specs.Laws as retry_laws
use Rattle.script_clients.specs.declared.answers.Call.{Call}
use Rattle.script_clients.specs.Clients.{Client, told_of, going_on}
use Rattle.script_clients.specs.Laws.{id_told, GoesOn, IdsBegin, IdsGoOn, IdsStay}

-- what is told of an act of an open invocation has the act's id
same_id : (call : Call) (i : Invocation) (last : ℕ) (act : Act) → id_told (told_of call (kept (retries.after i last act)).reference act) ≡ retry_laws.id_of act
same_id call i last (acts.Send place id) = refl
same_id call i last (acts.Adopted version place id) = refl
same_id call i last (acts.Done end) = refl
same_id call i last acts.Nothing = refl

pub begin : retry_laws.IdsBegin → IdsBegin
begin law c reference expiration numbers versioned request =
    let last = retries.last_of c.retry in
    let call : Call = record { number = c.started + 1; versioned = versioned; request = request } in
    subst (λ (id : Option ℕ). retry_laws.IsNextId last id (retries.last_of (retries.starting c.retry reference expiration).client))
    (sym (same_id call (retries.begun last reference expiration) last (sent last (at_first reference last))))
    (law c.retry reference expiration)

-- the same of a client that hears something
next_told : retry_laws.IdsGoOn → (retry : retries.Client) (news : News) (call : Call)
    → retry_laws.IsNextId (retries.last_of retry)
    (id_told (told_of call (kept (retries.hearing retry news).client).reference (retries.hearing retry news).act))
    (retries.last_of (retries.hearing retry news).client)
next_told law (retries.Idle last None) news call = refl
next_told law (retries.Idle last (Some reference)) news call = refl
next_told law (retries.Busy i) news call =
    subst (λ (id : Option ℕ). retry_laws.IsNextId (last_id_of i) id (retries.last_of (retries.hearing (retries.Busy i) news).client))
    (sym (same_id call (with_news i news) (last_id_of i) (answer i news)))
    (law (retries.Busy i) news)

next_of : retry_laws.IdsGoOn → (c : Client) (news : News) (call : Option Call) → GoesOn c (going_on c call (retries.hearing c.retry news))
next_of law c news None = refl
next_of law c news (Some call) = next_told law c.retry news call

pub go_on : retry_laws.IdsGoOn → IdsGoOn
go_on law c news = next_of law c news c.call

pub stay : retry_laws.IdsStay → IdsStay
stay law c group = law c.retry
