-- The ids of a client's attempts go on one by one, and it keeps a reference.
use Rattle.std.specs.Prelude.{is_some}
use Rattle.std.proofs.Common.{◌≡◌, ℕ, ◌+◌, true, Result, Ok, Err, refl, ap, subst, ◌∙◌, arith}
use Rattle.ft_base.specs.declared.numbers.Tick.{Tick}
use Rattle.iogr_reference.specs.declared.references.GroupRef.{GroupRef}
use Rattle.client_retry.specs.declared.answers.Act.{Act}
use Rattle.client_retry.specs.declared.answers.Act.TheVariants.{Send, Adopted, Done, Nothing}
use Rattle.client_retry.specs.declared.answers.End.{End}
use Rattle.client_retry.specs.declared.meanings.Meaning.{Meaning}
use Rattle.client_retry.specs.declared.meanings.Meaning.TheVariants.{Unheard, Fault, Newer, Final}
use Rattle.client_retry.specs.Attempts.{at_first, at_fault}
use Rattle.client_retry.specs.Invocations.{Invocation, meanings_of, reference_of, faults_of, last_id_of, meaning_of, with_news, sent, sent_over, by_meaning, answer}
use Rattle.client_retry.specs.Clients.{Client, Idle, Busy, last_of, after, begun}
use Rattle.client_retry.specs.Counters.{Picture, kept}
use Rattle.client_retry.specs.Laws.{id_of, IsNextId, IdsBegin, IdsGoOn, IdsStay, HasReference, ReferenceStays}
use Rattle.client_retry.proofs.CountingLaws.{id_after_fault, id_after_newer, id_stays, left_of, left_is}

last_kept : (client : Client) → (kept client).last ≡ last_of client
last_kept (Idle last reference) = refl
last_kept (Busy i) = refl

fault_id : (i : Invocation) (now : Tick) (attempt : Result ℕ End)
    → IsNextId (last_id_of i) (id_of (sent (last_id_of i) attempt)) (left_of i (Fault now) (sent (last_id_of i) attempt)).last
fault_id i now (Ok place) = (refl, id_after_fault i.first now (meanings_of i))
fault_id i now (Err end) = refl

newer_id : (i : Invocation) (other : GroupRef) (attempt : Result ℕ End)
    → IsNextId (last_id_of i) (id_of (sent_over other (last_id_of i) attempt)) (left_of i (Newer other) (sent_over other (last_id_of i) attempt)).last
newer_id i other (Ok place) = (refl, id_after_newer i.first other (meanings_of i))
newer_id i other (Err end) = refl

abbrev done_of : Invocation → Meaning → Act
done_of i m = by_meaning (reference_of i) (faults_of i) (last_id_of i) i.expiration m

next_id : (i : Invocation) (m : Meaning) → IsNextId (last_id_of i) (id_of (done_of i m)) (left_of i m (done_of i m)).last
next_id i Unheard = id_stays i.first (meanings_of i)
next_id i (Fault now) = fault_id i now (at_fault (reference_of i) (faults_of i + 1) (last_id_of i) i.expiration now)
next_id i (Newer other) = newer_id i other (at_first other (last_id_of i))
next_id i (Final end) = refl

pub go_on : IdsGoOn
go_on (Idle last reference) news = refl
go_on (Busy i) news =
    let same = ap (λ (p : Picture). p.last) (left_is i news (answer i news)) ∙ last_kept (after (with_news i news) (last_id_of i) (answer i news)) in
    let P : ℕ → Type 0 = λ k. IsNextId (last_id_of i) (id_of (answer i news)) k in
    subst P same (next_id i (meaning_of i news))

begin_id : (last : ℕ) (reference : GroupRef) (expiration : Tick) (attempt : Result ℕ End)
    → IsNextId last (id_of (sent last attempt)) (last_of (after (begun last reference expiration) last (sent last attempt)))
begin_id last reference expiration (Ok place) = (refl, omega arith)
begin_id last reference expiration (Err end) = refl

pub begin : IdsBegin
begin client reference expiration = begin_id (last_of client) reference expiration (at_first reference (last_of client))

pub stay : IdsStay
stay (Idle last reference) = refl
stay (Busy i) = refl

-- ---- the reference

has_some : (i : Invocation) (last : ℕ) (act : Act) → is_some (kept (after i last act)).reference ≡ true
has_some i last (Send place id) = refl
has_some i last (Adopted version place id) = refl
has_some i last (Done end) = refl
has_some i last Nothing = refl

pub has : HasReference
has client reference expiration =
    has_some (begun (last_of client) reference expiration) (last_of client) (sent (last_of client) (at_first reference (last_of client)))

pub stays : ReferenceStays
stays (Idle last reference) news = refl
stays (Busy i) news = has_some (with_news i news) (last_id_of i) (answer i news)
