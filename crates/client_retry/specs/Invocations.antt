-- An invocation is what it began with, and the list of what it heard since. All else is read from that list.
-- (Chapter 23, "Extensions to CORBA Failover Semantics".)
use Rattle.std.specs.Prelude.{ℕ, ◌+◌, Bool, true, false, List, [], ◌∷◌, count_by, Result, Ok, Err}
use Rattle.std.specs.List.{before_first}
use Rattle.ft_base.specs.declared.numbers.Tick.{Tick}
use Rattle.iogr_reference.specs.declared.references.GroupRef.{GroupRef}
use Rattle.client_retry.specs.declared.answers.Act.{Act}
use Rattle.client_retry.specs.declared.answers.Act.TheVariants as acts
use Rattle.client_retry.specs.declared.answers.End.{End}
use Rattle.client_retry.specs.declared.answers.Heard.{Heard}
use Rattle.client_retry.specs.declared.meanings.Meaning.{Meaning}
use Rattle.client_retry.specs.declared.meanings.Meaning.TheVariants.{Unheard, Fault, Newer, Final}
use Rattle.client_retry.specs.Meanings.{said, replied}
use Rattle.client_retry.specs.Attempts.{at_first, at_fault}

-- what a client hears, and when: a reply by its request id, with what it says; or that the last attempt gets
-- none, since its time is over or its link failed
pub data News : Type 0 where
  Reply : ℕ → Heard → Tick → News
  Silence : Tick → News

pub record Invocation : Type 0 where
  -- the reference that it began with
  pub reference : GroupRef
  pub expiration : Tick
  -- the id of its first attempt
  pub first : ℕ
  -- what it heard, the newest first
  pub heard : List News

-- ---- what is read from the meanings of what it heard, the newest first

abbrev pub is_fault : Meaning → Bool
is_fault (Fault now) = true
is_fault _ = false

abbrev pub is_newer : Meaning → Bool
is_newer (Newer reference) = true
is_newer _ = false

-- it sent again at each fault and at each newer reference
abbrev pub sends_again : Meaning → Bool
sends_again (Fault now) = true
sends_again (Newer reference) = true
sends_again _ = false

-- the last reference that it adopted; the one that it began with where it adopted none
abbrev pub adopted : GroupRef → List Meaning → GroupRef
adopted reference [] = reference
adopted reference (Newer other ∷ earlier) = other
adopted reference (_ ∷ earlier) = adopted reference earlier

-- the faults since then
abbrev pub faults_in : List Meaning → ℕ
faults_in meanings = count_by is_fault (before_first is_newer meanings)

-- the id of its last attempt: each attempt has the id behind the last
abbrev pub last_id : ℕ → List Meaning → ℕ
last_id first meanings = first + count_by sends_again meanings

-- what news mean after those before
abbrev pub meaning : GroupRef → ℕ → List Meaning → News → Meaning
meaning reference first earlier (Reply id heard now) = replied first (last_id first earlier) id (said (adopted reference earlier) now heard)
meaning reference first earlier (Silence now) = Fault now

abbrev pub with_meaning : GroupRef → ℕ → List Meaning → News → List Meaning
with_meaning reference first earlier news = meaning reference first earlier news ∷ earlier

abbrev pub meanings : GroupRef → ℕ → List News → List Meaning
meanings reference first [] = []
meanings reference first (news ∷ earlier) = with_meaning reference first (meanings reference first earlier) news

-- ---- an invocation

abbrev pub meanings_of : Invocation → List Meaning
meanings_of i = meanings i.reference i.first i.heard

abbrev pub reference_of : Invocation → GroupRef
reference_of i = adopted i.reference (meanings_of i)

abbrev pub faults_of : Invocation → ℕ
faults_of i = faults_in (meanings_of i)

abbrev pub last_id_of : Invocation → ℕ
last_id_of i = last_id i.first (meanings_of i)

abbrev pub meaning_of : Invocation → News → Meaning
meaning_of i news = meaning i.reference i.first (meanings_of i) news

abbrev pub with_news : Invocation → News → Invocation
with_news i news = record i { heard = news ∷ i.heard }

-- ---- what it does

-- an attempt has the id behind the client's last
abbrev pub sent : ℕ → Result ℕ End → Act
sent last (Ok place) = acts.Send place (last + 1)
sent last (Err end) = acts.Done end

abbrev pub sent_over : GroupRef → ℕ → Result ℕ End → Act
sent_over reference last (Ok place) = acts.Adopted reference.version place (last + 1)
sent_over reference last (Err end) = acts.Done end

-- by the reference, the faults over it, the last id and the expiration; what is sent over a newer reference
-- asks for no expiration
abbrev pub by_meaning : GroupRef → ℕ → ℕ → Tick → Meaning → Act
by_meaning reference faults last expiration Unheard = acts.Nothing
by_meaning reference faults last expiration (Fault now) = sent last (at_fault reference (faults + 1) last expiration now)
by_meaning reference faults last expiration (Newer other) = sent_over other last (at_first other last)
by_meaning reference faults last expiration (Final end) = acts.Done end

abbrev pub answer : Invocation → News → Act
answer i news = by_meaning (reference_of i) (faults_of i) (last_id_of i) i.expiration (meaning_of i news)
