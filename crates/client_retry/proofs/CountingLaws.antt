-- The numbers that are kept are those of the list of what was heard.
use Rattle.std.proofs.Common.{◌≡◌, ℕ, suc, ◌+◌, cond, List, ◌∷◌, Some, None, Result, Ok, Err, refl, sym, ap, subst, ◌∙◌, arith}
use Rattle.std.specs.Prelude.{count_by, take}
use Rattle.std.specs.List.{position_or_len}
use Rattle.std.proofs.lemmas.List.Sums.{sum_by-cons}
use Rattle.ft_base.specs.declared.numbers.Tick.{Tick}
use Rattle.iogr_reference.specs.declared.references.GroupRef.{GroupRef}
use Rattle.client_retry.specs.declared.answers.Act.{Act}
use Rattle.client_retry.specs.declared.answers.Act.TheVariants as acts
use Rattle.client_retry.specs.declared.answers.End.{End}
use Rattle.client_retry.specs.declared.answers.Heard.{Heard}
use Rattle.client_retry.specs.declared.meanings.Meaning.{Meaning}
use Rattle.client_retry.specs.declared.meanings.Meaning.TheVariants.{Unheard, Fault, Newer, Final}
use Rattle.client_retry.specs.Attempts.{at_first, at_fault}
use Rattle.client_retry.specs.Invocations.{News, Reply, Invocation, is_fault, is_newer, sends_again, adopted, faults_in, last_id, meanings_of, reference_of, faults_of, last_id_of, meaning_of, with_news, sent, sent_over, by_meaning, answer}
use Rattle.client_retry.specs.Clients.{Client, Idle, Busy, Turn, after, hearing}
use Rattle.client_retry.specs.Counters.{Picture, kept, StandsFor, Counted, counted, picture, failing, adopting, counting, read}

-- ---- how far the numbers move

one_more : (n : ℕ) → 1 + n ≡ suc n
one_more n = omega arith

faults_rise : (now : Tick) (ms : List Meaning) → faults_in (Fault now ∷ ms) ≡ faults_in ms + 1
faults_rise now ms =
    ap (λ k. count_by is_fault (take k (Fault now ∷ ms))) (one_more (position_or_len is_newer ms))
    ∙ sum_by-cons (λ m. cond (is_fault m) 1 0) (Fault now) (take (position_or_len is_newer ms) ms)
    ∙ omega arith

faults_stay : (ms : List Meaning) → faults_in (Unheard ∷ ms) ≡ faults_in ms
faults_stay ms =
    ap (λ k. count_by is_fault (take k (Unheard ∷ ms))) (one_more (position_or_len is_newer ms))
    ∙ sum_by-cons (λ m. cond (is_fault m) 1 0) Unheard (take (position_or_len is_newer ms) ms)
    ∙ omega arith

pub id_after_fault : (first : ℕ) (now : Tick) (ms : List Meaning) → last_id first (Fault now ∷ ms) ≡ last_id first ms + 1
id_after_fault first now ms = let e = sum_by-cons (λ m. cond (sends_again m) 1 0) (Fault now) ms in omega (arith, e)

pub id_after_newer : (first : ℕ) (other : GroupRef) (ms : List Meaning) → last_id first (Newer other ∷ ms) ≡ last_id first ms + 1
id_after_newer first other ms = let e = sum_by-cons (λ m. cond (sends_again m) 1 0) (Newer other) ms in omega (arith, e)

pub id_stays : (first : ℕ) (ms : List Meaning) → last_id first (Unheard ∷ ms) ≡ last_id first ms
id_stays first ms = let e = sum_by-cons (λ m. cond (sends_again m) 1 0) Unheard ms in omega (arith, e)

-- ---- one piece of news, by its meaning

same_open : (reference : GroupRef) (first : ℕ) (expiration : Tick) (l l' f f' : ℕ) → l ≡ l' → f ≡ f'
    → picture reference l (Some (record { first = first; expiration = expiration; faults = f }))
    ≡ picture reference l' (Some (record { first = first; expiration = expiration; faults = f' }))
same_open reference first expiration l l' f f' p q =
    λ i. picture reference (p i) (Some (record { first = first; expiration = expiration; faults = q i }))

with_act : (core core' : Picture) (act : Act) → core ≡ core' → counted core act ≡ counted core' act
with_act core core' act e = ap (λ c. counted c act) e

-- what is kept of an invocation that heard something with this meaning and goes on
abbrev pub open_of : Invocation → Meaning → Picture
open_of i m =
    picture (adopted i.reference (m ∷ meanings_of i)) (last_id i.first (m ∷ meanings_of i))
    (Some (record { first = i.first; expiration = i.expiration; faults = faults_in (m ∷ meanings_of i) }))

-- where this is done
abbrev pub left_of : Invocation → Meaning → Act → Picture
left_of i m (acts.Done end) = picture (adopted i.reference (m ∷ meanings_of i)) (last_id_of i) None
left_of i m (acts.Send place id) = open_of i m
left_of i m (acts.Adopted version place id) = open_of i m
left_of i m acts.Nothing = open_of i m

pub left_is : (i : Invocation) (news : News) (act : Act) → left_of i (meaning_of i news) act ≡ kept (after (with_news i news) (last_id_of i) act)
left_is i news (acts.Done end) = refl
left_is i news (acts.Send place id) = refl
left_is i news (acts.Adopted version place id) = refl
left_is i news acts.Nothing = refl

after_fault : (i : Invocation) (now : Tick) (attempt : Result ℕ End)
    → failing (reference_of i) (last_id_of i) (record { first = i.first; expiration = i.expiration; faults = faults_of i }) attempt
    ≡ counted (left_of i (Fault now) (sent (last_id_of i) attempt)) (sent (last_id_of i) attempt)
after_fault i now (Ok place) =
    with_act _ _ _ (same_open (reference_of i) i.first i.expiration _ _ _ _ (sym (id_after_fault i.first now (meanings_of i))) (sym (faults_rise now (meanings_of i))))
after_fault i now (Err end) = refl

after_newer : (i : Invocation) (other : GroupRef) (attempt : Result ℕ End)
    → adopting other (last_id_of i) (record { first = i.first; expiration = i.expiration; faults = faults_of i }) attempt
    ≡ counted (left_of i (Newer other) (sent_over other (last_id_of i) attempt)) (sent_over other (last_id_of i) attempt)
after_newer i other (Ok place) =
    with_act _ _ _ (same_open other i.first i.expiration _ _ _ _ (sym (id_after_newer i.first other (meanings_of i))) refl)
after_newer i other (Err end) = refl

act_of : Invocation → Meaning → Act
act_of i m = by_meaning (reference_of i) (faults_of i) (last_id_of i) i.expiration m

counts_one : (i : Invocation) (m : Meaning) → counting (kept (Busy i)) m ≡ counted (left_of i m (act_of i m)) (act_of i m)
unfolding act_of
counts_one i Unheard =
    with_act _ _ _ (same_open (reference_of i) i.first i.expiration _ _ _ _ (sym (id_stays i.first (meanings_of i))) (sym (faults_stay (meanings_of i))))
counts_one i (Fault now) = after_fault i now (at_fault (reference_of i) (faults_of i + 1) (last_id_of i) i.expiration now)
counts_one i (Newer other) = after_newer i other (at_first other (last_id_of i))
counts_one i (Final end) = refl

-- ---- the calls

abbrev turn_of : Turn → Counted
turn_of t = counted (kept t.client) t.act

counts_news : (i : Invocation) (news : News) → counting (kept (Busy i)) (meaning_of i news) ≡ turn_of (hearing (Busy i) news)
unfolding act_of
counts_news i news = counts_one i (meaning_of i news) ∙ with_act _ _ _ (left_is i news (answer i news))

reply_counts : (id : ℕ) (heard : Heard) (now : Tick) (client : Client)
    → counting (kept client) (read (kept client) id heard now) ≡ turn_of (hearing client (Reply id heard now))
reply_counts id heard now (Idle last None) = refl
reply_counts id heard now (Idle last (Some reference)) = refl
reply_counts id heard now (Busy i) = counts_news i (Reply id heard now)

-- the same by a core that stands for the client

pub replies : (id : ℕ) (heard : Heard) (now : Tick) (client : Client) (core : Picture) → StandsFor client core
    → counting core (read core id heard now) ≡ turn_of (hearing client (Reply id heard now))
replies id heard now client core stands =
    let P : Picture → Type 0 = λ c. counting c (read c id heard now) ≡ turn_of (hearing client (Reply id heard now)) in
    subst P (sym stands) (reply_counts id heard now client)
