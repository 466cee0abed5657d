-- The clients of a made script: each is idle between its calls, and has at most the reference of the script's group.
use Rattle.std.proofs.Common.{◌≡◌, ℕ, ◌+◌, ◌<◌, arith, Bool, true, false, if◌then◌else◌, List, [], ◌∷◌, length, Some, None, Result, refl, ap, ◌∙◌}
use Rattle.std.specs.Prelude.{◌==◌, ◌||◌, unwrap_or}
use Rattle.client_retry.specs.Attempts.{ending, target, unless_ended}
use Rattle.client_retry.specs.Clients as retries
use Rattle.client_retry.specs.Invocations as invocations
use Rattle.client_retry.specs.declared.answers.Act.{Act}
use Rattle.client_retry.specs.declared.answers.Act.TheVariants as act_words
use Rattle.client_retry.specs.declared.answers.End.{End}
use Rattle.client_retry.specs.declared.answers.End.TheVariants as ends
use Rattle.client_retry.specs.declared.answers.Heard.{Heard}
use Rattle.client_retry.specs.declared.limits.TheConstants.{LAST_ID}
use Rattle.client_retry.specs.declared.meanings.Meaning.{Meaning}
use Rattle.client_retry.specs.declared.meanings.Meaning.TheVariants as meanings
use Rattle.client_retry.specs.Meanings.{replied, said, said_late}
use Rattle.ft_base.specs.declared.numbers.GroupId.{GroupId}
use Rattle.ft_base.specs.declared.numbers.Tick.{Tick}
use Rattle.ft_base.specs.declared.requests.Request.{Request}
use Rattle.ft_base.specs.declared.views.View.{View}
use Rattle.host_ports.specs.Ports.{all_ports}
use Rattle.iogr_reference.specs.Views.{group_of_view}
use Rattle.iogr_reference.specs.declared.references.GroupRef.{GroupRef}
use Rattle.script_clients.specs.Clients.{Client, Turn, acting, attempt, beginning, hearing, starting, taking}
use Rattle.script_clients.specs.declared.answers.Attempt.{Attempt}
use Rattle.script_clients.specs.declared.answers.Call.{Call}
use Rattle.script_clients.specs.declared.answers.Told.TheVariants as tolds
use Rattle.shipped_servants.specs.Kinds.{type_id}
use Rattle.shipped_servants.specs.declared.kinds.Kind.TheVariants.{Account}
use Rattle.made_worlds.proofs.Worlds.{not_below}

abbrev pub bank_id : GroupId
bank_id = record { 0 = 1 }

-- the group's reference of a view
abbrev pub reference : View → GroupRef
reference view = group_of_view bank_id (type_id Account) view all_ports

-- ---- a client between its calls

-- how many calls it began and numbered, the id of its last attempt, and whether it has a reference
pub record Idler : Type 0 where
  pub started : ℕ
  pub numbered : ℕ
  pub last : ℕ
  pub met : Bool

abbrev pub idle : List ℕ → View → Idler → Client
idle name view c = record {
  name = name;
  started = c.started;
  numbered = c.numbered;
  others = [];
  retry = retries.Idle c.last (if c.met then Some (reference view) else None);
  call = None;
}

-- it gives its reference away, or has none, and has no other
abbrev pub left : List ℕ → Idler → Client
left name c = record { name = name; started = c.started; numbered = c.numbered; others = []; retry = retries.Idle c.last None; call = None }

pub takes : (name : List ℕ) (view : View) (c : Idler) → taking (idle name view c) bank_id ≡
    record { client = left name c; reference = if c.met then Some (reference view) else None }
takes name view c = go c.met
  where
    go : (met : Bool) → taking (idle name view (record c { met = met })) bank_id ≡
        record { client = left name c; reference = if met then Some (reference view) else None }
    go true = refl
    go false = refl

pub goes_by : (view : View) (met : Bool) → unwrap_or (if met then Some (reference view) else None) (reference view) ≡ reference view
goes_by view true = refl
goes_by view false = refl

-- ---- a call

abbrev pub call_of : Idler → Request → Call
call_of c q = record { number = c.started + 1; versioned = true; request = q }

-- it waits for the reply to its first attempt
abbrev pub busy : List ℕ → View → Idler → Tick → Request → Client
busy name view c expiration q = record {
  name = name;
  started = c.started + 1;
  numbered = c.numbered + 1;
  others = [];
  retry = retries.Busy (retries.begun c.last (reference view) expiration);
  call = Some (call_of c q);
}

abbrev pub first_attempt : View → Idler → Request → Attempt
first_attempt view c q = attempt (call_of c q) (reference view) (target (reference view) 0) (c.last + 1)

pub starts : (name : List ℕ) (view : View) (c : Idler) (expiration : Tick) (q : Request) → c.last < LAST_ID → (length (reference view).profiles == 0) ≡ false →
    starting (left name c) (reference view) expiration true true q ≡ record { client = busy name view c expiration q; told = tolds.Attempt (first_attempt view c q) }
starts name view c expiration q early some =
    ap by (λ i. unless_ended (ending (some i) (ends.Transient 0 0) ∷ ending (unspent i) ends.IdsSpent ∷ []) (target (reference view) 0))
  where
    by : Result ℕ End → Turn
    by attempt =
        let act = invocations.sent c.last attempt in
        beginning (left name c) true (call_of c q) (record { client = retries.after (retries.begun c.last (reference view) expiration) c.last act; act = act })

    unspent : (c.last == LAST_ID) ≡ false
    unspent = grind (arith, early)

-- ---- its reply

abbrev pub after_call : Idler → Idler
after_call c = record { started = c.started + 1; numbered = c.numbered + 1; last = c.last + 1; met = true }

replied_last : (n : ℕ) (m : Meaning) → replied n (n + 0) n m ≡ m
replied_last n m =
    let first = not_below n n (omega arith) in
    let later = not_below (n + 0) n (omega arith) in
    let late = not_below n (n + 0) (omega arith) in
    λ i. if first i || later i then meanings.Unheard else if late i then said_late m else m

-- a reply that ends it
pub hears : (name : List ℕ) (view : View) (c : Idler) (expiration : Tick) (q : Request) (heard : Heard) (now : Tick) (end : End) →
    said (reference view) now heard ≡ meanings.Final end →
    hearing (busy name view c expiration q) (c.last + 1) heard now ≡ record { client = idle name view (after_call c); told = tolds.Ended (c.started + 1) end }
hears name view c expiration q heard now end final =
    ap by acts ∙ (λ i. record { client = record (busy name view c expiration q) { retry = retries.Idle (last_is i) (Some (adopts i)); call = None }; told = tolds.Ended (c.started + 1) end })
  where
    i : invocations.Invocation
    i = retries.begun c.last (reference view) expiration

    news : invocations.News
    news = invocations.Reply (c.last + 1) heard now

    by : Act → Turn
    by act = acting (busy name view c expiration q) (call_of c q) (record { client = retries.after (invocations.with_news i news) (invocations.last_id_of i) act; act = act })

    means : invocations.meaning_of i news ≡ meanings.Final end
    means = replied_last (c.last + 1) (said (reference view) now heard) ∙ final

    acts : invocations.answer i news ≡ act_words.Done end
    acts = ap (invocations.by_meaning (reference view) 0 (c.last + 1 + 0) expiration) means

    last_is : c.last + 1 + 0 ≡ c.last + 1
    last_is = omega arith

    adopts : invocations.reference_of (invocations.with_news i news) ≡ reference view
    adopts = ap (λ (m : Meaning). invocations.adopted (reference view) (m ∷ [])) means
