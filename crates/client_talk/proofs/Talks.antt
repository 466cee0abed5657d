-- The link that a client has open, through a dial, a request and what is heard behind it.
use Rattle.std.proofs.Common.{◌≡◌, ◌≢◌, ℕ, ◌+◌, ◌<◌, List, [], ◌∷◌, ◌++◌, length, take, Option, Some, None, Result, Ok, Err, IfOk, MatchOption, refl, sym, subst, ap, ◌∙◌, arith}
use Rattle.std.specs.Prelude.{option_map}
use Rattle.std.proofs.lemmas.List.{take_all}
use Rattle.ft_base.specs.declared.memory.NoMemory.{NoMemory}
use Rattle.ft_outside.specs.Outside.{next_count}
use Rattle.giop_messages.specs.declared.messages.ReplyMsg.{ReplyMsg}
use Rattle.giop_stream.specs.Sessions.{Serving}
use Rattle.outside_links.specs.Lending.{IsGained, Target}
use Rattle.client_talk.specs.declared.items.Item.{Item}
use Rattle.client_talk.specs.declared.items.Item.TheVariants as items
use Rattle.client_talk.specs.declared.lines.Line.{Line}
use Rattle.client_talk.specs.Hearing.{Hears, IsRead, counted}
use Rattle.client_talk.specs.Talking.{Apart, AreTalks, Attempts, Dialing, Dialled, Exchanges, IsTalk, Reaches, Talk, Talks, begins, begun, dialing, goes_back, hung_up, refused, stays_open}

-- ---- what is told of a dialer

pub same_dialing : (l l' : Option (List (List ℕ))) (t t' : Option (List Target)) (s s' : Option (List (List ℕ))) (f f' : ℕ)
    → l ≡ l' → t ≡ t' → s ≡ s' → f ≡ f' → dialing l t s f ≡ dialing l' t' s' f'
same_dialing l l' t t' s s' f f' a b c d = λ i. record { links = a i; targets = b i; sent = c i; faults = d i }

-- what is told of bytes that were written is what was written
told_is : (held : List ℕ) (told : Option (List ℕ)) (written : List ℕ) → told ≡ Some held → told ≡ option_map (λ _. written) told → Some held ≡ Some written
told_is held told written is same = sym is ∙ same ∙ ap (λ (o : Option (List ℕ)). option_map (λ _. written) o) is

pub sent_back : (s t : Option (List (List ℕ))) (told : Option (List ℕ)) (written : List ℕ) → IsGained s t told → told ≡ option_map (λ _. written) told
    → t ≡ option_map (λ sent. sent ++ written ∷ []) s
sent_back None t told written gained same = gained
sent_back (Some s) t told written gained same =
    gained.2 ∙ ap (λ (o : Option (List ℕ)). option_map (λ held. s ++ held ∷ []) o) (told_is gained.0 told written gained.1 same)

IsNone : {A : Type 0} → Option A → Type 0
IsNone None = Unit {0}
IsNone (Some x) = ⊥

none_is_some : {A : Type 0} (x : A) → None ≡ Some x → ⊥
unfolding IsNone
none_is_some x is = subst IsNone is tt

less : Option ℕ → ℕ
less None = 0
less (Some n) = n

pub others_out : (before after others : Option ℕ) → before ≡ option_map (λ n. n + 1) after → before ≡ option_map (λ n. n + 1) others → after ≡ others
unfolding less
others_out before None None a b = refl
others_out before None (Some m) a b = absurd (none_is_some (m + 1) (sym a ∙ b))
others_out before (Some n) None a b = absurd (none_is_some (n + 1) (sym b ∙ a))
others_out before (Some n) (Some m) a b = ap (λ (k : ℕ). Some k) (omega (arith, ap less (sym a ∙ b)))

-- ---- what was written

more_written : (told after : Option (List ℕ)) (written text : List ℕ) → after ≡ option_map (λ held. held ++ text) told → told ≡ option_map (λ _. written) told
    → after ≡ option_map (λ _. written ++ text) after
more_written None after written text gained same = gained ∙ ap (λ (o : Option (List ℕ)). option_map (λ _. written ++ text) o) (sym gained)
more_written (Some held) after written text gained same =
    gained ∙ ap (λ (o : Option (List ℕ)). option_map (λ held. held ++ text) o) same ∙ ap (λ (o : Option (List ℕ)). option_map (λ _. written ++ text) o) (sym gained)

module _ {K : Type 0} (left holds : K → Option (List ℕ)) (faults : K → ℕ) where
  -- a write failed
  pub write_fails : (request : List ℕ) (old new : Line K) (k : ℕ) → k < length request
      → holds new.link ≡ option_map (λ held. held ++ take k request) (holds old.link) → faults new.link ≡ next_count (faults old.link)
      → left new.link ≡ left old.link → new.session ≡ old.session → new.to ≡ old.to
      → (talk : Talk) → IsTalk left holds faults talk old → (after : Talk) × IsTalk left holds faults after new × Exchanges request items.Failed talk after
  write_fails request old new k short gained failed stay session to talk is = (
    record talk { written = talk.written ++ take k request; faults = next_count talk.faults },
    record {
      there = is.there ∙ sym to;
      read = subst (λ (s : Serving). IsRead talk.whole talk.given (left new.link) s) (sym session) (subst (λ (l : Option (List ℕ)). IsRead talk.whole talk.given l old.session) (sym stay) is.read);
      wrote = more_written (holds old.link) (holds new.link) talk.written (take k request) gained is.wrote;
      calm = failed ∙ ap next_count is.calm;
    },
    (k, omega (arith, short), refl),
  )

  module _ (request : List ℕ) (old new : Line K) (sent : K) (gained : holds sent ≡ option_map (λ held. held ++ request) (holds old.link)) (calm : faults sent ≡ faults old.link)
      (stay : left sent ≡ left old.link) (held : holds new.link ≡ holds sent) (to : new.to ≡ old.to) where
    ready : (talk : Talk) → IsTalk left holds faults talk old → IsRead talk.whole talk.given (left sent) old.session
    ready talk is = subst (λ (l : Option (List ℕ)). IsRead talk.whole talk.given l old.session) (sym stay) is.read

    wrote_all : (talk : Talk) → IsTalk left holds faults talk old → holds new.link ≡ option_map (λ _. talk.written ++ request) (holds new.link)
    wrote_all talk is = more_written (holds old.link) (holds new.link) talk.written request (held ∙ gained) is.wrote

    -- the request was written, and this was heard behind it
    hears_next : (talk : Talk) → IsTalk left holds faults talk old → (item : Item) → faults new.link ≡ counted item (faults sent)
        → Hears talk.whole talk.given (left new.link) new.session item → (after : Talk) × IsTalk left holds faults after new × Exchanges request item talk after
    hears_next talk is (items.Reply m) count hears = (
      record talk { given = talk.given ++ m ∷ []; written = talk.written ++ request },
      record { there = is.there ∙ sym to; read = hears.0; wrote = wrote_all talk is; calm = count ∙ calm ∙ is.calm },
      (refl, hears.1),
    )
    hears_next talk is items.Dial count hears = absurd hears
    hears_next talk is items.Failed count hears = (
      record talk { written = talk.written ++ take (length request) request; faults = next_count talk.faults },
      record {
        there = is.there ∙ sym to;
        read = hears;
        wrote = subst (λ (l : List ℕ). holds new.link ≡ option_map (λ _. talk.written ++ l) (holds new.link)) (sym (take_all (length request) request (omega arith))) (wrote_all talk is);
        calm = count ∙ ap next_count (calm ∙ is.calm);
      },
      (length request, omega arith, refl),
    )
    hears_next talk is items.Ended count hears = (
      record talk { written = talk.written ++ request },
      record { there = is.there ∙ sym to; read = hears.0; wrote = wrote_all talk is; calm = count ∙ calm ∙ is.calm },
      (refl, hears.1),
    )

    pub each_heard : (r : Result Item NoMemory)
        → IfOk r (λ item. (whole : Option (List ℕ)) (given : List ReplyMsg) → IsRead whole given (left sent) old.session → Hears whole given (left new.link) new.session item)
        → IfOk r (λ item. faults new.link ≡ counted item (faults sent))
        → IfOk r (λ item. (talk : Talk) → IsTalk left holds faults talk old → (after : Talk) × IsTalk left holds faults after new × Exchanges request item talk after)
    each_heard (Ok item) hears count = λ talk is. hears_next talk is item count (hears talk.whole talk.given (ready talk is))
    each_heard (Err e) hears count = tt

-- ---- a link to a target

module _ {K : Type 0} (left holds : K → Option (List ℕ)) (faults : K → ℕ) (to : Target) where
  abbrev IsDialled : Dialing → Dialing → Option (Line K) → Type 0
  IsDialled d e line = MatchOption line (e ≡ refused d) (λ line. (whole : Option (List ℕ)) × IsTalk left holds faults (begun to whole) line × Dialled to whole d e)

  abbrev IsReached : Option Talk → Dialing → Dialing → Option (Line K) → Type 0
  IsReached talk d e line = MatchOption line (Apart to talk × (e ≡ refused (hung_up talk d))) (λ now. (t : Talk) × IsTalk left holds faults t now × Reaches to talk d t e)

  -- a new one was dialled, after the other went back
  pub dials : (talk : Option Talk) (d mid e : Dialing) (line : Option (Line K)) → Apart to talk → mid ≡ hung_up talk d → IsDialled mid e line → IsReached talk d e line
  dials talk d mid e None other back dialled = (other, dialled ∙ ap refused back)
  dials talk d mid e (Some line) other back dialled = (
    begun to dialled.0,
    dialled.1,
    begins dialled.0 other refl (subst (λ (x : Dialing). Dialled to dialled.0 x e) back dialled.2),
  )

  -- no link was open
  pub from_none : (talk : Option Talk) (d e : Dialing) (line : Option (Line K)) → AreTalks left holds faults talk None → IsDialled d e line → IsReached talk d e line
  from_none None d e line is dialled = dials None d d e line tt refl dialled
  from_none (Some talk) d e line is dialled = absurd is

  -- the open link leads elsewhere, and went back
  pub redials : (talk : Option Talk) (line : Line K) (d mid e : Dialing) (now : Option (Line K)) → AreTalks left holds faults talk (Some line) → line.to ≢ to
      → ((t : Talk) → IsTalk left holds faults t line → mid ≡ hung_up (Some t) d) → IsDialled mid e now → IsReached talk d e now
  redials None line d mid e now is other back dialled = absurd is
  redials (Some talk) line d mid e now is other back dialled = dials (Some talk) d mid e now (λ same. other (sym is.there ∙ same)) (back talk is) dialled

-- ---- what an attempt comes to

module _ {K : Type 0} (left holds : K → Option (List ℕ)) (faults : K → ℕ) (to : Target) (request : List ℕ) (talk : Option Talk) (d at : Dialing) where
  -- a Reply was heard, and the link stays open
  pub answered : (m : ReplyMsg) (line now : Line K) (t : Talk) → IsTalk left holds faults t line → Reaches to talk d t at
      → ((t : Talk) → IsTalk left holds faults t line → (after : Talk) × IsTalk left holds faults after now × Exchanges request (items.Reply m) t after)
      → (next : Option Talk) × AreTalks left holds faults next (Some now) × Attempts to request (items.Reply m) talk d next at
  answered m line now t is reached exchanged =
      let x = exchanged t is in
      (Some x.0, x.1, record { talk = t; at = at; reached = reached; after = x.0; exchanged = x.2; then_open = refl; then_back = refl })

  -- it failed, or ended, and went back
  pub left_off : (item : Item) (line now : Line K) (e : Dialing) (t : Talk) → IsTalk left holds faults t line → Reaches to talk d t at
      → ((t : Talk) → IsTalk left holds faults t line → (after : Talk) × IsTalk left holds faults after now × Exchanges request item t after)
      → ((t : Talk) → IsTalk left holds faults t now → e ≡ hung_up (Some t) at)
      → ((t : Talk) → stays_open item t ≡ None) → ((t : Talk) → goes_back item t ≡ Some t) → Talks to request item talk d None e
  left_off item line now e t is reached exchanged back shut goes =
      let x = exchanged t is in
      record {
        talk = t;
        at = at;
        reached = reached;
        after = x.0;
        exchanged = x.2;
        then_open = sym (shut x.0);
        then_back = back x.0 x.1 ∙ ap (λ (o : Option Talk). hung_up o at) (sym (goes x.0));
      }
