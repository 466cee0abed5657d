-- A request is answered in the form that its operation gives; and a host that stops is told by its answer.
use Rattle.std.proofs.Common.{◌≡◌, ℕ, zero, suc, ◌<◌, ◌&&◌, ◌||◌, max, Bool, true, false, List, [], ◌∷◌, ◌++◌, length, Option, Some, None, Result, Ok, Err, refl, sym, subst, ◌∙◌, arith}
use Rattle.std.specs.Prelude.{nat_lt, nat_le, nat_eq, slice_get}
use Rattle.std.proofs.lemmas.Bool.Decides.{nat_tests, Decides-int_eq}
use Rattle.std.proofs.lemmas.Slice.Eq.{bytes_eq-Decides}
use Rattle.ft_base.specs.Machine.{Machine, Fits, IsGivenAs}
use Rattle.ft_base.specs.Journal.{Entry, AllFit, held, is_held, is_held_by, last_place, later_or, reply_at}
use Rattle.ft_base.specs.Laws.{Stays, Gives, AllGoOnFitting, RepliesAreGiven}
use Rattle.ft_base.specs.declared.decisions.Decision.{Decision}
use Rattle.ft_base.specs.declared.decisions.Stop.{Stop}
use Rattle.ft_base.specs.declared.decisions.Stop.TheVariants.{Never, AfterAppend, AfterExecute}
use Rattle.ft_base.specs.declared.limits.TheConstants.{JOURNAL_LIMIT}
use Rattle.ft_base.specs.declared.numbers.HostNo.{HostNo}
use Rattle.ft_base.specs.declared.numbers.Tick.{Tick}
use Rattle.ft_base.specs.declared.numbers.Version.{Version}
use Rattle.ft_base.specs.declared.requests.Key.{Key}
use Rattle.ft_base.specs.declared.requests.Request.{Request}
use Rattle.ft_base.specs.declared.requests.Signature.{Signature}
use Rattle.sys_faults.specs.declared.answers.Answer.{Answer}
use Rattle.sys_faults.specs.declared.answers.Answer.TheVariants.{Done, System, Forward, ForwardPerm}
use Rattle.group_model.specs.declared.asking.Asked.{Asked}
use Rattle.group_model.specs.declared.events.Event.TheVariants as events
use Rattle.group_model.specs.declared.events.GroupAnswer.{GroupAnswer}
use Rattle.group_model.specs.declared.events.GroupAnswer.TheVariants.{Reply, Down}
use Rattle.group_model.specs.declared.events.Out.{Out}
use Rattle.group_model.specs.declared.refusals.Refusal.{Refusal}
use Rattle.group_model.specs.Plain.{Common, Host, Group, with_ran, caught_up, put}
use Rattle.group_model.specs.Turns.{Turn, unchanged}
use Rattle.group_model.specs.Asking.{asked_version, signature_asked}
use Rattle.group_model.specs.Views.{AreKept, StillHas, newest}
use Rattle.group_model.specs.Decisions.{refused_by_view, request_with, args_for, request_named, known_then, looks_up, request_in}
use Rattle.ft_base.specs.Admissions.{admission, by_key, by_room, against_held, against_entry, expires_at, says_same}
use Rattle.ft_base.specs.declared.admissions.Admission.{Admission}
use Rattle.ft_base.specs.declared.admissions.Admission.TheVariants.{Expired, Same, Other, Full, New}
use Rattle.group_model.specs.Serving.{accepted, admitted, served_or, unless_bad, on_request}
use Rattle.group_model.specs.Events.{if_up, turn, turn_of, after_event}
use Rattle.group_model.specs.Agreeing.{Agrees, IsSound, IsSoundCommon, IsSoundHost}
use Rattle.group_model.specs.Answering.{IsAnswered, IsReplied, IsToldBy}
use Rattle.group_model.proofs.Choosing.{either_so}
use Rattle.group_model.proofs.Growing.{either}
use Rattle.group_model.proofs.Keeping.{knows_then, known_has}
use Rattle.group_model.proofs.Knowing.{ErrIs, IsToldAt, request_is}
use Rattle.group_model.proofs.Reading.{CanonicalForms, OkIs, Runs, ok_so, requests_run, unless_ok}
use Rattle.group_model.proofs.Sending.{got_pushed}
use Rattle.group_model.proofs.Viewing.{or_parts}

-- ---- the laws that are used

pub record AnswerLaws : Type 0 where
  pub fitting : AllGoOnFitting
  pub forms : CanonicalForms
  pub given : RepliesAreGiven

-- ---- a repeat

-- the entry of a repeat, which is of the same operation and the same logical invocation
pub record Repeats (journal : List Entry) (q : Request) (i : ℕ) : Type 0 where
  pub entry : Entry
  pub at : slice_get journal i ≡ Some entry
  pub same_key : entry.request.key ≡ q.key
  pub same_op : q.op ≡ entry.request.op

abbrev pub IfSame : (ℕ → Type 0) → Admission → Type 0
IfSame P (Expired e) = Unit {0}
IfSame P (Same i) = P i
IfSame P (Other i) = Unit {0}
IfSame P Full = Unit {0}
IfSame P New = Unit {0}

both_hold : (a b : Bool) → (a && b) ≡ true → (a ≡ true) × (b ≡ true)
both_hold true b e = (refl, e)
both_hold false b e = absurd cc

-- the place of the last of which a test holds
record IsPlaced {A : Type 0} (test : A → Bool) (xs : List A) (i : ℕ) : Type 0 where
  value : A
  at : slice_get xs i ≡ Some value
  holds : test value ≡ true

is_placed : {A : Type 0} (test : A → Bool) (xs : List A) (i : ℕ) → last_place test xs ≡ Some i → IsPlaced test xs i
unfolding last_place
is_placed test [] i e = absurd cc
is_placed test (x ∷ xs) i e = go (λ j some. is_placed test xs j some) (last_place test xs) refl (test x) refl e where
  go : ((j : ℕ) → last_place test xs ≡ Some j → IsPlaced test xs j) → (o : Option ℕ) → last_place test xs ≡ o → (b : Bool) → test x ≡ b → later_or o b ≡ Some i →
      IsPlaced test (x ∷ xs) i
  go behind None none true holds f =
      subst (IsPlaced test (x ∷ xs)) (let k : 0 ≡ i = cc in k) (record { value = x; at = refl; holds = holds })
  go behind None none false holds f = absurd cc
  go behind (Some j) some b holds f =
      let p = behind j some in
      subst (IsPlaced test (x ∷ xs)) (let k : suc j ≡ i = cc in k) (record { value = p.value; at = p.at; holds = p.holds })

-- an entry that holds a key, with the same expiration, has this key
one_key : (now : ℕ) (key : Key) (o : Option Key) → is_held_by now key o ≡ true → expires_at key.expiration.0 o ≡ true → o ≡ Some key
one_key now key None holds same = absurd cc
one_key now key (Some other) holds same =
    let call = both_hold _ _ (both_hold _ _ holds).0 in
    let client : other.client ≡ key.client = sym ((bytes_eq-Decides key.client other.client).0 call.0) in
    let retention : other.retention.0 ≡ key.retention.0 = sym ((Decides-int_eq key.retention.0 other.retention.0).0 call.1) in
    let expiration : other.expiration.0 ≡ key.expiration.0 = grind (arith, nat_tests, same) in
    λ i. Some (record { client = client i; retention = record { 0 = retention i }; expiration = record { 0 = expiration i } })

room_repeats : (journal : List Entry) (q : Request) → IfSame (Repeats journal q) (by_room (length journal))
room_repeats journal q = either_so (IfSame (Repeats journal q)) (nat_le JOURNAL_LIMIT (length journal)) Full New (λ full. tt) (λ room. tt)

entry_repeats : (journal : List Entry) (now : ℕ) (q : Request) (key : Key) (i : ℕ) (o : Option Entry) → q.key ≡ Some key →
    IsPlaced (is_held now key) journal i → slice_get journal i ≡ o → IfSame (Repeats journal q) (against_entry i q key o)
entry_repeats journal now q key i None asked placed at = tt
entry_repeats journal now q key i (Some e) asked placed at =
    let holds : is_held now key e ≡ true = subst (λ (x : Entry). is_held now key x ≡ true) (let k : placed.value ≡ e = cc (placed.at, at) in k) placed.holds in
    either_so (IfSame (Repeats journal q)) (says_same q key e.request) (Same i) (Other i)
    (λ same.
    let says = both_hold _ _ same in
    record {
      entry = e;
      at = at;
      same_key = one_key now key e.request.key holds says.1 ∙ sym asked;
      same_op = (bytes_eq-Decides q.op e.request.op).0 (both_hold _ _ says.0).0;
    }) (λ other. tt)

held_repeats : (journal : List Entry) (now : ℕ) (q : Request) (key : Key) (o : Option ℕ) → q.key ≡ Some key → held journal key now ≡ o →
    IfSame (Repeats journal q) (against_held journal q key o)
held_repeats journal now q key None asked is = room_repeats journal q
held_repeats journal now q key (Some i) asked is =
    entry_repeats journal now q key i (slice_get journal i) asked (is_placed (is_held now key) journal i is) refl

pub key_repeats : (journal : List Entry) (now : ℕ) (q : Request) (o : Option Key) → q.key ≡ o → IfSame (Repeats journal q) (by_key journal now q o)
key_repeats journal now q None asked = room_repeats journal q
key_repeats journal now q (Some key) asked =
    either_so (IfSame (Repeats journal q)) (nat_le key.expiration.0 now) (Expired key.expiration) (against_held journal q key (held journal key now))
    (λ past. tt) (λ later. held_repeats journal now q key (held journal key now) asked refl)

-- ---- the request that is asked for is of the operation that is asked for

abbrev IsFor : Machine → Option (List ℕ) → Request → Type 0
IsFor m op q = signature_asked m op ≡ m.signature q.op

with_for : (m : Machine) (asked : Asked) (op : List ℕ) (r : Result (List ℕ) Refusal) → OkIs (IsFor m (Some op)) (request_with asked op r)
with_for m asked op (Err refused) = tt
with_for m asked op (Ok args) = refl

named_for : (m : Machine) (known : ℕ) (asked : Asked) (op : Option (List ℕ)) → OkIs (IsFor m op) (request_named m known asked op)
named_for m known asked None = tt
named_for m known asked (Some op) = with_for m asked op (args_for known (m.signature op) asked.body)

request_for : (m : Machine) (c : Common) (host known : ℕ) (asked : Asked) → OkIs (IsFor m asked.op) (request_in m c host known asked)
request_for m c host known asked =
    unless_ok (IsFor m asked.op) (refused_by_view c host (asked_version known asked.version) known) (request_named m known asked asked.op)
    (named_for m known asked asked.op)

-- ---- what a host knows when it is asked

knows_some : (known : ℕ) → nat_eq known 0 ≡ false → 0 < known
knows_some zero e = absurd cc
knows_some (suc known) e = omega arith

known_some : (newest known : ℕ) (asked : Option Version) → 0 < newest → 0 < known_then newest known asked
known_some newest known None some =
    either_so (λ (n : ℕ). 0 < n) (nat_eq known 0) newest known (λ none. some) (λ knows. knows_some known knows)
known_some newest known (Some asked) some =
    either_so (λ (n : ℕ). 0 < n) (nat_eq known 0 || nat_lt known asked.0) newest known (λ looks. some)
    (λ knows. knows_some known (or_parts (nat_eq known 0) (nat_lt known asked.0) knows).0)

told_answered : (m : Machine) (c : Common) (op : Option (List ℕ)) (known : ℕ) (answer : Answer) → StillHas c known → IsToldAt known answer →
    IsAnswered m c op answer
told_answered m c op known (Done outcome) has told = absurd told
told_answered m c op known (System fault) has told = told
told_answered m c op known (Forward version) has told = (omega (arith, has.0, told), omega (arith, has.1, told))
told_answered m c op known (ForwardPerm version) has told = (omega (arith, has.0, told), omega (arith, has.1, told))

refused_answered : (m : Machine) (c : Common) (op : Option (List ℕ)) (host known : ℕ) (asked : Asked) → AreKept c.first_kept c.views → StillHas c known →
    ErrIs (λ x. IsAnswered m c op x.answer) (request_in m c host known asked)
refused_answered m c op host known asked kept has =
    request_is (λ x. IsAnswered m c op x.answer) m c host known asked
    (λ d a e told. told_answered m c op known a has told) (λ d a e told. told_answered m c op (newest c) a (kept.last, omega arith) told)

-- ---- a turn

abbrev AnswerIs : (Answer → Type 0) → GroupAnswer → Type 0
AnswerIs P (Reply decision None out) = Unit {0}
AnswerIs P (Reply decision (Some answer) out) = P answer
AnswerIs P other = Unit {0}

abbrev Answers : Machine → Option (List ℕ) → Turn → Type 0
Answers m op t = AnswerIs (IsAnswered m t.common op) t.answer

-- a journal of a servant's requests, and one more of them
record MayAnswer (m : Machine) (c : Common) (op : Option (List ℕ)) (q : Request) : Type 0 where
  pub stays : Stays m
  pub gives : Gives m
  pub opens : m.is_state c.opening ≡ true
  pub fit : AllFit m c.journal
  pub fits : Fits m q
  pub for : IsFor m op q

given_for : (m : Machine) (op : Option (List ℕ)) (c : Common) (s : Option Signature) (journal : List Entry) (i : ℕ) → signature_asked m op ≡ s →
    IsGivenAs s (reply_at m c.opening journal i) → IsAnswered m c op (Done (reply_at m c.opening journal i))
given_for m op c s journal i is given = subst (λ (x : Option Signature). IsGivenAs x (reply_at m c.opening journal i)) (sym is) given

accepted_answers : (laws : AnswerLaws) (m : Machine) (c : Common) (h : Host) (host now : ℕ) (op : Option (List ℕ)) (q : Request) (stop : Stop) → MayAnswer m c op q →
    Answers m op (accepted m c h host now q stop)
accepted_answers laws m c h host now op q Never may =
    let e : Entry = record { at = now; request = q } in
    given_for m op c (m.signature q.op) (c.journal ++ e ∷ []) (length c.journal) may.for
    (laws.given m may.stays may.gives c.opening (c.journal ++ e ∷ []) (length c.journal) e may.opens (laws.fitting m c.journal e may.fit may.fits) (got_pushed c.journal e))
accepted_answers laws m c h host now op q AfterAppend may = tt
accepted_answers laws m c h host now op q AfterExecute may = tt

repeat_answers : (laws : AnswerLaws) (m : Machine) (c : Common) (op : Option (List ℕ)) (q : Request) (i : ℕ) → MayAnswer m c op q → Repeats c.journal q i →
    IsAnswered m c op (Done (reply_at m c.opening c.journal i))
repeat_answers laws m c op q i may repeats =
    given_for m op c (m.signature repeats.entry.request.op) c.journal i (subst (λ (o : List ℕ). signature_asked m op ≡ m.signature o) repeats.same_op may.for)
    (laws.given m may.stays may.gives c.opening c.journal i repeats.entry may.opens may.fit repeats.at)

admitted_answers : (laws : AnswerLaws) (m : Machine) (c : Common) (h : Host) (host now : ℕ) (op : Option (List ℕ)) (q : Request) (stop : Stop) (fails : Bool) (a : Admission) →
    MayAnswer m c op q → IfSame (Repeats c.journal q) a → Answers m op (admitted m c h host now q stop fails a)
admitted_answers laws m c h host now op q stop fails (Expired e) may repeats = tt
admitted_answers laws m c h host now op q stop fails (Same i) may repeats = repeat_answers laws m c op q i may repeats
admitted_answers laws m c h host now op q stop fails (Other i) may repeats = tt
admitted_answers laws m c h host now op q stop fails Full may repeats = tt
admitted_answers laws m c h host now op q stop true New may repeats = tt
admitted_answers laws m c h host now op q stop false New may repeats = accepted_answers laws m c h host now op q stop may

served_or_answers : (laws : AnswerLaws) (m : Machine) (c : Common) (h : Host) (host clock : ℕ) (op : Option (List ℕ)) (stop : Stop) (fails : Bool) (r : Result Request Refusal) →
    ErrIs (λ x. IsAnswered m c op x.answer) r → ((q : Request) → r ≡ Ok q → MayAnswer m (with_ran (length c.journal) c) op q) →
    Answers m op (served_or m c h host clock stop fails r)
served_or_answers laws m c h host clock op stop fails (Err refused) told may = told
served_or_answers laws m c h host clock op stop fails (Ok q) told may =
    let now = max clock c.time in
    admitted_answers laws m (with_ran (length c.journal) c) (caught_up c h) host now op q stop fails (admission c.journal now q) (may q refl)
    (key_repeats c.journal now q q.key refl)

unless_bad_answers : (m : Machine) (op : Option (List ℕ)) (bad : Option ℕ) (c : Common) (h : Host) (t : Turn) → Answers m op t → Answers m op (unless_bad bad c h t)
unless_bad_answers m op None c h t answers = answers
unless_bad_answers m op (Some id) c h t answers = tt

request_answers : (laws : AnswerLaws) (m : Machine) (c : Common) (h : Host) (host : HostNo) (clock : ℕ) (asked : Asked) (stop : Stop) (fails : Bool) → Stays m → Gives m →
    IsSoundCommon m c → IsSoundHost c h → ((known : ℕ) (q : Request) → request_in m c host.0 known asked ≡ Ok q → Runs m q) →
    Answers m asked.op (on_request m c h host.0 clock asked stop fails)
request_answers laws m c h host clock asked stop fails stays gives s x runs =
    let known = known_then (newest c) h.known asked.version in
    let h' : Host = record h { known = known } in
    let some = known_some (newest c) h.known asked.version s.views.some in
    let may = knows_then c (looks_up h.known asked.version) h.known s.kept x.known in
    unless_bad_answers m asked.op asked.bad_context c h (served_or m c h' host.0 clock stop fails (request_in m c host.0 known asked))
    (served_or_answers laws m c h' host.0 clock asked.op stop fails (request_in m c host.0 known asked)
    (refused_answered m c asked.op host.0 known asked s.kept (known_has c known some may))
    (λ q is. record {
      stays = stays;
      gives = gives;
      opens = s.opens;
      fit = s.journal.fit;
      fits = (runs known q is).0;
      for = ok_so (IsFor m asked.op) (request_in m c host.0 known asked) q is (request_for m c host.0 known asked);
    }))

if_up_answers : (m : Machine) (op : Option (List ℕ)) (c : Common) (h : Host) (t : Turn) → Answers m op t → Answers m op (if_up c h t)
if_up_answers m op c h t answers = either (Answers m op) h.up t (unchanged c h Down) answers tt

pub answers_are_given : (laws : AnswerLaws) (m : Machine) (g : Group) (fails : Bool) (host : HostNo) (clock : Tick) (asked : Asked) (stop : Stop)
    (decision : Decision) (answer : Answer) (out : List Out) → Stays m → Gives m → IsSound m g → Agrees m (events.Request host clock asked stop) g →
    (turn_of m g (events.Request host clock asked stop) fails).answer ≡ Reply decision (Some answer) out →
    IsAnswered m (after_event m g (events.Request host clock asked stop) fails).common asked.op answer
answers_are_given laws m g fails host clock asked stop decision answer out stays gives sound agrees is =
    let c = g.common in
    let h = g.hosts host.0 in
    let t = turn_of m g (events.Request host clock asked stop) fails in
    subst (AnswerIs (IsAnswered m t.common asked.op)) is
    (if_up_answers m asked.op c h (on_request m c h host.0 clock.0 asked stop fails)
    (request_answers laws m c h host clock.0 asked stop fails stays gives sound.common (sound.hosts host.0)
    (λ known q is. requests_run laws.forms m c host.0 known asked q agrees.brought.octets is)))

-- ---- whether there is a reply, and whether the host stopped

record IsTold (up : Bool) (t : Turn) : Type 0 where
  pub replied : IsReplied up t.answer
  pub told : IsToldBy t.host t.answer

-- of a host that is up
accepted_told : (m : Machine) (c : Common) (h : Host) (host now : ℕ) (q : Request) (stop : Stop) → h.up ≡ true → IsTold h.up (accepted m c h host now q stop)
accepted_told m c h host now q Never up = record { replied = up; told = up }
accepted_told m c h host now q AfterAppend up = record { replied = up; told = (refl, refl) }
accepted_told m c h host now q AfterExecute up = record { replied = up; told = (refl, refl) }

admitted_told : (m : Machine) (c : Common) (h : Host) (host now : ℕ) (q : Request) (stop : Stop) (fails : Bool) (a : Admission) → h.up ≡ true →
    IsTold h.up (admitted m c h host now q stop fails a)
admitted_told m c h host now q stop fails (Expired e) up = record { replied = up; told = up }
admitted_told m c h host now q stop fails (Same i) up = record { replied = up; told = up }
admitted_told m c h host now q stop fails (Other i) up = record { replied = up; told = up }
admitted_told m c h host now q stop fails Full up = record { replied = up; told = up }
admitted_told m c h host now q stop true New up = record { replied = up; told = up }
admitted_told m c h host now q stop false New up = accepted_told m c h host now q stop up

served_or_told : (m : Machine) (c : Common) (h : Host) (host clock : ℕ) (stop : Stop) (fails : Bool) (r : Result Request Refusal) → h.up ≡ true →
    IsTold h.up (served_or m c h host clock stop fails r)
served_or_told m c h host clock stop fails (Err refused) up = record { replied = up; told = up }
served_or_told m c h host clock stop fails (Ok q) up =
    let now = max clock c.time in
    let t = admitted_told m (with_ran (length c.journal) c) (caught_up c h) host now q stop fails (admission c.journal now q) up in
    record { replied = t.replied; told = t.told }

unless_bad_told : (bad : Option ℕ) (c : Common) (h : Host) (t : Turn) → h.up ≡ true → IsTold h.up t → IsTold h.up (unless_bad bad c h t)
unless_bad_told None c h t up told = told
unless_bad_told (Some id) c h t up told = record { replied = up; told = up }

request_told : (m : Machine) (c : Common) (h : Host) (host clock : ℕ) (asked : Asked) (stop : Stop) (fails : Bool) → h.up ≡ true →
    IsTold h.up (on_request m c h host clock asked stop fails)
request_told m c h host clock asked stop fails up =
    let known = known_then (newest c) h.known asked.version in
    let h' : Host = record h { known = known } in
    unless_bad_told asked.bad_context c h (served_or m c h' host clock stop fails (request_in m c host known asked)) up
    (served_or_told m c h' host clock stop fails (request_in m c host known asked) up)

turn_told : (m : Machine) (c : Common) (h : Host) (host : HostNo) (clock : Tick) (asked : Asked) (stop : Stop) (fails : Bool) →
    IsTold h.up (turn m c h (events.Request host clock asked stop) fails)
turn_told m c h host clock asked stop fails =
    either_so (IsTold h.up) h.up (on_request m c h host.0 clock.0 asked stop fails) (unchanged c h Down)
    (λ up. request_told m c h host.0 clock.0 asked stop fails up) (λ down. record { replied = down; told = tt })

pub requests_are_replied : (m : Machine) (g : Group) (fails : Bool) (host : HostNo) (clock : Tick) (asked : Asked) (stop : Stop) →
    IsReplied (g.hosts host.0).up (turn_of m g (events.Request host clock asked stop) fails).answer
requests_are_replied m g fails host clock asked stop = (turn_told m g.common (g.hosts host.0) host clock asked stop fails).replied

eq_itself : (n : ℕ) → nat_eq n n ≡ true
eq_itself n = grind (arith, nat_tests)

put_there : (hosts : ℕ → Host) (at : ℕ) (h : Host) → put hosts at h at ≡ h
put_there hosts at h = rw (eq_itself at) refl

pub stops_are_told : (m : Machine) (g : Group) (fails : Bool) (host : HostNo) (clock : Tick) (asked : Asked) (stop : Stop) →
    IsToldBy ((after_event m g (events.Request host clock asked stop) fails).hosts host.0) (turn_of m g (events.Request host clock asked stop) fails).answer
stops_are_told m g fails host clock asked stop =
    let t = turn_of m g (events.Request host clock asked stop) fails in
    subst (λ (h : Host). IsToldBy h t.answer) (sym (put_there g.hosts host.0 t.host)) (turn_told m g.common (g.hosts host.0) host clock asked stop fails).told
