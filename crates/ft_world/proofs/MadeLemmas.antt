-- The groups and clients that messages name, and the groups of the references that clients go by: each was made, and the
-- groups stand by their numbers.
use Rattle.std.proofs.Common.{◌≡◌, ℕ, zero, suc, ◌+◌, ◌<◌, ◌≤◌, arith, Bool, true, false, cond, List, [], ◌∷◌, ◌++◌, length, Option, Some, None, refl, sym, ap, ◌∙◌}
use Rattle.std.proofs.lemmas.Option.{slice_get_within}
use Rattle.std.specs.Prelude.{◌||◌, if◌then◌else◌, nat_lt, slice_get, slice_set, IfSome}
use Rattle.std.specs.List.{AllByRecursion, filter, find}
use Rattle.std.specs.Option.{option_to_list, unwrap_or}
use Rattle.client_retry.specs.declared.answers.Act.{Act}
use Rattle.client_retry.specs.declared.answers.Act.TheVariants as acts
use Rattle.client_retry.specs.declared.answers.End.TheVariants as ends
use Rattle.client_retry.specs.declared.answers.Heard.{Heard}
use Rattle.client_retry.specs.declared.answers.Heard.TheVariants as heards
use Rattle.client_retry.specs.declared.meanings.Meaning.{Meaning}
use Rattle.client_retry.specs.declared.meanings.Meaning.TheVariants as meanings
use Rattle.client_retry.specs.Attempts.{at_first}
use Rattle.client_retry.specs.Clients as retries
use Rattle.client_retry.specs.Counters.{kept}
use Rattle.client_retry.specs.Invocations.{Invocation, News, Reply, Silence, adopted, answer, last_id_of, meaning_of, meanings_of, reference_of, sent, with_news}
use Rattle.client_retry.specs.Meanings.{is_failure, replied, said, said_late}
use Rattle.ft_base.specs.declared.numbers.GroupId.{GroupId}
use Rattle.ft_base.specs.declared.numbers.Tick.{Tick}
use Rattle.ft_base.specs.declared.requests.Request.{Request}
use Rattle.iogr_reference.specs.declared.references.GroupRef.{GroupRef}
use Rattle.script_clients.specs.declared.answers.Call.{Call}
use Rattle.script_clients.specs.declared.answers.Told.{Told}
use Rattle.script_clients.specs.declared.answers.Told.TheVariants as tolds
use Rattle.script_clients.specs.Clients.{Client, acting, after_news, binding, going_on, is_of, last_reference, starting, taking, told_of}
use Rattle.script_groups.specs.Groups.{ScriptGroup}
use Rattle.script_groups.specs.Lists.{all_push, same_some, some_at}
use Rattle.script_world.specs.declared.messages.Message.{Message}
use Rattle.script_world.specs.declared.messages.Message.TheVariants as messages
use Rattle.script_world.specs.Sound.{AreInOrder}
use Rattle.script_world.specs.World.{World}
use Rattle.ft_world.specs.Laws.{AllLater, HasMore}
use Rattle.ft_world.proofs.LaterLemmas.{later_at}

-- ---- lists

pub all_both : {A : Type 0} (P : A → Type 0) (xs ys : List A) → AllByRecursion P xs → AllByRecursion P ys → AllByRecursion P (xs ++ ys)
all_both P [] ys all more = more
all_both P (x ∷ xs) ys all more = (all.0, all_both P xs ys all.1 more)

pub all_so : {A : Type 0} (P Q : A → Type 0) (xs : List A) → ((x : A) → P x → Q x) → AllByRecursion P xs → AllByRecursion Q xs
all_so P Q [] so all = tt
all_so P Q (x ∷ xs) so all = (so x all.0, all_so P Q xs so all.1)

all_filtered : {A : Type 0} (P : A → Type 0) (test : A → Bool) (xs : List A) → AllByRecursion P xs → AllByRecursion P (filter test xs)
all_filtered P test [] all = tt
all_filtered P test (x ∷ xs) all = go (test x) (all_filtered P test xs all.1)
  where
    go : (b : Bool) → AllByRecursion P (filter test xs) → AllByRecursion P (cond b (x ∷ filter test xs) (filter test xs))
    go true rest = (all.0, rest)
    go false rest = rest

all_found : {A : Type 0} (P : A → Type 0) (test : A → Bool) (xs : List A) → AllByRecursion P xs → IfSome (find test xs) P
all_found P test [] all = tt
all_found P test (x ∷ xs) all = go (test x) (all_found P test xs all.1)
  where
    go : (b : Bool) → IfSome (find test xs) P → IfSome (cond b (Some x) (find test xs)) P
    go true rest = all.0
    go false rest = rest

pub or_other : {A : Type 0} (P : A → Type 0) (o : Option A) (d : A) → IfSome o P → P d → P (unwrap_or o d)
or_other P None d some other = other
or_other P (Some x) d some other = some

-- ---- groups by their numbers

-- the number of one of so many groups
abbrev pub IsNumber : ℕ → GroupId → Type 0
IsNumber n group = (1 ≤ group.0) × (group.0 ≤ n)

pub number_on : (n k : ℕ) (group : GroupId) → n ≤ k → IsNumber n group → IsNumber k group
number_on n k group more is = (is.0, let last = is.1 in omega (arith, last, more))

abbrev pub IsOfOne : ℕ → GroupRef → Type 0
IsOfOne n reference = IsNumber n reference.group

-- ---- what a client hears

abbrev pub Brings : ℕ → Heard → Type 0
Brings n (heards.Outcome outcome) = Unit {0}
Brings n (heards.System fault) = Unit {0}
Brings n (heards.Forward reference) = IsOfOne n reference
Brings n heards.Unreadable = Unit {0}

abbrev pub BringsNews : ℕ → News → Type 0
BringsNews n (Reply id heard now) = Brings n heard
BringsNews n (Silence now) = Unit {0}

abbrev Means : ℕ → Meaning → Type 0
Means n meanings.Unheard = Unit {0}
Means n (meanings.Fault now) = Unit {0}
Means n (meanings.Newer reference) = IsOfOne n reference
Means n (meanings.Final end) = Unit {0}

either_means : (n : ℕ) (b : Bool) (x y : Meaning) → Means n x → Means n y → Means n (if b then x else y)
either_means n true x y a b = a
either_means n false x y a b = b

said_so : (n : ℕ) (reference : GroupRef) (now : Tick) (heard : Heard) → Brings n heard → Means n (said reference now heard)
said_so n reference now (heards.Outcome outcome) brings = tt
said_so n reference now (heards.System fault) brings = either_means n (is_failure fault.kind) (meanings.Fault now) (meanings.Final (ends.System fault)) tt tt
said_so n reference now (heards.Forward other) brings =
    either_means n (nat_lt reference.version.0 other.version.0) (meanings.Newer other) (meanings.Fault now) brings tt
said_so n reference now heards.Unreadable brings = tt

late_so : (n : ℕ) (m : Meaning) → Means n m → Means n (said_late m)
late_so n meanings.Unheard means = tt
late_so n (meanings.Fault now) means = tt
late_so n (meanings.Newer reference) means = means
late_so n (meanings.Final end) means = tt

replied_so : (n first last id : ℕ) (m : Meaning) → Means n m → Means n (replied first last id m)
replied_so n first last id m means =
    either_means n (nat_lt id first || nat_lt last id) meanings.Unheard (if nat_lt id last then said_late m else m) tt
    (either_means n (nat_lt id last) (said_late m) m (late_so n m means) means)

meaning_so : (n : ℕ) (i : Invocation) (news : News) → BringsNews n news → Means n (meaning_of i news)
meaning_so n i (Reply id heard now) brings =
    replied_so n i.first (last_id_of i) id (said (reference_of i) now heard) (said_so n (reference_of i) now heard brings)
meaning_so n i (Silence now) brings = tt

adopted_so : (n : ℕ) (reference : GroupRef) (m : Meaning) (earlier : List Meaning) → Means n m → IsOfOne n (adopted reference earlier) →
    IsOfOne n (adopted reference (m ∷ earlier))
adopted_so n reference meanings.Unheard earlier means is = is
adopted_so n reference (meanings.Fault now) earlier means is = is
adopted_so n reference (meanings.Newer other) earlier means is = means
adopted_so n reference (meanings.Final end) earlier means is = is

-- ---- the reference of an invocation

abbrev pub AreOfSome : ℕ → List GroupRef → Type 0
AreOfSome n references = AllByRecursion (IsOfOne n) references

abbrev KeepsOne : ℕ → retries.Client → Type 0
KeepsOne n retry = AreOfSome n (option_to_list (kept retry).reference)

after_so : (n : ℕ) (i : Invocation) (last : ℕ) (act : Act) → IsOfOne n (reference_of i) → KeepsOne n (retries.after i last act)
after_so n i last (acts.Send place id) is = (is, tt)
after_so n i last (acts.Adopted version place id) is = (is, tt)
after_so n i last (acts.Done end) is = (is, tt)
after_so n i last acts.Nothing is = (is, tt)

heard_so : (n : ℕ) (retry : retries.Client) (news : News) → BringsNews n news → KeepsOne n retry → KeepsOne n (retries.hearing retry news).client
heard_so n (retries.Idle last reference) news brings keeps = keeps
heard_so n (retries.Busy i) news brings keeps =
    after_so n (with_news i news) (last_id_of i) (answer i news)
    (adopted_so n i.reference (meaning_of i news) (meanings_of i) (meaning_so n i news brings) keeps.0)

set_down_so : (n : ℕ) (retry : retries.Client) → KeepsOne n retry → KeepsOne n (retries.setting_down retry)
set_down_so n (retries.Idle last reference) keeps = tt
set_down_so n (retries.Busy i) keeps = keeps

-- ---- clients

abbrev pub GoesBy : ℕ → Client → Type 0
GoesBy n c = AreOfSome n (last_reference c) × AreOfSome n c.others

-- what it does names such groups
abbrev pub Tells : ℕ → Told → Type 0
Tells n (tolds.Attempt a) = IsNumber n a.group
Tells n (tolds.Adopted group version a) = IsNumber n group × IsNumber n a.group
Tells n (tolds.Ended number end) = Unit {0}
Tells n tolds.Nothing = Unit {0}

told_so : (n : ℕ) (call : Call) (o : Option GroupRef) (act : Act) → AreOfSome n (option_to_list o) → Tells n (told_of call o act)
told_so n call None act are = tt
told_so n call (Some reference) (acts.Send place id) are = are.0
told_so n call (Some reference) (acts.Adopted version place id) are = (are.0, are.0)
told_so n call (Some reference) (acts.Done end) are = tt
told_so n call (Some reference) acts.Nothing are = tt

acting_told : (n : ℕ) (c : Client) (call : Call) (t : retries.Turn) → GoesBy n (acting c call t).client → Tells n (acting c call t).told
acting_told n c call t by = told_so n call (kept t.client).reference t.act by.0

-- news come to it
going_so : (n : ℕ) (c : Client) (o : Option Call) (t : retries.Turn) → KeepsOne n t.client → GoesBy n c → GoesBy n (going_on c o t).client
going_so n c None t keeps by = by
going_so n c (Some call) t keeps by = (keeps, by.1)

going_told : (n : ℕ) (c : Client) (o : Option Call) (t : retries.Turn) → GoesBy n (going_on c o t).client → Tells n (going_on c o t).told
going_told n c None t by = tt
going_told n c (Some call) t by = acting_told n c call t by

pub news_so : (n : ℕ) (c : Client) (news : News) → BringsNews n news → GoesBy n c → GoesBy n (after_news c news).client
news_so n c news brings by = going_so n c c.call (retries.hearing c.retry news) (heard_so n c.retry news brings by.0) by

pub news_told : (n : ℕ) (c : Client) (news : News) → GoesBy n (after_news c news).client → Tells n (after_news c news).told
news_told n c news by = going_told n c c.call (retries.hearing c.retry news) by

-- a call begins
module _ (n : ℕ) (c : Client) (reference : GroupRef) (expiration : Tick) (numbers versioned : Bool) (request : Request) where
  pub starting_so : GoesBy n c → IsOfOne n reference → GoesBy n (starting c reference expiration numbers versioned request).client
  starting_so by is =
      let last : ℕ = retries.last_of c.retry in
      (after_so n (retries.begun last reference expiration) last (sent last (at_first reference last)) is, by.1)

  pub starting_told : GoesBy n (starting c reference expiration numbers versioned request).client → Tells n (starting c reference expiration numbers versioned request).told
  starting_told by =
      let t : retries.Turn = retries.starting c.retry reference expiration in
      told_so n (record { number = c.started + 1; versioned = versioned; request = request }) (kept t.client).reference t.act by.0

-- a reference is taken from it
pub taking_so : (n : ℕ) (c : Client) (group : GroupId) → GoesBy n c → GoesBy n (taking c group).client
taking_so n c group by =
    (set_down_so n c.retry by.0, all_filtered (IsOfOne n) _ (c.others ++ last_reference c) (all_both (IsOfOne n) c.others (last_reference c) by.1 by.0))

pub taken_so : (n : ℕ) (c : Client) (group : GroupId) → GoesBy n c → IfSome (taking c group).reference (IsOfOne n)
taken_so n c group by = all_found (IsOfOne n) (is_of group) (last_reference c ++ c.others) (all_both (IsOfOne n) (last_reference c) c.others by.0 by.1)

pub binding_so : (n : ℕ) (c : Client) (reference : GroupRef) → GoesBy n c → IsOfOne n reference → GoesBy n (binding c reference)
binding_so n c reference by is =
    let left = taking_so n c reference.group by in
    (left.0, all_push (IsOfOne n) (taking c reference.group).client.others reference left.1 is)

goes_on : (n k : ℕ) (c : Client) → n ≤ k → GoesBy n c → GoesBy k c
goes_on n k c more by = (
  all_so (IsOfOne n) (IsOfOne k) (last_reference c) (λ r is. number_on n k r.group more is) by.0,
  all_so (IsOfOne n) (IsOfOne k) c.others (λ r is. number_on n k r.group more is) by.1,
)

-- ---- messages, among so many groups and clients

abbrev pub Names : ℕ → ℕ → Message → Type 0
Names n m (messages.Request client host a) = (client < m) × IsNumber n a.group
Names n m (messages.Reply r) = (r.client < m) × IsNumber n r.group
Names n m (messages.Carried group out) = IsNumber n group
Names n m (messages.Ping group host) = IsNumber n group
Names n m (messages.Pong group host) = IsNumber n group

names_on : (n k m l : ℕ) (message : Message) → n ≤ k → m ≤ l → Names n m message → Names k l message
names_on n k m l (messages.Request client host a) groups clients names = (let at = names.0 in omega (arith, at, clients), number_on n k a.group groups names.1)
names_on n k m l (messages.Reply r) groups clients names = (let at = names.0 in omega (arith, at, clients), number_on n k r.group groups names.1)
names_on n k m l (messages.Carried group out) groups clients names = number_on n k group groups names
names_on n k m l (messages.Ping group host) groups clients names = number_on n k group groups names
names_on n k m l (messages.Pong group host) groups clients names = number_on n k group groups names

-- ---- groups in order

-- each has the number of its place
pub at_its_number : (gs : List ScriptGroup) (i : ℕ) (g : ScriptGroup) → AreInOrder gs → slice_get gs i ≡ Some g → IsNumber (length gs) g.id
at_its_number gs i g ordered at =
    let number = ordered i g at in
    let within = slice_get_within gs i g at in (omega (arith, number), omega (arith, number, within))

pub order_stays : (gs hs : List ScriptGroup) → AllLater HasMore gs hs → length hs ≡ length gs → AreInOrder gs → AreInOrder hs
order_stays gs hs later long ordered i h at =
    let within = slice_get_within hs i h at in
    let was = some_at gs i (omega (arith, within, long)) in
    let now = later_at HasMore gs hs i was.0 later was.1 in
    let same : h ≡ now.0 = same_some h now.0 (sym at ∙ now.1) in
    ap (λ (x : ScriptGroup). x.id.0) (same ∙ now.2.is) ∙ ordered i was.0 was.1

-- the next number is that of one more
last_in_order : (gs : List ScriptGroup) (g : ScriptGroup) (first : ℕ) → ((i : ℕ) (x : ScriptGroup) → slice_get gs i ≡ Some x → x.id.0 ≡ first + i + 1) →
    g.id.0 ≡ first + length gs + 1 → (i : ℕ) (x : ScriptGroup) → slice_get (gs ++ g ∷ []) i ≡ Some x → x.id.0 ≡ first + i + 1
last_in_order [] g first so last zero x at = ap (λ (y : ScriptGroup). y.id.0) (sym (same_some g x at)) ∙ last
last_in_order [] g first so last (suc i) x at = absurd cc
last_in_order (y ∷ gs) g first so last zero x at = so zero x at
last_in_order (y ∷ gs) g first so last (suc i) x at =
    let there = last_in_order gs g (first + 1) (λ k z there. (let is = so (suc k) z there in omega (arith, is))) (omega (arith, last)) i x at in omega (arith, there)

pub order_with_next : (gs : List ScriptGroup) (g : ScriptGroup) → g.id.0 ≡ length gs + 1 → AreInOrder gs → AreInOrder (gs ++ g ∷ [])
order_with_next gs g next ordered i x at =
    let is = last_in_order gs g 0 (λ k z there. (let was = ordered k z there in omega (arith, was))) (omega (arith, next)) i x at in omega (arith, is)

-- ---- a world

pub record AreMade (gs : List ScriptGroup) (cs : List Client) (ms : List Message) : Type 0 where
  pub ordered : AreInOrder gs
  pub clients : AllByRecursion (GoesBy (length gs)) cs
  pub messages : AllByRecursion (Names (length gs) (length cs)) ms

abbrev pub AllMade : World → Type 0
AllMade w = AreMade w.groups w.clients w.messages

-- more groups, and more clients
grown : (gs hs : List ScriptGroup) (cs ds : List Client) (ms : List Message) → length gs ≤ length hs → length cs ≤ length ds →
    AreInOrder hs → AllByRecursion (GoesBy (length hs)) ds → AreMade gs cs ms → AreMade hs ds ms
grown gs hs cs ds ms more also ordered clients a = record {
  ordered = ordered;
  clients = clients;
  messages = all_so (Names (length gs) (length cs)) (Names (length hs) (length ds)) ms (λ m names. names_on (length gs) (length hs) (length cs) (length ds) m more also names) a.messages;
}

pub more_groups : (gs hs : List ScriptGroup) (cs : List Client) (ms : List Message) → length gs ≤ length hs → AreInOrder hs → AreMade gs cs ms → AreMade hs cs ms
more_groups gs hs cs ms more ordered a =
    grown gs hs cs cs ms more (omega arith) ordered
    (all_so (GoesBy (length gs)) (GoesBy (length hs)) cs (λ c by. goes_on (length gs) (length hs) c more by) a.clients) a

pub more_clients : (gs : List ScriptGroup) (cs ds : List Client) (ms : List Message) → length cs ≤ length ds → AllByRecursion (GoesBy (length gs)) ds →
    AreMade gs cs ms → AreMade gs ds ms
more_clients gs cs ds ms more clients a = grown gs gs cs ds ms (omega arith) more a.ordered clients a

pub more_messages : (gs : List ScriptGroup) (cs : List Client) (ms more : List Message) → AllByRecursion (Names (length gs) (length cs)) more →
    AreMade gs cs ms → AreMade gs cs (ms ++ more)
more_messages gs cs ms more names a = record {
  ordered = a.ordered;
  clients = a.clients;
  messages = all_both (Names (length gs) (length cs)) ms more a.messages names;
}

-- ---- lengths

pub set_long : {A : Type 0} (xs : List A) (i : ℕ) (x : A) → length (slice_set xs i x) ≡ length xs
set_long [] i x = refl
set_long (y ∷ xs) zero x = refl
set_long (y ∷ xs) (suc i) x = ap suc (set_long xs i x)
