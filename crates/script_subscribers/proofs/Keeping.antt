-- What calls of the notifier make of all who subscribed.
use Rattle.std.proofs.Common.{◌≡◌, ◌+◌, ◌<◌, ◌∷◌, [], ◌++◌, ◌&&◌, ◌||◌, ℕ, zero, suc, Bool, true, false, List, Option, Some, None, drop, map, length, refl, sym, ap, subst, ◌∙◌, arith}
use Rattle.std.specs.Prelude.{◌≤◌, ◌≢◌, nat_eq, nat_lt, count_by, if◌then◌else◌, option_map, is_some, slice_get, unwrap_or, Result, Ok, Err}
use Rattle.std.specs.List.{find, filter, list_any}
use Rattle.std.specs.Option.{option_and_then}
use Rattle.std.specs.Str.{bytes_eq}
use Rattle.std.proofs.Math.Seq.{drop-length}
use Rattle.std.proofs.lemmas.List.{drop-drop, length-append, length-map, map-append}
use Rattle.fault_notifier.specs.Filters.{Filter, matches}
use Rattle.fault_notifier.specs.Notifying.{Notified, Connection, silent, connected, disconnected, pushed, pulled, with_connection, events_of}
use Rattle.fault_notifier.specs.Keeping.{Picture, StandsFor, refusal, refusal_of, IsConnected, IsDisconnected, IsPushed, IsPulledBy, IsPulled}
use Rattle.fault_notifier.specs.declared.events.FaultEvent.{FaultEvent}
use Rattle.fault_notifier.specs.declared.faults.NotifyFault.{NotifyFault}
use Rattle.fault_notifier.specs.declared.faults.NotifyFault.TheVariants as faults
use Rattle.fault_notifier.specs.declared.limits.TheConstants.{EVENT_LIMIT}
use Rattle.fault_notifier.specs.declared.subscribers.Sub.{Sub}
use Rattle.script_subscribers.specs.declared.answers.Pulled.{Pulled}
use Rattle.script_subscribers.specs.declared.answers.Pulled.TheVariants as pulls
use Rattle.script_subscribers.specs.declared.answers.Subscribed.TheVariants as answers
use Rattle.script_subscribers.specs.declared.named.Named.{Named}
use Rattle.script_subscribers.specs.Calls as calls
use Rattle.script_subscribers.specs.Calls.{next_of, pulled_of, answer_of}
use Rattle.script_subscribers.specs.Firsts.{first_sub, change_first, without_sub}
use Rattle.script_subscribers.specs.Subscribers.{Good, Subscriber, Subscribers, is_by, is_listening, subscriber_named, full, subscribed, with_first, new_subscriber, deaf, hears, told, without_next, reads_next}
use Rattle.script_subscribers.specs.Pictures.{Connections, subscriber_kept, shown, listener_of, listens_of, subscriber_of, IsSub, AreSubs, IsKept}
use Rattle.script_subscribers.proofs.Seeing.{all_same, all_hear}
use Rattle.script_subscribers.proofs.Changing.{named_same, none_changes, is_there, all_kept, first_changes, subs_push, unchanged}
use Rattle.script_subscribers.proofs.Counting.{count_push, count_leaves, count_same}
use Rattle.script_subscribers.proofs.Finding.{length_same}

-- ---- a change at one place and number

here_at : (n : Notified) (place number : ℕ) (c : Option Connection) → with_connection n place number c place number ≡ c
here_at n place number c = ap (λ b. if b then c else n.at place number) same
  where
    same : (nat_eq place place && nat_eq number number) ≡ true
    same = grind arith

other_at : (n : Notified) (place number p j : ℕ) (c : Option Connection) → j ≢ number → with_connection n place number c p j ≡ n.at p j
other_at n place number p j c apart = go (nat_eq place p) (nat_eq number j) refl
  where
    go : (b d : Bool) → nat_eq number j ≡ d → (if b && d then c else n.at p j) ≡ n.at p j
    go true true e = absurd (apart (grind (arith, e)))
    go true false e = refl
    go false d e = refl

module _ (p : Picture) (zs : List Named) (faults : ℕ) (kept : IsKept p zs faults) where
  plainly : map (subscriber_kept p) zs ≡ map (subscriber_of kept.n.events kept.n.at) zs
  plainly = all_same kept.n p kept.stands zs

  pub named_is : (name : List ℕ) → subscriber_named (shown p zs faults) name ≡ listens_of kept.n.events kept.n.at (first_sub name zs)
  named_is name =
      ap (λ ss. option_and_then (λ (b : Subscriber). b.listens) (find (is_by name) ss)) plainly
      ∙ named_same kept.n.events kept.n.at name 1 zs kept.subs

  pub nobody_named : (name : List ℕ) → first_sub name zs ≡ None → subscriber_named (shown p zs faults) name ≡ None
  nobody_named name none = named_is name ∙ ap (listens_of kept.n.events kept.n.at) none

  some_listener : (c : Option Connection) → is_some c ≡ true → is_some (option_map (listener_of kept.n.events) c) ≡ true
  some_listener None there = absurd cc
  some_listener (Some c) there = refl

  pub somebody_named : (name : List ℕ) (s : Sub) → first_sub name zs ≡ Some s → is_some (subscriber_named (shown p zs faults) name) ≡ true
  somebody_named name s first =
      ap is_some (named_is name ∙ ap (listens_of kept.n.events kept.n.at) first)
      ∙ some_listener (kept.n.at s.place s.number) (is_there kept.n.events kept.n.at name s 1 zs kept.subs first).0

  pub listens_is : (name : List ℕ) → is_some (first_sub name zs) ≡ is_some (subscriber_named (shown p zs faults) name)
  listens_is name = go (first_sub name zs) refl
    where
      go : (o : Option Sub) → first_sub name zs ≡ o → is_some o ≡ is_some (subscriber_named (shown p zs faults) name)
      go None e = sym (ap is_some (nobody_named name e))
      go (Some s) e = sym (somebody_named name s e)

  pub nobody_leaves : (name : List ℕ) → first_sub name zs ≡ None
      → with_first (is_by name) deaf (map (subscriber_kept p) zs) ≡ map (subscriber_kept p) zs
  nobody_leaves name none =
      ap (with_first (is_by name) deaf) plainly
      ∙ none_changes kept.n.events kept.n.at name deaf 1 zs kept.subs none ∙ sym plainly

  pub refusal_is : full (shown p zs faults) ≡ refusal kept.n
  refusal_is =
      ap (λ k. refusal_of k (length (map (subscriber_kept p) zs)))
      (ap (count_by is_listening) plainly ∙ count_same kept.n.events kept.n.at 1 zs kept.subs ∙ sym kept.connected)
      ∙ ap (refusal_of kept.n.connected) (length-map zs (subscriber_kept p) ∙ sym kept.made)

  -- ---- the same connections

  pub stays : (q : Picture) → StandsFor kept.n q → IsKept q zs faults
  stays q stands = record { n = kept.n; stands = stands; made = kept.made; connected = kept.connected; subs = kept.subs; few = kept.few; counted = kept.counted }

  pub shows_same : (q : Picture) → StandsFor kept.n q → shown q zs faults ≡ shown p zs faults
  shows_same q stands = ap (λ ss. record { all = ss; faults = faults }) (all_same kept.n q stands zs ∙ sym plainly)

  -- past the most, the count of faults stands still
  pub past_most : EVENT_LIMIT ≤ faults → IsKept p zs (EVENT_LIMIT + 1)
  past_most past = record {
    n = kept.n;
    stands = kept.stands;
    made = kept.made;
    connected = kept.connected;
    subs = kept.subs;
    few = omega (arith, kept.few, kept.counted);
    counted = omega arith;
  }

  -- ---- one more event

  pub pushes : (event : FaultEvent) (q : Picture) → StandsFor (pushed kept.n event) q → faults < EVENT_LIMIT → IsKept q zs (faults + 1)
  pushes event q stands below = record {
    n = pushed kept.n event;
    stands = stands;
    made = kept.made;
    connected = kept.connected;
    subs = kept.subs;
    few = omega (arith, kept.few, length-append kept.n.events (event ∷ []));
    counted = omega (arith, below);
  }

  pub all_told : (event : FaultEvent) (q : Picture) → StandsFor (pushed kept.n event) q
      → map (subscriber_kept q) zs ≡ map (hears event) (map (subscriber_kept p) zs)
  all_told event q stands =
      all_same (pushed kept.n event) q stands zs ∙ all_hear kept.n p event kept.stands zs ∙ ap (map (hears event)) (sym plainly)

  pub told_is : (event : FaultEvent) (q : Picture) → StandsFor (pushed kept.n event) q → faults < EVENT_LIMIT
      → shown q zs (faults + 1) ≡ told (shown p zs faults) event
  told_is event q stands below =
      let is : nat_lt faults EVENT_LIMIT ≡ true = grind (arith, below) in
      let more : Subscribers = record { all = map (hears event) (map (subscriber_kept p) zs); faults = faults + 1 } in
      let past : Subscribers = record { all = map (subscriber_kept p) zs; faults = EVENT_LIMIT + 1 } in
      ap (λ ss. record { all = ss; faults = faults + 1 }) (all_told event q stands) ∙ sym (ap (λ b. if b then more else past) is)

  -- ---- one leaves

  module _ (name : List ℕ) (s : Sub) (first : first_sub name zs ≡ Some s) (q : Picture) (stands : StandsFor (disconnected kept.n s.place s.number) q) where
    without : Connections
    without = with_connection kept.n s.place s.number None

    left : (map (subscriber_of kept.n.events (disconnected kept.n s.place s.number).at) (change_first without_sub name zs)
        ≡ with_first (is_by name) deaf (map (subscriber_of kept.n.events kept.n.at) zs))
        × AreSubs (disconnected kept.n s.place s.number).at 1 (change_first without_sub name zs)
    left =
        first_changes kept.n.events kept.n.at (disconnected kept.n s.place s.number).at name s without_sub deaf
        (λ place j apart. other_at kept.n s.place s.number place j None apart) (λ z e. (refl, tt)) 1 zs kept.subs first

    pub leaves : IsKept q (change_first without_sub name zs) faults
    leaves = record {
      n = disconnected kept.n s.place s.number;
      stands = stands;
      made = kept.made ∙ sym (length_same without_sub name (record { name = []; sub = None }) zs);
      connected = omega (arith, kept.connected, count_leaves name s zs first);
      subs = left.1;
      few = kept.few;
      counted = kept.counted;
    }

    pub one_left : map (subscriber_kept q) (change_first without_sub name zs) ≡ with_first (is_by name) deaf (map (subscriber_kept p) zs)
    one_left =
        all_same (disconnected kept.n s.place s.number) q stands (change_first without_sub name zs) ∙ left.0
        ∙ ap (with_first (is_by name) deaf) (sym plainly)

  -- ---- one reads on

  module _ (name : List ℕ) (s : Sub) (first : first_sub name zs ≡ Some s) (c : Connection) (at : kept.n.at s.place s.number ≡ Some c) where
    abbrev on : Connections
    on = (pulled kept.n s.place s.number c).at

    on_here : on s.place s.number ≡ Some (record c { read = c.read + 1 })
    on_here = here_at kept.n s.place s.number (Some (record c { read = c.read + 1 }))

    one_on : listener_of kept.n.events (record c { read = c.read + 1 }) ≡ without_next (listener_of kept.n.events c)
    one_on = λ i. record { filter = c.filter; unread = sym (drop-drop 1 c.read (events_of kept.n.events c)) i }

    listens_on : (z : Named) → z.sub ≡ Some s → listens_of kept.n.events on z.sub ≡ option_map without_next (listens_of kept.n.events kept.n.at z.sub)
    listens_on z e =
        ap (listens_of kept.n.events on) e ∙ ap (option_map (listener_of kept.n.events)) on_here ∙ ap Some one_on
        ∙ sym (ap (λ (o : Option Connection). option_map without_next (option_map (listener_of kept.n.events) o)) at)
        ∙ sym (ap (λ (o : Option Sub). option_map without_next (listens_of kept.n.events kept.n.at o)) e)

    all_on : (map (subscriber_of kept.n.events on) (change_first (λ z. z) name zs) ≡ with_first (is_by name) reads_next (map (subscriber_of kept.n.events kept.n.at) zs))
        × AreSubs on 1 (change_first (λ z. z) name zs)
    all_on =
        first_changes kept.n.events kept.n.at on name s (λ z. z) reads_next
        (λ place j apart. other_at kept.n s.place s.number place j (Some (record c { read = c.read + 1 })) apart)
        (λ z e. ((λ i. record { name = z.name; listens = listens_on z e i }), subst (λ (o : Option Sub). IsSub on s.number o) (sym e) (refl, ap is_some on_here)))
        1 zs kept.subs first

    pub reads : (q : Picture) → StandsFor (pulled kept.n s.place s.number c) q → IsKept q zs faults
    reads q stands = record {
      n = pulled kept.n s.place s.number c;
      stands = stands;
      made = kept.made;
      connected = kept.connected;
      subs = subst (λ (ys : List Named). AreSubs on 1 ys) (unchanged name zs) all_on.1;
      few = kept.few;
      counted = kept.counted;
    }

    pub one_reads : (q : Picture) → StandsFor (pulled kept.n s.place s.number c) q
        → map (subscriber_kept q) zs ≡ with_first (is_by name) reads_next (map (subscriber_kept p) zs)
    one_reads q stands =
        all_same (pulled kept.n s.place s.number c) q stands zs
        ∙ ap (map (subscriber_of kept.n.events on)) (sym (unchanged name zs)) ∙ all_on.0
        ∙ ap (with_first (is_by name) reads_next) (sym plainly)

    pub named_reads : pulled_of (subscriber_named (shown p zs faults) name) ≡ next_of (drop c.read (events_of kept.n.events c))
    named_reads =
        ap pulled_of (named_is name ∙ ap (listens_of kept.n.events kept.n.at) first ∙ ap (option_map (listener_of kept.n.events)) at)

  -- ---- one more

  module _ (name : List ℕ) (f : Filter) (s : Sub) (number : s.number ≡ kept.n.made + 1) (q : Picture) (stands : StandsFor (connected kept.n s.place f) q) where
    abbrev new : Named
    new = record { name = name; sub = Some s }

    abbrev c : Connection
    c = record { filter = f; since = length kept.n.events; read = 0 }

    abbrev with : Connections
    with = (connected kept.n s.place f).at

    with_here : with s.place s.number ≡ Some c
    with_here =
        subst (λ (j : ℕ). with s.place j ≡ Some c) (sym number) (here_at kept.n s.place (kept.n.made + 1) (Some c))

    before : (map (subscriber_of kept.n.events with) zs ≡ map (subscriber_of kept.n.events kept.n.at) zs) × AreSubs with 1 zs
    before = all_kept kept.n.events kept.n.at with 1 zs kept.subs
        (λ place j low high. other_at kept.n s.place (kept.n.made + 1) place j (Some c) (λ same. absurd (omega (arith, high, same, kept.made))))

    it : subscriber_of kept.n.events with new ≡ new_subscriber name f
    it =
        let reads : option_map (listener_of kept.n.events) (with s.place s.number) ≡ Some (record { filter = f; unread = [] }) =
        ap (option_map (listener_of kept.n.events)) with_here
        ∙ (λ i. Some (record { filter = f; unread = filter (matches f) (drop-length kept.n.events i) })) in
        λ i. record { name = name; listens = reads i }

    pub joins : IsKept q (zs ++ new ∷ []) faults
    joins = record {
      n = connected kept.n s.place f;
      stands = stands;
      made = ap (λ k. k + 1) kept.made ∙ sym (length-append zs (new ∷ []));
      connected = ap (λ k. k + 1) kept.connected ∙ sym (count_push zs new);
      subs = subs_push with new 1 zs before.1 (omega (arith, number, kept.made), ap is_some with_here);
      few = kept.few;
      counted = kept.counted;
    }

    pub one_joins : map (subscriber_kept q) (zs ++ new ∷ []) ≡ map (subscriber_kept p) zs ++ new_subscriber name f ∷ []
    one_joins =
        all_same (connected kept.n s.place f) q stands (zs ++ new ∷ [])
        ∙ map-append (subscriber_of kept.n.events with) zs (new ∷ [])
        ∙ (λ i. before.0 i ++ it i ∷ [])
        ∙ ap (λ ss. ss ++ new_subscriber name f ∷ []) (sym plainly)

-- ---- pulling

next_none : (es : List FaultEvent) (k : ℕ) → slice_get es k ≡ None → next_of (drop k es) ≡ pulls.Nothing
next_none [] zero none = refl
next_none [] (suc k) none = refl
next_none (e ∷ es) zero none = absurd cc
next_none (e ∷ es) (suc k) none = next_none es k none

next_some : (es : List FaultEvent) (k : ℕ) (event : FaultEvent) → slice_get es k ≡ Some event → next_of (drop k es) ≡ pulls.Event event
next_some [] k event some = absurd cc
next_some (e ∷ es) zero event some = ap (λ (o : Option FaultEvent). pulled_at o e) some
  where
    pulled_at : Option FaultEvent → FaultEvent → Pulled
    pulled_at None d = pulls.Event d
    pulled_at (Some x) d = pulls.Event x
next_some (e ∷ es) (suc k) event some = next_some es k event some

pub pulls_by : (p : Picture) (zs : List Named) (most : ℕ) (kept : IsKept p zs most) (name : List ℕ) (s : Sub) → first_sub name zs ≡ Some s
    → (told : Result (Option FaultEvent) NotifyFault) (q : Picture) → IsPulled kept.n s told q
    → IsKept q zs most × calls.IsPulled (shown p zs most) name (answer_of told) (shown q zs most)
pulls_by p zs most kept name s first told q is = go (kept.n.at s.place s.number) refl told is
  where
    go : (o : Option Connection) → kept.n.at s.place s.number ≡ o → (told : Result (Option FaultEvent) NotifyFault) → IsPulledBy kept.n s o told q
        → IsKept q zs most × calls.IsPulled (shown p zs most) name (answer_of told) (shown q zs most)
    go None e told is =
        let there = (is_there kept.n.events kept.n.at name s 1 zs kept.subs first).0 in
        let gone : is_some (kept.n.at s.place s.number) ≡ false = ap is_some e in
        absurd cc
    go (Some c) e (Ok None) is = (
      stays p zs most kept q is.1,
      (sym (named_reads p zs most kept name s first c e ∙ next_none (events_of kept.n.events c) c.read is.0), shows_same p zs most kept q is.1),
    )
    go (Some c) e (Ok (Some event)) is = (
      reads p zs most kept name s first c e q is.1,
      (
        sym (named_reads p zs most kept name s first c e ∙ next_some (events_of kept.n.events c) c.read event is.0),
        ap (λ ss. record { all = ss; faults = most }) (one_reads p zs most kept name s first c e q is.1),
      ),
    )
    go (Some c) e (Err faults.NoSubscriber) is = absurd is
    go (Some c) e (Err (faults.Full limit)) is = absurd is
    go (Some c) e (Err faults.NoMemory) is = (stays p zs most kept q is.1, shows_same p zs most kept q is.1)

-- ---- beginning

pub opens : (p : Picture) → StandsFor silent p → IsKept p [] 0
opens p stands = record { n = silent; stands = stands; made = refl; connected = refl; subs = tt; few = omega arith; counted = omega arith }

pub any_named : (p : Picture) (name : List ℕ) (zs : List Named)
    → list_any (λ (z : Named). bytes_eq z.name name) zs ≡ list_any (λ (b : Subscriber). bytes_eq b.name name) (map (subscriber_kept p) zs)
any_named p name [] = refl
any_named p name (z ∷ zs) = ap (λ b. bytes_eq z.name name || b) (any_named p name zs)

-- ---- what one who subscribes is answered

pub done : (s : Subscribers) (name : List ℕ) (f : Filter) (new : Subscribers) → full s ≡ None → new ≡ subscribed s name f
    → calls.IsJoined s name (Good f) (Ok answers.Done) new
done s name f new room is = go (full s) room
  where
    go : (o : Option ℕ) → o ≡ None → (answers.Done ≡ calls.subscribed_of (Good f) o) × (new ≡ calls.with_subscriber s name (Good f) o)
    go None e = (refl, is)
    go (Some limit) e = absurd cc

pub refused : (s : Subscribers) (name : List ℕ) (f : Filter) (new : Subscribers) (limit : ℕ) → full s ≡ Some limit → new ≡ s
    → calls.IsJoined s name (Good f) (Ok (answers.Full limit)) new
refused s name f new limit reached same = go (full s) reached
  where
    go : (o : Option ℕ) → o ≡ Some limit → (answers.Full limit ≡ calls.subscribed_of (Good f) o) × (new ≡ calls.with_subscriber s name (Good f) o)
    go None e = absurd cc
    go (Some most) e = (ap (λ (o : Option ℕ). answers.Full (unwrap_or o limit)) (sym e), same)

-- ---- refusals of the notifier

pub unconnected : (n : Notified) (f : Filter) (why : NotifyFault) (p q : Picture) → IsConnected n f (Err why) p q → q ≡ p
unconnected n f faults.NoSubscriber p q is = absurd is
unconnected n f (faults.Full limit) p q is = is.1
unconnected n f faults.NoMemory p q is = is.1

pub unpushed : (n : Notified) (event : FaultEvent) (why : NotifyFault) (p q : Picture) → IsPushed n event (Err why) p q → q ≡ p
unpushed n event faults.NoSubscriber p q is = absurd is
unpushed n event (faults.Full limit) p q is = is.2
unpushed n event faults.NoMemory p q is = is.1

pub disconnects : (p : Picture) (zs : List Named) (most : ℕ) (kept : IsKept p zs most) (name : List ℕ) (s : Sub) → first_sub name zs ≡ Some s
    → (why : NotifyFault) (q : Picture) → IsDisconnected kept.n s (Err why) p q → ⊥
disconnects p zs most kept name s first faults.NoSubscriber q is =
    let there = (is_there kept.n.events kept.n.at name s 1 zs kept.subs first).0 in
    let gone : is_some (kept.n.at s.place s.number) ≡ false = ap is_some is.0 in
    absurd cc
disconnects p zs most kept name s first (faults.Full limit) q is = absurd is
disconnects p zs most kept name s first faults.NoMemory q is = absurd is
