-- A log goes on standing for a journal: a request joins, a checkpoint cuts, a reply is given.
use Rattle.std.proofs.Common.{◌≡◌, ℕ, ◌<◌, ◌≤◌, ⊎_elim, Bool, true, false, cond, true≢false, not, eqb, max, List, [], ◌∷◌, ◌++◌, length, Option, Some, None, refl, sym, ap, subst, ◌∙◌, arith, length-append}
use Rattle.std.specs.Prelude.{◌&&◌, drop, slice_get, nat_le, nat_lt}
use Rattle.std.specs.List.{filter}
use Rattle.std.proofs.lemmas.Bool.{lt-ltb}
use Rattle.std.proofs.lemmas.Bool.Decides.{nat_tests}
use Rattle.ft_base.specs.Admissions.{says_same, against_entry, against_held, by_key}
use Rattle.ft_base.specs.declared.admissions.Admission.TheVariants.{Expired, Same, Other, New}
use Rattle.ft_base.specs.Journal.{Entry, held, is_held, is_held_by, CanJoin, is_call, is_unexpired}
use Rattle.ft_base.specs.Laws.{JournalGoesOn}
use Rattle.ft_base.specs.declared.numbers.Tick.{Tick}
use Rattle.ft_base.specs.declared.numbers.Version.{Version}
use Rattle.ft_base.specs.declared.requests.Key.{Key}
use Rattle.ft_base.specs.declared.requests.Outcome.{Outcome}
use Rattle.ft_base.specs.declared.requests.Request.{Request}
use Rattle.reply_table.specs.Entries.{found, unanswered, joined, unexpired, replied, answered, with_reply}
use Rattle.reply_table.specs.declared.entries.Retained.{Retained}
use Rattle.message_log.specs.Picture.{Picture, length_of}
use Rattle.message_log.specs.Admission.{by_table, admitted}
use Rattle.message_log.specs.Calls.{with_entry, with_outcome, checkpointed}
use Rattle.message_log.specs.Standing.{IsRetained, Retains, StandsFor}
use Rattle.message_log.specs.declared.answers.Admit.TheVariants as admits
use Rattle.message_log.proofs.Places.{passes_nowhere, from_filter, to_filter, of_push, push_keeps, push_last, drop_push, drop_all, map_get, get_map}
use Rattle.message_log.proofs.PictureLaws.{not_deposed}
use Rattle.message_log.proofs.StandingLaws.{entry_of, log_says, length_stands, upper}

-- ---- what a new request is

-- its expiration is still to come, and no entry holds its retention id
abbrev IsFree : List Entry → ℕ → Option Key → Type 0
IsFree journal now None = Unit {0}
IsFree journal now (Some key) = (now < key.expiration.0) × (held journal key now ≡ None)

not_entry : (i : ℕ) (request : Request) (key : Key) (o : Option Entry) → against_entry i request key o ≡ New → ⊥
not_entry i request key None h = cc
not_entry i request key (Some e) h = go (says_same request key e.request) h
  where
    go : (b : Bool) → cond b (Same i) (Other i) ≡ New → ⊥
    go true k = cc
    go false k = cc

held_none : (journal : List Entry) (request : Request) (key : Key) (o : Option ℕ) → against_held journal request key o ≡ New → o ≡ None
held_none journal request key None h = refl
held_none journal request key (Some i) h = absurd (not_entry i request key (slice_get journal i) h)

new_is_free : (journal : List Entry) (now : ℕ) (request : Request) (key : Option Key) → by_key journal now request key ≡ New → IsFree journal now key
new_is_free journal now request None h = tt
new_is_free journal now request (Some key) h = go (nat_le key.expiration.0 now) refl h
  where
    go : (b : Bool) → nat_le key.expiration.0 now ≡ b → cond b (Expired key.expiration) (against_held journal request key (held journal key now)) ≡ New
        → (now < key.expiration.0) × (held journal key now ≡ None)
    go true t k = absurd cc
    go false t k = (grind (arith, nat_tests, t), held_none journal request key (held journal key now) k)

-- an unexpired entry that isn't held is of another call
other_call : (now : ℕ) (key k : Key) (o : Option Key) → o ≡ Some k → now < k.expiration.0 → is_held_by now key o ≡ false → is_call key o ≡ false
other_call now key k o is alive free = go (is_call key (Some k)) refl
  where
    go : (b : Bool) → is_call key (Some k) ≡ b → is_call key o ≡ false
    go false t = ap (is_call key) is ∙ t
    go true t =
        absurd (true≢false (sym (ap (λ c. c && nat_lt now k.expiration.0) t ∙ lt-ltb now k.expiration.0 alive) ∙ sym (ap (is_held_by now key) is) ∙ free))

-- ---- the table, when a request joins

module _ (journal : List Entry) (time now : ℕ) (table : List Retained) (retains : Retains journal time table) (le : time ≤ now) where
  -- the retained entry of a position is the journal's
  own_entry : (i : ℕ) (e : Entry) → slice_get journal i ≡ Some e → (w : IsRetained table i) → entry_of w.entry ≡ e
  own_entry i e g w =
      let own : Some (entry_of w.entry) ≡ Some e = sym (retains.are w.index w.entry w.at) ∙ ap (λ (k : ℕ). slice_get journal k) w.is ∙ g in
      cc

  pub retains_unkeyed : (request : Request) → request.key ≡ None → Retains (journal ++ record { at = now; request = request } ∷ []) now table
  retains_unkeyed request none = record {
    are = λ n r at. push_keeps journal (record { at = now; request = request }) (entry_of r) r.position (retains.are n r at);
    kept = λ i e k g is alive.
        ⊎_elim (λ old. retains.kept i e k old is (omega (arith, le, alive)))
        (λ last. absurd (none_some (sym none ∙ ap (λ (d : Entry). d.request.key) last.1 ∙ is)))
        (of_push journal (record { at = now; request = request }) e i g);
  }
    where
      none_some : {k : Key} → None ≡ Some k → ⊥
      none_some h = cc

  module _ (request : Request) (key : Key) (version : Version) (position : ℕ) (there : request.key ≡ Some key) (place : position ≡ length journal) (free : held journal key now ≡ None) where
    abbrev joining : Entry
    joining = record { at = now; request = request }

    abbrev row : Retained
    row = unanswered position version (record { 0 = now }) request

    abbrev stays : Retained → Bool
    stays r = not (is_call key r.request.key)

    are_own : (n : ℕ) (r : Retained) → slice_get (filter stays table ++ row ∷ []) n ≡ Some r → slice_get (journal ++ joining ∷ []) r.position ≡ Some (entry_of r)
    are_own n r at =
        ⊎_elim
        (λ old. let f = from_filter stays table n r old in push_keeps journal joining (entry_of r) r.position (retains.are f.0 r f.1))
        (λ new. subst (λ (x : Retained). slice_get (journal ++ joining ∷ []) x.position ≡ Some (entry_of x)) new.1
        (ap (λ (k : ℕ). slice_get (journal ++ joining ∷ []) k) place ∙ push_last journal joining))
        (of_push (filter stays table) row r n at)

    old_stays : (i : ℕ) (e : Entry) (k : Key) → slice_get journal i ≡ Some e → e.request.key ≡ Some k → now < k.expiration.0 → IsRetained (filter stays table ++ row ∷ []) i
    old_stays i e k g is alive =
        let w = retains.kept i e k g is (omega (arith, le, alive)) in
        let own = own_entry i e g w in
        let keyed : w.entry.request.key ≡ Some k = ap (λ (d : Entry). d.request.key) own ∙ is in
        let other : is_held_by now key w.entry.request.key ≡ false = ap (λ (d : Entry). is_held_by now key d.request.key) own ∙ passes_nowhere (is_held now key) journal i e free g in
        let f = to_filter stays table w.index w.entry w.at (ap not (other_call now key k w.entry.request.key keyed alive other)) in
        record { index = f.0; entry = w.entry; at = push_keeps (filter stays table) row w.entry f.0 f.1; is = w.is }

    pub retains_joined : Retains (journal ++ joining ∷ []) now (filter stays table ++ row ∷ [])
    retains_joined = record {
      are = are_own;
      kept = λ i e k g is alive.
          ⊎_elim (λ old. old_stays i e k old is alive)
          (λ last. record { index = length (filter stays table); entry = row; at = push_last (filter stays table) row; is = place ∙ sym last.0 })
          (of_push journal joining e i g);
    }

  -- ---- the table, when time goes on and replies are dropped

  pub retains_unexpired : Retains journal now (unexpired now table)
  retains_unexpired = record {
    are = λ n r at. let f = from_filter (λ (e : Retained). is_unexpired now e.request.key) table n r at in retains.are f.0 r f.1;
    kept = λ i e k g is alive.
        let w = retains.kept i e k g is (omega (arith, le, alive)) in
        let keyed : w.entry.request.key ≡ Some k = ap (λ (d : Entry). d.request.key) (own_entry i e g w) ∙ is in
        let f = to_filter (λ (e : Retained). is_unexpired now e.request.key) table w.index w.entry w.at
        (ap (is_unexpired now) keyed ∙ lt-ltb now k.expiration.0 alive)
        in
        record { index = f.0; entry = w.entry; at = f.1; is = w.is };
  }

-- ---- the table, when an entry is given its reply

answered_same : (position : ℕ) (outcome : Outcome) (r : Retained) → ((answered position outcome r).position ≡ r.position) × (entry_of (answered position outcome r) ≡ entry_of r)
answered_same position outcome r = go (eqb r.position position)
  where
    go : (b : Bool) → ((cond b (replied outcome r) r).position ≡ r.position) × (entry_of (cond b (replied outcome r) r) ≡ entry_of r)
    go true = (refl, refl)
    go false = (refl, refl)

retains_answered : (journal : List Entry) (time : ℕ) (table : List Retained) (position : ℕ) (outcome : Outcome) → Retains journal time table → Retains journal time (with_reply table position outcome)
retains_answered journal time table position outcome retains = record {
  are = λ n r at.
      let m = map_get (answered position outcome) table n r at in
      let same = answered_same position outcome m.0 in
      subst (λ (x : Retained). slice_get journal x.position ≡ Some (entry_of x)) m.2
      (ap (λ (k : ℕ). slice_get journal k) same.0 ∙ retains.are n m.0 m.1 ∙ ap Some (sym same.1));
  kept = λ i e k g is alive.
      let w = retains.kept i e k g is alive in
      record {
        index = w.index;
        entry = answered position outcome w.entry;
        at = get_map (answered position outcome) table w.index w.entry w.at;
        is = (answered_same position outcome w.entry).0 ∙ w.is;
      };
}

-- ---- the log

can_join : (journal : List Entry) (now : ℕ) (request : Request) (key : Option Key) → request.key ≡ key → IsFree journal now key → CanJoin journal (record { at = now; request = request })
can_join journal now request None is free = record {
  in_time = λ k there. absurd (none_some (sym is ∙ there));
  free = λ k there. absurd (none_some (sym is ∙ there));
}
  where
    none_some : {k : Key} → None ≡ Some k → ⊥
    none_some h = cc
can_join journal now request (Some key) is free = record {
  in_time = λ k there. subst (λ (x : Key). now < x.expiration.0) (some_some (sym is ∙ there)) free.0;
  free = λ k there. subst (λ (x : Key). held journal x now ≡ None) (some_some (sym is ∙ there)) free.1;
}
  where
    some_some : {k l : Key} → Some k ≡ Some l → k ≡ l
    some_some h = cc

retains_with : (journal : List Entry) (time now : ℕ) (request : Request) (table : List Retained) (version : Version) (position : ℕ) (key : Option Key)
    → Retains journal time table → time ≤ now → position ≡ length journal → request.key ≡ key → IsFree journal now key
    → Retains (journal ++ record { at = now; request = request } ∷ []) now (joined table (unanswered position version (record { 0 = now }) request) key)
retains_with journal time now request table version position None retains le place is free = retains_unkeyed journal time now table retains le request is
retains_with journal time now request table version position (Some key) retains le place is free =
    retains_joined journal time now table retains le request key version position is place free.1

pub stands_with_entry : JournalGoesOn → (journal : List Entry) (log : Picture) → StandsFor journal log → (version : Version) (clock : Tick) (request : Request)
    → admitted log version.0 clock.0 request ≡ admits.Admission New
    → StandsFor (journal ++ record { at = max clock.0 log.time; request = request } ∷ []) (with_entry log version clock request)
stands_with_entry goes journal log s version clock request h =
    let now = max clock.0 log.time in
    let le : log.time ≤ now = upper clock.0 log.time in
    let says = not_deposed log.newest.version.0 version.0 (by_table request.key now (length_of log) (found log.table request request.key now)) New h in
    let free = new_is_free journal now request request.key (sym (log_says journal log s clock.0 request) ∙ says) in
    let entry : Entry = record { at = now; request = request } in
    record {
      is_journal = goes log.time journal entry s.is_journal le (can_join journal now request request.key refl free);
      marked = omega (arith, s.marked, length-append journal (entry ∷ []));
      entries = ap (λ (es : List Entry). es ++ entry ∷ []) s.entries ∙ sym (drop_push log.mark journal entry s.marked);
      table = retains_with journal log.time now request log.table version (length_of log) request.key s.table le (length_stands journal log s) refl free;
    }

pub stands_cut : (journal : List Entry) (log : Picture) → StandsFor journal log → (clock : Tick) (state : List ℕ) → StandsFor journal (checkpointed log clock state)
stands_cut journal log s clock state =
    let now = max clock.0 log.time in
    let le : log.time ≤ now = upper clock.0 log.time in
    let long = length_stands journal log s in
    record {
      is_journal = record { before = λ i e g. omega (arith, s.is_journal.before i e g, le); ticks = s.is_journal.ticks; once = s.is_journal.once };
      marked = omega (arith, long);
      entries = drop_all journal ∙ ap (λ (n : ℕ). drop n journal) (sym long);
      table = retains_unexpired journal log.time now log.table s.table le;
    }

pub stands_answered : (journal : List Entry) (log : Picture) → StandsFor journal log → (position : ℕ) (outcome : Outcome) → StandsFor journal (with_outcome log position outcome)
stands_answered journal log s position outcome = record {
  is_journal = s.is_journal;
  marked = s.marked;
  entries = s.entries;
  table = go (nat_lt position log.mark);
}
  where
    go : (b : Bool) → Retains journal log.time (cond b log.table (with_reply log.table position outcome))
    go true = s.table
    go false = retains_answered journal log.time log.table position outcome s.table
