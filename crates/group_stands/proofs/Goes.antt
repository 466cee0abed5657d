-- How a log goes on standing for a group: beside its keeper's work, where a request joins, an entry is run, or a
-- checkpoint is written.
use Rattle.std.proofs.Common.{◌≡◌, ℕ, ◌+◌, ◌<◌, ◌≤◌, inl, inr, max, Bool, true, false, cond, true≢false, not, List, [], ◌∷◌, ◌++◌, length, length-append, Option, Some, None, refl, sym, ap, subst, ◌∙◌, leb-false, arith}
use Rattle.std.specs.Prelude.{◌==◌, nat_le, nat_lt, slice_get, unwrap_or}
use Rattle.std.proofs.lemmas.Bool.Decides.{nat_tests}
use Rattle.std.proofs.lemmas.Option.{slice_get_within}
use Rattle.ft_base.specs.Admissions.{by_room}
use Rattle.ft_base.specs.Machine.{Machine, Fits}
use Rattle.ft_base.specs.declared.admissions.Admission.{Admission}
use Rattle.ft_base.specs.declared.admissions.Admission.TheVariants.{Expired, Full, New}
use Rattle.ft_base.specs.Journal.{Entry, IsJournal, after, reply_at, is_call, is_unexpired}
use Rattle.ft_base.specs.Laws.{AllGoOnFitting, RepliesStay}
use Rattle.ft_base.specs.declared.limits.TheConstants.{ARGUMENTS_LIMIT, JOURNAL_LIMIT}
use Rattle.ft_base.specs.declared.numbers.Tick.{Tick}
use Rattle.ft_base.specs.declared.numbers.Version.{Version}
use Rattle.ft_base.specs.declared.requests.Key.{Key}
use Rattle.ft_base.specs.declared.requests.Outcome.{Outcome}
use Rattle.ft_base.specs.declared.requests.Request.{Request}
use Rattle.reply_table.specs.Entries.{unanswered, without, joined as with_row, replied, answered, with_reply}
use Rattle.reply_table.specs.declared.entries.Found.{Found}
use Rattle.reply_table.specs.declared.entries.Found.TheVariants as founds
use Rattle.reply_table.specs.declared.entries.Retained.{Retained}
use Rattle.message_log.specs.Admission.{admitted, by_table, by_found, unless_deposed}
use Rattle.message_log.specs.Calls.{with_entry, with_outcome, checkpointed}
use Rattle.message_log.specs.Laws.{StandsWithEntry, StandsCut, StandsAnswered}
use Rattle.message_log.specs.Picture.{Picture as LogPicture, Reserved, length_of}
use Rattle.message_log.specs.Standing.{StandsFor}
use Rattle.message_log.specs.declared.answers.Admit.TheVariants as admits
use Rattle.group_model.specs.Agreeing.{IsLogged, IsSoundCommon}
use Rattle.group_model.specs.Plain.{Common, state_at, with_ran}
use Rattle.group_model.specs.Serving.{joined}
use Rattle.group_model.specs.Transfers.{marked}
use Rattle.group_stands.specs.Stands.{LogStands, AreAnswered, reply_once_run}
use Rattle.group_stands.proofs.Places.{all_push, map_get, from_filter, of_push}
use Rattle.group_stands.proofs.Runs.{take_front}
use Rattle.group_stands.proofs.Tells.{end_is}

-- ---- beside the keeper's work

pub log_beside : (machines : ℕ → Machine) (c : Common) (log : LogPicture) → LogStands machines c log →
    (reserved : Option Reserved) (records : List (List ℕ)) (plan : Option (List Bool)) (faults : ℕ) →
    LogStands machines c (record log { reserved = reserved; records = records; plan = plan; faults = faults })
log_beside machines c log s reserved records plan faults = record {
  views = s.views;
  mark = s.mark;
  time = s.time;
  journal = record { is_journal = s.journal.is_journal; marked = s.journal.marked; entries = s.journal.entries; table = record { are = s.journal.table.are; kept = s.journal.table.kept } };
  state = s.state;
  replies = s.replies;
  sound = s.sound;
}

-- ---- an entry is run

pub sound_ran : (m : Machine) (c : Common) (n : ℕ) → n ≤ length c.journal → IsSoundCommon m c → IsSoundCommon m (with_ran n c)
sound_ran m c n le s = record {
  opens = s.opens;
  views = s.views;
  kept = s.kept;
  journal = s.journal;
  numbers = record { mark = omega (arith, s.numbers.mark); ran = omega (arith, s.numbers.ran, le); fresh = s.numbers.fresh };
}

-- a reply that is there is the entry's one reply
first_is : (reply : Option Outcome) (b : Bool) (one : Outcome) → reply ≡ cond b (Some one) None → unwrap_or reply one ≡ one
first_is reply true one is = ap (λ (o : Option Outcome). unwrap_or o one) is
first_is reply false one is = ap (λ (o : Option Outcome). unwrap_or o one) is

answered_next : (m : Machine) (opening : List ℕ) (journal : List Entry) (ran : ℕ) (table : List Retained) (position : ℕ) (outcome : Outcome) →
    outcome ≡ reply_at m opening journal position → position ≤ ran → AreAnswered m opening journal ran table →
    AreAnswered m opening journal (max ran (position + 1)) (with_reply table position outcome)
answered_next m opening journal ran table position outcome is le are n r at =
    let old = map_get (answered position outcome) table n r at in
    subst (λ (x : Retained). x.reply ≡ reply_once_run m opening journal (max ran (position + 1)) x.position) old.2
    (go old.0 (are n old.0 old.1) (old.0.position == position) refl)
  where
    go : (x : Retained) → x.reply ≡ reply_once_run m opening journal ran x.position → (b : Bool) → (x.position == position) ≡ b →
        (cond b (replied outcome x) x).reply ≡ reply_once_run m opening journal (max ran (position + 1)) (cond b (replied outcome x) x).position
    go x old true t =
        let here : x.position ≡ position = grind (arith, nat_tests) in
        let run : nat_lt x.position (max ran (position + 1)) ≡ true = grind (arith, nat_tests) in
        let one : outcome ≡ reply_at m opening journal x.position = is ∙ ap (reply_at m opening journal) (sym here) in
        ap (λ (o : Outcome). Some (unwrap_or x.reply o)) one
        ∙ ap Some (first_is x.reply (nat_lt x.position ran) (reply_at m opening journal x.position) old)
        ∙ ap (λ b. cond b (Some (reply_at m opening journal x.position)) None) (sym run)
    go x old false t =
        let same : nat_lt x.position ran ≡ nat_lt x.position (max ran (position + 1)) = grind (arith, nat_tests) in
        old ∙ ap (λ b. cond b (Some (reply_at m opening journal x.position)) None) same

-- behind the mark replies are given
behind : (position mark : ℕ) (table : List Retained) (outcome : Outcome) → mark ≤ position →
    with_reply table position outcome ≡ cond (nat_lt position mark) table (with_reply table position outcome)
behind position mark table outcome le =
    let no : nat_lt position mark ≡ false = grind (arith, nat_tests) in ap (λ b. cond b table (with_reply table position outcome)) (sym no)

pub log_answered : StandsAnswered → (machines : ℕ → Machine) (c : Common) (log : LogPicture) → LogStands machines c log →
    (position : ℕ) (outcome : Outcome) → outcome ≡ reply_at (machines c.kind) c.opening c.journal position → c.mark ≤ position → position ≤ c.ran → position < length c.journal →
    LogStands machines (with_ran (position + 1) c) (with_outcome log position outcome)
log_answered law machines c log s position outcome is marked le inside = record {
  views = s.views;
  mark = s.mark;
  time = s.time;
  journal = law c.journal log s.journal position outcome;
  state = s.state;
  replies =
      subst (AreAnswered (machines c.kind) c.opening c.journal (max c.ran (position + 1))) (behind position log.mark log.table outcome (omega (arith, s.mark, marked)))
      (answered_next (machines c.kind) c.opening c.journal c.ran log.table position outcome is le s.replies);
  sound = sound_ran (machines c.kind) c (position + 1) (omega (arith, inside)) s.sound;
}

-- ---- a request joins

-- a new request has room
by_room_new : (count : ℕ) → by_room count ≡ New → count < JOURNAL_LIMIT
by_room_new count h = go (nat_le JOURNAL_LIMIT count) refl h
  where
    go : (b : Bool) → nat_le JOURNAL_LIMIT count ≡ b → cond b Full New ≡ New → count < JOURNAL_LIMIT
    go true t k = absurd cc
    go false t k = leb-false JOURNAL_LIMIT count t

by_found_new : (count : ℕ) (what : Found) → by_found count what ≡ New → count < JOURNAL_LIMIT
by_found_new count founds.Fresh h = by_room_new count h
by_found_new count (founds.Same i) h = absurd cc
by_found_new count (founds.Other i) h = absurd cc

by_table_new : (key : Option Key) (now count : ℕ) (what : Found) → by_table key now count what ≡ New → count < JOURNAL_LIMIT
by_table_new None now count what h = by_room_new count h
by_table_new (Some key) now count what h = go (nat_le key.expiration.0 now) h
  where
    go : (b : Bool) → cond b (Expired key.expiration) (by_found count what) ≡ New → count < JOURNAL_LIMIT
    go true k = absurd cc
    go false k = by_found_new count what k

admission_is : (x y : Admission) → admits.Admission x ≡ admits.Admission y → x ≡ y
admission_is x y h = cc

pub new_has_room : (newest version : ℕ) (key : Option Key) (now count : ℕ) (what : Found) → unless_deposed newest version (by_table key now count what) ≡ admits.Admission New → count < JOURNAL_LIMIT
new_has_room newest version key now count what h = go (nat_lt version newest) h
  where
    go : (b : Bool) → cond b (admits.Deposed (record { 0 = newest })) (admits.Admission (by_table key now count what)) ≡ admits.Admission New → count < JOURNAL_LIMIT
    go true k = absurd cc
    go false k = by_table_new key now count what (admission_is (by_table key now count what) New k)

module _ (m : Machine) (opening : List ℕ) (journal : List Entry) (ran : ℕ) (stay : RepliesStay) (few : ran ≤ length journal) (e : Entry) where
  -- an entry that was there keeps its reply
  stays_answered : (reply : Option Outcome) (i : ℕ) → i < length journal → reply ≡ reply_once_run m opening journal ran i → reply ≡ reply_once_run m opening (journal ++ e ∷ []) ran i
  stays_answered reply i lt is = is ∙ ap (λ (o : Outcome). cond (nat_lt i ran) (Some o) None) (sym (stay m opening journal e i lt))

  -- the new one has none yet
  not_yet : None ≡ reply_once_run m opening (journal ++ e ∷ []) ran (length journal)
  not_yet = let no : nat_lt (length journal) ran ≡ false = grind (arith, nat_tests) in ap (λ b. cond b (Some (reply_at m opening (journal ++ e ∷ []) (length journal))) None) (sym no)

  answered_joined : (table : List Retained) (row : Retained) (key : Option Key) →
      ((n : ℕ) (r : Retained) → slice_get table n ≡ Some r → r.position < length journal) → AreAnswered m opening journal ran table →
      row.reply ≡ None → row.position ≡ length journal → AreAnswered m opening (journal ++ e ∷ []) ran (with_row table row key)
  answered_joined table row None within are none place n r at = stays_answered r.reply r.position (within n r at) (are n r at)
  answered_joined table row (Some key) within are none place n r at = elim (of_push (without key table) row r n at) [
    | inl old ↦
        let there = from_filter (λ (x : Retained). not (is_call key x.request.key)) table n r old in
        stays_answered r.reply r.position (within there.0 r there.1) (are there.0 r there.1)
    | inr new ↦
        subst (λ (x : Retained). x.reply ≡ reply_once_run m opening (journal ++ e ∷ []) ran x.position) new
        (none ∙ not_yet ∙ ap (reply_once_run m opening (journal ++ e ∷ []) ran) (sym place))
  ]

-- the journal with it
logged_joined : AllGoOnFitting → (m : Machine) (time now : ℕ) (journal : List Entry) (e : Entry) → IsLogged m time journal → length journal < JOURNAL_LIMIT →
    IsJournal now (journal ++ e ∷ []) → Fits m e.request → length e.request.args ≤ ARGUMENTS_LIMIT → IsLogged m now (journal ++ e ∷ [])
logged_joined fitting m time now journal e logged room so fits short = record {
  few = omega (arith, room, length-append journal (e ∷ []));
  so = so;
  fit = fitting m journal e logged.fit fits;
  short = all_push (λ (x : Entry). length x.request.args ≤ ARGUMENTS_LIMIT) journal e logged.short short;
}

pub log_joined : StandsWithEntry → AllGoOnFitting → RepliesStay → (machines : ℕ → Machine) (c : Common) (log : LogPicture) → LogStands machines c log →
    (version : Version) (clock : Tick) (q : Request) → admitted log version.0 clock.0 q ≡ admits.Admission New → Fits (machines c.kind) q → length q.args ≤ ARGUMENTS_LIMIT →
    LogStands machines (joined c (max clock.0 c.time) q) (with_entry log version clock q)
log_joined law fitting stay machines c log s version clock q new fits short =
    let m = machines c.kind in
    let now = max clock.0 c.time in
    let at : max clock.0 log.time ≡ now = ap (max clock.0) s.time in
    let e : Entry = record { at = now; request = q } in
    let ends = end_is machines c log s in
    let stands : StandsFor (c.journal ++ e ∷ []) (with_entry log version clock q) =
    subst (λ (t : ℕ). StandsFor (c.journal ++ record { at = max clock.0 t; request = q } ∷ []) (with_entry log version clock q)) s.time
    (law c.journal log s.journal version clock q new) in
    let room = new_has_room log.newest.version.0 version.0 q.key (max clock.0 log.time) (length_of log) _ new in
    record {
      views = s.views;
      mark = s.mark;
      time = at;
      journal = stands;
      state = s.state ∙ ap (λ (es : List Entry). cond c.taken (Some (after m c.opening es)) None) (sym (take_front c.mark c.journal (e ∷ []) (omega (arith, s.sound.numbers.mark, s.sound.numbers.ran))));
      replies =
          answered_joined m c.opening c.journal c.ran stay s.sound.numbers.ran e log.table (unanswered (length_of log) version (record { 0 = max clock.0 log.time }) q) q.key
          (λ n r there. slice_get_within c.journal r.position _ (s.journal.table.are n r there)) s.replies refl ends;
      sound = record {
        opens = s.sound.opens;
        views = s.sound.views;
        kept = s.sound.kept;
        journal =
            logged_joined fitting m c.time now c.journal e s.sound.journal (omega (arith, room, ends))
            (subst (λ (t : ℕ). IsJournal t (c.journal ++ e ∷ [])) at stands.is_journal) fits short;
        numbers = record { mark = s.sound.numbers.mark; ran = omega (arith, s.sound.numbers.ran, length-append c.journal (e ∷ [])); fresh = s.sound.numbers.fresh };
      };
    }

-- ---- a checkpoint

journal_later : (time now : ℕ) (journal : List Entry) → IsJournal time journal → time ≤ now → IsJournal now journal
journal_later time now journal so later = record {
  before = λ i e at. let early = so.before i e at in omega (arith, early, later);
  ticks = so.ticks;
  once = so.once;
}

pub log_checkpointed : StandsCut → (machines : ℕ → Machine) (c : Common) (log : LogPicture) → LogStands machines c log → c.ran ≡ length c.journal →
    (clock : Tick) → LogStands machines (marked c clock.0) (checkpointed log clock (state_at (machines c.kind) c (length c.journal)))
log_checkpointed law machines c log s ran clock =
    let time = max clock.0 log.time in
    record {
      views = s.views;
      mark = end_is machines c log s;
      time = omega (arith, s.time);
      journal = law c.journal log s.journal clock (state_at (machines c.kind) c (length c.journal));
      state = refl;
      replies = λ n r at. let old = from_filter (λ (x : Retained). is_unexpired time x.request.key) log.table n r at in s.replies old.0 r old.1;
      sound = record {
        opens = s.sound.opens;
        views = s.sound.views;
        kept = s.sound.kept;
        journal = record {
          few = s.sound.journal.few;
          so = journal_later c.time (max c.time clock.0) c.journal s.sound.journal.so (omega arith);
          fit = s.sound.journal.fit;
          short = s.sound.journal.short;
        };
        numbers = record { mark = omega (arith, ran); ran = omega (arith, ran); fresh = λ no. absurd (true≢false no) };
      };
    }
