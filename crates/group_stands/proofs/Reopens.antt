-- A log that is opened again stands for its group of which all hosts had stopped.
use Rattle.std.proofs.Common.{◌≡◌, ℕ, ◌-◌, ◌≤◌, Bool, true, false, cond, List, [], ◌∷◌, ◌++◌, length, length-append, drop, Some, None, refl, sym, ap, subst, ◌∙◌, arith}
use Rattle.std.specs.Prelude.{nat_lt, option_map, slice_get}
use Rattle.std.proofs.Math.Seq.{drop-append_seam}
use Rattle.std.proofs.lemmas.Bool.Decides.{nat_tests}
use Rattle.std.proofs.lemmas.Option.{slice_get-map}
use Rattle.ft_base.specs.Machine.{Machine}
use Rattle.ft_base.specs.Journal.{Entry, IsJournal, reply_at}
use Rattle.ft_base.specs.declared.views.View.{View}
use Rattle.reply_table.specs.declared.entries.Retained.{Retained}
use Rattle.message_log.specs.Picture.{Picture as LogPicture}
use Rattle.message_log.specs.Recording.{WrittenLogsAreOpenedAgain}
use Rattle.message_log.specs.Retaining.{recorded, recorded_one}
use Rattle.message_log.specs.Standing.{Retains, StandsFor}
use Rattle.message_log.specs.Written.{IsResumed}
use Rattle.group_model.specs.Agreeing.{IsSoundCommon}
use Rattle.group_model.specs.Plain.{Common}
use Rattle.group_model.specs.Reopening.{reopened_common}
use Rattle.group_stands.specs.Reopening.{LogsAreReopened}
use Rattle.group_stands.specs.Stands.{LogStands, AreAnswered, reply_once_run}
use Rattle.group_stands.proofs.Places.{map_get}
use Rattle.group_stands.proofs.Tells.{before, views_whole}

-- ---- the newest view is there

last_left : (views earlier : List View) (v : View) → earlier ++ v ∷ [] ≡ views → drop (length views - 1) views ≡ v ∷ []
last_left views earlier v is =
    let last : length (earlier ++ v ∷ []) - 1 ≡ length earlier = omega (arith, length-append earlier (v ∷ [])) in
    ap (λ (vs : List View). drop (length vs - 1) vs) (sym is)
    ∙ ap (λ (n : ℕ). drop n (earlier ++ v ∷ [])) last
    ∙ drop-append_seam earlier (v ∷ [])

-- ---- the same requests are retained, with the replies that the checkpoint wrote

retains_recorded : (journal : List Entry) (time mark : ℕ) (table : List Retained) → Retains journal time table → Retains journal time (recorded mark table)
retains_recorded journal time mark table retains = record {
  are = λ n r at.
      let old = map_get (recorded_one mark) table n r at in
      subst (λ (x : Retained). slice_get journal x.position ≡ Some (record { at = x.at.0; request = x.request })) old.2 (retains.are n old.0 old.1);
  kept = λ i e key at is alive.
      let w = retains.kept i e key at is alive in
      record {
        index = w.index;
        entry = recorded_one mark w.entry;
        at = slice_get-map (recorded_one mark) table w.index ∙ ap (option_map (recorded_one mark)) w.at;
        is = w.is;
      };
}

recorded_answered : (m : Machine) (opening : List ℕ) (journal : List Entry) (ran mark : ℕ) (table : List Retained) → mark ≤ ran →
    AreAnswered m opening journal ran table → AreAnswered m opening journal mark (recorded mark table)
recorded_answered m opening journal ran mark table le are n r at =
    let old = map_get (recorded_one mark) table n r at in
    subst (λ (x : Retained). x.reply ≡ reply_once_run m opening journal mark x.position) old.2
    (go old.0 (are n old.0 old.1) (nat_lt old.0.position mark) refl)
  where
    go : (x : Retained) → x.reply ≡ reply_once_run m opening journal ran x.position → (b : Bool) → nat_lt x.position mark ≡ b →
        cond b x.reply None ≡ cond b (Some (reply_at m opening journal x.position)) None
    go x is true t =
        let run : nat_lt x.position ran ≡ true = grind (arith, nat_tests) in
        is ∙ ap (λ b. cond b (Some (reply_at m opening journal x.position)) None) run
    go x is false t = refl

-- ---- the log

common_sound : (m : Machine) (c : Common) → IsSoundCommon m c → IsSoundCommon m (reopened_common c)
common_sound m c s = record {
  opens = s.opens;
  views = s.views;
  kept = record { some = s.views.some; last = omega arith };
  journal = s.journal;
  numbers = record { mark = omega arith; ran = omega (arith, s.numbers.mark, s.numbers.ran); fresh = s.numbers.fresh };
}

module _ (machines : ℕ → Machine) (c : Common) (log again : LogPicture) (s : LogStands machines c log) (r : IsResumed log again) where
  journal_again : StandsFor c.journal again
  journal_again = record {
    is_journal = subst (λ (t : ℕ). IsJournal t c.journal) (sym r.time) s.journal.is_journal;
    marked = omega (arith, r.mark, s.journal.marked);
    entries = r.entries ∙ s.journal.entries ∙ ap (λ (n : ℕ). drop n c.journal) (sym r.mark);
    table =
        subst (λ (t : ℕ). Retains c.journal t again.table) (sym r.time)
        (subst (Retains c.journal log.time) (sym r.table) (retains_recorded c.journal log.time log.mark log.table s.journal.table));
  }

  replies_again : AreAnswered (machines c.kind) c.opening c.journal c.mark again.table
  replies_again =
      subst (AreAnswered (machines c.kind) c.opening c.journal c.mark) (sym r.table)
      (subst (λ (n : ℕ). AreAnswered (machines c.kind) c.opening c.journal n (recorded log.mark log.table)) s.mark
      (recorded_answered (machines c.kind) c.opening c.journal c.ran log.mark log.table (omega (arith, s.mark, s.sound.numbers.mark)) s.replies))

  stands_again : again.earlier ≡ [] → LogStands machines (reopened_common c) again
  stands_again none = record {
    views =
        ap (λ (vs : List View). vs ++ again.newest ∷ []) none ∙ ap (λ (v : View). v ∷ []) r.newest
        ∙ sym (last_left c.views (before c log) log.newest (views_whole c log s.views));
    mark = r.mark ∙ s.mark;
    time = r.time ∙ s.time;
    journal = journal_again;
    state = r.state ∙ s.state;
    replies = replies_again;
    sound = common_sound (machines c.kind) c s.sound;
  }

pub logs_reopened : WrittenLogsAreOpenedAgain → LogsAreReopened
logs_reopened law machines c log s written again plan faults opened =
    stands_again machines c log again s (law log written again plan faults opened) (ap (λ (p : LogPicture). p.earlier) opened.is)
