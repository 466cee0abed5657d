-- A history one call longer.
use Rattle.std.proofs.Common.{◌≡◌, ℕ, ◌+◌, ◌≤◌, ◌⊎◌, Bool, true, false, List, [], ◌∷◌, ◌++◌, refl, sym, subst, ap, ◌∙◌, inl, inr, arith}
use Rattle.std.specs.Prelude.{◌==◌, if◌then◌else◌}
use Rattle.std.proofs.lemmas.Bool.Decides.{nat_tests}
use Rattle.ft_base.specs.Machine.{Machine}
use Rattle.ft_outside.specs.Outside.{next_count}
use Rattle.group_model.specs.Agreeing.{Agrees, IsSound}
use Rattle.group_model.specs.Plain.{Group}
use Rattle.group_model.specs.Sending.{WhatIsSentAgrees}
use Rattle.group_model.specs.Steps.{Act, StepsGrow, StepsKeepAgreement}
use Rattle.group_core.specs.Cores.{CorePicture, Stands}
use Rattle.group_core.specs.Telling.{IsCounted}
use Rattle.message_log.specs.Picture.{Picture as LogPicture}
use Rattle.shared_group.specs.declared.calls.Call.{Call}
use Rattle.shared_group.specs.declared.calls.CallAnswer.{CallAnswer}
use Rattle.shared_group.specs.Books.{AreActs, AreCounted, BookPicture, CountsFaults, DoesFor, IsAt, IsBook, IsEntered, IsReady, MayCall, NoneShowsFault, entered, fault_of, looked, none, one_more, shown_faults, skipped, without_room}
use Rattle.shared_group.specs.Shared.{AllMayCome, Legal, Shared, Steps, answered, opening, shows_fault_by}
use Rattle.shared_group.proofs.Going.{agrees_on, call_moves, may_come_after, same_kind, was_sound}

-- ---- counts

next_case : (f : ℕ) → (18446744073709551615 ≤ next_count f) ⊎ (next_count f ≡ f + 1)
next_case f = go (f == 18446744073709551615) refl where
  go : (b : Bool) → (f == 18446744073709551615) ≡ b → (18446744073709551615 ≤ (if b then f else f + 1)) ⊎ ((if b then f else f + 1) ≡ f + 1)
  go true is = inl (grind (arith, nat_tests))
  go false is = inr refl

count_more : (b : Bool) (n before now : ℕ) → (n ≤ before) ⊎ (18446744073709551615 ≤ before) → IsCounted b before now → (n + fault_of b ≤ now) ⊎ (18446744073709551615 ≤ now)
count_more true n before now (inl few) is = elim (next_case before) [ inl most ↦ inr (subst (λ (k : ℕ). 18446744073709551615 ≤ k) (sym is) most) | inr more ↦ inl (omega (arith, is, more, few)) ]
count_more true n before now (inr end) is = elim (next_case before) [ inl most ↦ inr (subst (λ (k : ℕ). 18446744073709551615 ≤ k) (sym is) most) | inr more ↦ inr (omega (arith, is, more, end)) ]
count_more false n before now (inl few) is = inl (omega (arith, is, few))
count_more false n before now (inr end) is = inr (omega (arith, is, end))

shown_more : (past : List (Call × CallAnswer)) (c : Call × CallAnswer) → shown_faults (past ++ c ∷ []) ≡ shown_faults past + fault_of (shows_fault_by (answered c.1))
unfolding shown_faults
shown_more [] c = omega arith
shown_more (p ∷ past) c = omega (arith, shown_more past c)

none_more : (past : List (Call × CallAnswer)) (c : Call × CallAnswer) → NoneShowsFault past → shows_fault_by (answered c.1) ≡ false → NoneShowsFault (past ++ c ∷ [])
unfolding NoneShowsFault
none_more [] c none_yet is = (is, tt)
none_more (p ∷ past) c none_yet is = (none_yet.0, none_more past c none_yet.1 is)

counted_more : (first : LogPicture) (past : List (Call × CallAnswer)) (c : Call × CallAnswer) (before now : LogPicture) → AreCounted first past before
    → CountsFaults (shows_fault_by (answered c.1)) before now → AreCounted first (past ++ c ∷ []) now
counted_more first past c before now are counts = record {
  counted = subst (λ (n : ℕ). (n ≤ now.faults) ⊎ (18446744073709551615 ≤ now.faults)) (sym (shown_more past c))
      (count_more (shows_fault_by (answered c.1)) (shown_faults past) before.faults now.faults are.counted counts.counted);
  calm = λ calm. let so_far = are.calm calm in let more = counts.calm so_far.0 in (more.1, none_more past c so_far.1 more.0);
}

-- ---- legal histories

module _ (m : Machine) where
  pub legal_more : (past : List (Call × CallAnswer)) (c : Call × CallAnswer) (s t u : Shared) → Legal m s past t → Steps m c.0 c.1 t u → Legal m s (past ++ c ∷ []) u
  unfolding Legal
  legal_more [] c s t u is steps = (u, subst (λ (z : Shared). Steps m c.0 c.1 z u) is steps, refl)
  legal_more (p ∷ past) c s t u legal steps = (legal.0, legal.1, legal_more past c legal.0 t u legal.2 steps)

  pub legal_last : (past : List (Call × CallAnswer)) (c : Call × CallAnswer) (s u : Shared) → Legal m s (past ++ c ∷ []) u → (t : Shared) × Legal m s past t × Steps m c.0 c.1 t u
  unfolding Legal
  legal_last [] c s u legal = (s, refl, subst (λ (z : Shared). Steps m c.0 c.1 s z) (sym legal.2) legal.1)
  legal_last (p ∷ past) c s u legal = let l = legal_last past c legal.0 u legal.2 in (l.0, (legal.0, legal.1, l.1), l.2)

-- ---- what may be called goes on so

acts_more : (past : List (Call × CallAnswer)) (c : Call × CallAnswer) (core core' : CorePicture) (acts acts' : List Act) → AreActs past acts → IsEntered c.1 core core' acts acts'
    → AreActs (past ++ c ∷ []) acts'
acts_more past c core core' acts acts' are (entered act is put) = subst (λ (l : List Act). AreActs (past ++ c ∷ []) l) (sym put) (one_more past acts c act are is)
acts_more past c core core' acts acts' are (looked is same put) = subst (λ (l : List Act). AreActs (past ++ c ∷ []) l) (sym put) (skipped past acts c are (inl is))
acts_more past c core core' acts acts' are (without_room is same put) = subst (λ (l : List Act). AreActs (past ++ c ∷ []) l) (sym put) (skipped past acts c are (inr is))

module _ (machines : ℕ → Machine) (lasting : StepsKeepAgreement) where
  pub may_lasts : (first : BookPicture) (past : List (Call × CallAnswer)) (next : Call × CallAnswer) (call : Call) → MayCall machines first past call → MayCall machines first (past ++ next ∷ []) call
  may_lasts first past next call may = record {
    inside = may.inside;
    agrees = λ e is. let a = may.agrees e is in (
      a.0,
      λ o u opened legal sound.
          let m = machines o.common.kind in
          let l = legal_last m past next (opening o) u legal in
          let moves = call_moves m next.0 next.1 l.0 u l.2 in
          agrees_on m lasting l.0.group u.group moves e a.0 (a.1 o l.0 opened l.1 (was_sound m l.0.group u.group moves sound)),
    );
  }

  -- ---- the book

  -- a call that may be made is ready
  pub ready_at : (first : BookPicture) (past : List (Call × CallAnswer)) (call : Call) (book : BookPicture) (o : Group) → Stands machines first.core o
      → (at : IsAt machines o past book) → MayCall machines first past call → IsReady machines call book at.now
  ready_at first past call book o opened at may =
      let same : machines o.common.kind ≡ machines at.now.group.common.kind = ap machines (sym at.kind) in
      let sound = subst (λ (m : Machine). IsSound m at.now.group) (sym same) at.stands.sound in
      record {
        stands = at.stands;
        queue = at.queue;
        may_come = subst (λ (m : Machine). AllMayCome m at.now.queue at.now.group) same at.may_come;
        agrees = λ e is. let a = may.agrees e is in (a.0, subst (λ (m : Machine). Agrees m e at.now.group) same (a.1 o at.now opened at.legal sound));
        inside = may.inside;
      }

  pub ready : (first : BookPicture) (past : List (Call × CallAnswer)) (call : Call) (book : BookPicture) → IsBook machines first past book → MayCall machines first past call
      → (s : Shared) × IsReady machines call book s
  ready first past call book is may = let at = is.at is.opened.0 is.opened.1 in (at.now, ready_at first past call book is.opened.0 is.opened.1 at may)

  module _ (grow : StepsGrow) (sent : WhatIsSentAgrees) where
    at_more : (first : BookPicture) (past : List (Call × CallAnswer)) (call : Call) (answer : CallAnswer) (book book' : BookPicture) (o : Group) → Stands machines first.core o
        → IsAt machines o past book → MayCall machines first past call → DoesFor machines call answer book book' → IsAt machines o (past ++ (call, answer) ∷ []) book'
    at_more first past call answer book book' o opened at may does =
        let m = machines o.common.kind in
        let d = does at.now (ready_at first past call book o opened at may) in
        let steps : Steps m call answer at.now d.next = subst (λ (k : ℕ). Steps (machines k) call answer at.now d.next) at.kind d.steps in
        record {
          now = d.next;
          legal = legal_more m past (call, answer) (opening o) at.now d.next at.legal steps;
          kind = same_kind m grow at.now.group d.next.group (call_moves m call answer at.now d.next steps) ∙ at.kind;
          stands = d.stands;
          queue = d.queue;
          may_come = may_come_after m lasting sent call answer at.now d.next at.may_come steps;
        }

    pub book_more : (first : BookPicture) (past : List (Call × CallAnswer)) (call : Call) (answer : CallAnswer) (book book' : BookPicture)
        → IsBook machines first past book → MayCall machines first past call
        → DoesFor machines call answer book book' → CountsFaults (shows_fault_by (answered answer)) book.core.log book'.core.log
        → IsBook machines first (past ++ (call, answer) ∷ []) book'
    book_more first past call answer book book' is may does counts =
        let o = is.opened.0 in
        let at = is.at o is.opened.1 in
        let d = does at.now (ready_at first past call book o is.opened.1 at may) in
        record {
          opened = is.opened;
          at = λ p opened. at_more first past call answer book book' p opened (is.at p opened) may does;
          acts = acts_more past (call, answer) book.core book'.core book.acts book'.acts is.acts d.entry;
          faults = counted_more first.core.log past (call, answer) book.core.log book'.core.log is.faults counts;
        }

-- a book of which nothing was asked yet
pub fresh_book : (machines : ℕ → Machine) (book : BookPicture) (o : Group) → Stands machines book.core o → book.queue ≡ [] → book.acts ≡ [] → IsBook machines book [] book
unfolding Legal shown_faults NoneShowsFault
fresh_book machines book o stands queue acts = record {
  opened = (o, stands);
  at = λ p opened. record {
    now = opening p;
    legal = refl;
    kind = refl;
    stands = opened;
    queue = queue;
    may_come = tt;
  };
  acts = subst (λ (l : List Act). AreActs [] l) (sym acts) none;
  faults = record { counted = inl (omega arith); calm = λ calm. (calm, tt) };
}
