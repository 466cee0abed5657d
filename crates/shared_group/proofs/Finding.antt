-- What looks at the figures found stays.
use Rattle.std.proofs.Common.{◌≡◌, ◌≤◌, ℕ, List, [], ◌∷◌, ◌++◌, length, length-append, Option, Some, None, Result, Ok, Err, IfOk, refl, sym, ap, subst, ◌∙◌, arith}
use Rattle.ft_base.specs.Machine.{Machine}
use Rattle.ft_base.specs.declared.memory.NoMemory.{NoMemory}
use Rattle.ft_base.specs.declared.numbers.HostNo.{HostNo}
use Rattle.ft_base.specs.declared.numbers.Tick.{Tick}
use Rattle.group_core.specs.Telling.{CoresTell}
use Rattle.group_looks.specs.Looks.{AreFigures}
use Rattle.group_looks.specs.declared.figures.Figures.{Figures}
use Rattle.group_model.specs.Plain.{Group}
use Rattle.group_model.specs.Steps.{StepsGrow}
use Rattle.group_model.specs.Takers.{taker}
use Rattle.group_model.specs.declared.events.Out.{Out}
use Rattle.message_log.specs.Picture.{length_of}
use Rattle.shared_group.specs.Books.{IsAt}
use Rattle.shared_group.specs.Laws.{EntriesFoundStay, LastEntriesFoundAreAll, LooksAreAnswered}
use Rattle.shared_group.specs.Shared.{Carries, Legal, Shared, Steps, Takes, opening}
use Rattle.shared_group.specs.Turns.{AreFiguresOf}
use Rattle.shared_group.specs.declared.calls.Call.{Call}
use Rattle.shared_group.specs.declared.calls.Call.TheVariants as calls
use Rattle.shared_group.specs.declared.calls.CallAnswer.{CallAnswer}
use Rattle.shared_group.specs.declared.calls.CallAnswer.TheVariants as told
use Rattle.shared_group.proofs.Going.{Moves, alone, call_moves, moved, rested}
use Rattle.shared_group.proofs.Longer.{legal_last}

module _ (m : Machine) where
  -- ---- figures are a look's

  -- what a call answers by these figures is a look, and they are the group's
  abbrev IsLookAt : Figures → Shared → Shared → Type 0
  IsLookAt figures s t = AreFigures m s.group figures × (t ≡ s)

  abbrev Told : Figures → CallAnswer → Type 0
  Told figures answer = answer ≡ told.Figures (Ok figures)

  carry_is : (outs : List Out) (answer : CallAnswer) (figures : Figures) (s t : Shared) → Carries m outs answer s t → Told figures answer → IsLookAt figures s t
  carry_is [] answer figures s t is shows = absurd (let no : told.Nothing ≡ told.Figures (Ok figures) = sym is.0 ∙ shows in cc)
  carry_is (out ∷ outs) answer figures s t is shows = absurd (let no : told.Event is.of ≡ told.Figures (Ok figures) = sym is.is ∙ shows in cc)

  take_is : (host : Option HostNo) (clock : Tick) (answer : CallAnswer) (figures : Figures) (s t : Shared) → Takes m host clock answer s t → Told figures answer → IsLookAt figures s t
  take_is None clock answer figures s t is shows = absurd (let no : told.Nothing ≡ told.Figures (Ok figures) = sym is.0 ∙ shows in cc)
  take_is (Some host) clock answer figures s t is shows = absurd (let no : told.Checkpoint is.of ≡ told.Figures (Ok figures) = sym is.is ∙ shows in cc)

  look_is : (of : Result Figures NoMemory) (figures : Figures) (s : Shared) → told.Figures of ≡ told.Figures (Ok figures) → IfOk of (AreFigures m s.group) → AreFigures m s.group figures
  look_is (Ok other) figures s is are = let same : other ≡ figures = cc in subst (AreFigures m s.group) same are
  look_is (Err fault) figures s is are = absurd cc

  figures_are : (call : Call) (answer : CallAnswer) (figures : Figures) (s t : Shared) → Steps m call answer s t → Told figures answer → IsLookAt figures s t
  figures_are (calls.Act e) answer figures s t is shows = absurd (let no : told.Event is.1.of ≡ told.Figures (Ok figures) = sym is.1.is ∙ shows in cc)
  figures_are (calls.Ask host asked) answer figures s t is shows = absurd (let no : told.Ask is.of ≡ told.Figures (Ok figures) = sym is.is ∙ shows in cc)
  figures_are calls.Carry answer figures s t is shows = carry_is s.queue answer figures s t is shows
  figures_are (calls.Checkpoint clock) answer figures s t is shows = take_is (taker s.group) clock answer figures s t is shows
  figures_are (calls.Here host) answer figures s t is shows = absurd (let no = sym is.0 ∙ shows in cc)
  figures_are calls.Figures answer figures s t is shows = (look_is is.0.of figures s (sym is.0.is ∙ shows) is.0.are, is.1)
  figures_are (calls.Reply key) answer figures s t is shows = absurd (let no : told.Reply is.0.of ≡ told.Figures (Ok figures) = sym is.0.is ∙ shows in cc)

  -- ---- a journal along a history

  abbrev entries : Group → ℕ
  entries g = length g.common.journal

  module _ (grow : StepsGrow) where
    moves_grow : (g after : Group) → Moves m g after → entries g ≤ entries after
    moves_grow g after (moved e answer step) =
        let more = grow m g (record { event = e; answer = answer } ∷ []) after (alone m g e answer after step) in
        let sum = ap length more.journal ∙ length-append g.common.journal more.more in omega (arith, sum)
    moves_grow g after (rested same) = let equal = ap entries same in omega (arith, equal)

    legal_grows : (past : List (Call × CallAnswer)) (s u : Shared) → Legal m s past u → entries s.group ≤ entries u.group
    unfolding Legal
    legal_grows [] s u legal = let equal = ap (λ (z : Shared). entries z.group) legal in omega (arith, equal)
    legal_grows (c ∷ past) s u legal =
        let one = moves_grow s.group legal.0.group (call_moves m c.0 c.1 s legal.0 legal.1) in
        let others = legal_grows past legal.0 u legal.2 in omega (arith, one, others)

  legal_both : (past later : List (Call × CallAnswer)) (s u : Shared) → Legal m s (past ++ later) u → (t : Shared) × Legal m s past t × Legal m t later u
  unfolding Legal
  legal_both [] later s u legal = (s, refl, legal)
  legal_both (p ∷ past) later s u legal = let l = legal_both past later legal.0 u legal.2 in (l.0, (legal.0, legal.1, l.1), l.2)

  -- figures were told, and then the calls led on
  found : (past later : List (Call × CallAnswer)) (call : Call) (figures : Figures) (s u : Shared) → Legal m s (past ++ (call, told.Figures (Ok figures)) ∷ later) u
      → (t : Shared) × AreFigures m t.group figures × Legal m t later u
  unfolding Legal
  found past later call figures s u legal =
      let l = legal_both past ((call, told.Figures (Ok figures)) ∷ later) s u legal in
      let look = figures_are call (told.Figures (Ok figures)) figures l.0 l.2.0 l.2.1 refl in
      (l.0, look.0, subst (λ (z : Shared). Legal m z later u) look.1 l.2.2)

  nothing_since : (s u : Shared) → Legal m s [] u → u ≡ s
  unfolding Legal
  nothing_since s u legal = legal

module _ (machines : ℕ → Machine) where
  pub looks_answered : LooksAreAnswered machines
  looks_answered first past answer book is =
      let o = is.opened.0 in
      let at = is.at o is.opened.1 in
      let l = legal_last (machines o.common.kind) past (calls.Figures, answer) (opening o) at.now at.legal in
      subst AreFiguresOf (sym l.2.0.is) tt

  module _ (tell : CoresTell) where
    -- the journal of the group for which a book's core stands
    all_entries : (o : Group) (past : List (Call × CallAnswer)) (book : _) → (at : IsAt machines o past book) → length_of book.core.log ≡ length at.now.group.common.journal
    all_entries o past book at = (tell machines book.core at.now.group at.stands).end

    pub found_stay : StepsGrow → EntriesFoundStay machines
    found_stay grow first past later call figures book is =
        let o = is.opened.0 in
        let m = machines o.common.kind in
        let whole = past ++ (call, told.Figures (Ok figures)) ∷ later in
        let at = is.at o is.opened.1 in
        let f = found m past later call figures (opening o) at.now at.legal in
        let many = legal_grows m grow later f.0 at.now f.2 in
        let seen = f.1.entries in
        let all = all_entries o whole book at in
        omega (arith, many, seen, all)

    pub last_found : LastEntriesFoundAreAll machines
    last_found first past call figures book is =
        let o = is.opened.0 in
        let m = machines o.common.kind in
        let at = is.at o is.opened.1 in
        let f = found m past [] call figures (opening o) at.now at.legal in
        let since = nothing_since m f.0 at.now f.2 in
        f.1.entries ∙ ap (λ (z : Shared). length z.group.common.journal) (sym since) ∙ sym (all_entries o (past ++ (call, told.Figures (Ok figures)) ∷ []) book at)
