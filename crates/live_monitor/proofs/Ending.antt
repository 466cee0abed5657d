-- The last look at a group, once its lock is closed.
use Rattle.std.proofs.Common.{◌≡◌, ◌≤◌, ℕ, ◌==◌, Bool, true, false, cond, List, [], ◌∷◌, ◌++◌, Option, Some, None, Result, Ok, Err, refl, sym, ap, subst, ◌∙◌, append_assoc, inl, inr, arith}
use Rattle.std.proofs.lemmas.Bool.Decides.{nat_tests}
use Rattle.std.proofs.lemmas.List.Elements.{filter-append}
use Rattle.ft_base.specs.Machine.{Machine}
use Rattle.ft_base.specs.declared.memory.NoMemory.{NoMemory}
use Rattle.ft_base.specs.declared.numbers.HostNo.{HostNo}
use Rattle.group_looks.specs.declared.figures.Figures.{Figures}
use Rattle.group_model.specs.declared.events.Event.TheVariants as events
use Rattle.hist_lock.specs.Histories.{calls as turns, turn_by, turns_by}
use Rattle.message_log.specs.Picture.{length_of}
use Rattle.shared_group.specs.Books.{BookPicture, IsBook}
use Rattle.shared_group.specs.Laws.{EntriesFoundStay, LastEntriesFoundAreAll}
use Rattle.shared_group.specs.Turns.{AreFiguresOf}
use Rattle.shared_group.specs.declared.calls.Call.{Call}
use Rattle.shared_group.specs.declared.calls.Call.TheVariants as calls
use Rattle.shared_group.specs.declared.calls.CallAnswer.{CallAnswer}
use Rattle.shared_group.specs.declared.calls.CallAnswer.TheVariants as told
use Rattle.live_monitor.specs.declared.states.Kill.{Kill}
use Rattle.live_monitor.specs.Monitored.{AreMonitors, Errand, Finds, GroupTurn, HasKilled, HasLastLook, IsEnough, IsMonitored, MayTake, SomeTurn, kill_due, kill_due_of}
use Rattle.live_monitor.proofs.Turning.{finds_enough, finds_few, not_due, some_both}

-- a look has no other answer
pub none_other : (answer : CallAnswer) → AreFiguresOf answer → ((found : Result Figures NoMemory) → answer ≡ told.Figures found → ⊥) → ⊥
none_other (told.Figures found) are not = not found refl
none_other (told.Event of) are not = are
none_other (told.Ask of) are not = are
none_other (told.Checkpoint of) are not = are
none_other told.Nothing are not = are
none_other (told.Here here) are not = are
none_other (told.Reply of) are not = are

-- ---- more turns under a number

by_one : (number : ℕ) (history : List GroupTurn) (event : Call) (answer : CallAnswer)
    → turns_by number (history ++ turn_by number event answer ∷ []) ≡ turns_by number history ++ turn_by number event answer ∷ []
by_one number history event answer =
    let t : GroupTurn = turn_by number event answer in
    let same : (number == number) ≡ true = grind (arith, nat_tests) in
    filter-append (λ (turn : GroupTurn). turn.number == number) history (t ∷ []) ∙ ap (λ (b : Bool). turns_by number history ++ cond b (t ∷ []) []) same

turns_both : (xs ys : List GroupTurn) → turns (xs ++ ys) ≡ turns xs ++ turns ys
turns_both [] ys = refl
turns_both (x ∷ xs) ys = ap (λ (l : List (Call × CallAnswer)). (x.event, x.answer) ∷ l) (turns_both xs ys)

-- ---- where the host was killed, a look had found enough entries

abbrev SomeFinds : ℕ → List GroupTurn → Type 0
SomeFinds entries history = SomeTurn (λ turn. Finds entries turn.answer) history

crash_found : (kill : Kill) (before history : List GroupTurn) → AreMonitors (Some kill) before history → SomeTurn (λ turn. turn.event ≡ calls.Act (events.Crash kill.host)) history
    → SomeFinds kill.after (before ++ history)
unfolding AreMonitors SomeTurn
crash_found kill before [] are some = absurd some
crash_found kill before (turn ∷ history) are (inl is) =
    let may : MayTake (Some kill) before (calls.Act (events.Crash kill.host)) = subst (λ (call : Call). MayTake (Some kill) before call) is are.0 in
    some_both (λ turn. Finds kill.after turn.answer) before (turn ∷ history) may.1
crash_found kill before (turn ∷ history) are (inr some) =
    subst (SomeFinds kill.after) (append_assoc before (turn ∷ []) history) (crash_found kill (before ++ turn ∷ []) history are.1 some)

some_of : (P : GroupTurn → Type 0) (number : ℕ) (history : List GroupTurn) → SomeTurn P (turns_by number history) → SomeTurn P history
unfolding SomeTurn
some_of P number [] some = absurd some
some_of P number (turn ∷ history) some = go (turn.number == number) some (some_of P number history)
  where
    go : (b : Bool) → SomeTurn P (cond b (turn ∷ turns_by number history) (turns_by number history)) → (SomeTurn P (turns_by number history) → SomeTurn P history) → SomeTurn P (turn ∷ history)
    go true (inl is) others = inl is
    go true (inr some) others = inr (others some)
    go false some others = inr (others some)

-- the figures that it found, among the calls
record AreFound (entries : ℕ) (history : List GroupTurn) : Type 0 where
  past : List (Call × CallAnswer)
  call : Call
  figures : Figures
  later : List (Call × CallAnswer)
  is : turns history ≡ past ++ (call, told.Figures (Ok figures)) ∷ later
  enough : entries ≤ figures.entries

found_first : (entries : ℕ) (turn : GroupTurn) (history : List GroupTurn) → Finds entries turn.answer → AreFound entries (turn ∷ history)
found_first entries turn history finds = go turn.answer refl finds
  where
    go : (answer : CallAnswer) → turn.answer ≡ answer → Finds entries answer → AreFound entries (turn ∷ history)
    go (told.Figures (Ok figures)) same finds = record {
      past = [];
      call = turn.event;
      figures = figures;
      later = turns history;
      is = ap (λ (a : CallAnswer). (turn.event, a) ∷ turns history) same;
      enough = finds;
    }
    go (told.Figures (Err fault)) same finds = absurd finds
    go (told.Event of) same finds = absurd finds
    go (told.Ask of) same finds = absurd finds
    go (told.Checkpoint of) same finds = absurd finds
    go told.Nothing same finds = absurd finds
    go (told.Here here) same finds = absurd finds
    go (told.Reply of) same finds = absurd finds

are_found : (entries : ℕ) (history : List GroupTurn) → SomeFinds entries history → AreFound entries history
unfolding SomeTurn
are_found entries [] some = absurd some
are_found entries (turn ∷ history) (inl finds) = found_first entries turn history finds
are_found entries (turn ∷ history) (inr some) =
    let f = are_found entries history some in
    record {
      past = (turn.event, turn.answer) ∷ f.past;
      call = f.call;
      figures = f.figures;
      later = f.later;
      is = ap (λ (l : List (Call × CallAnswer)). (turn.event, turn.answer) ∷ l) f.is;
      enough = f.enough;
    }

-- ---- killed exactly where there is enough

module _ (machines : ℕ → Machine) (stay : EntriesFoundStay machines) (first : BookPicture) (history : List GroupTurn) (number : ℕ) where
  killed_is_enough : (errand : Errand) (book : BookPicture) → IsBook machines first (turns history) book → IsMonitored errand (turns_by number history) → errand.killed ≡ true
      → IsEnough errand.kill (length_of book.core.log)
  killed_is_enough errand book leads is killed = go errand.kill is.each (is.killed killed)
    where
      go : (kill : Option Kill) → AreMonitors kill [] (turns_by number history) → HasKilled kill (turns_by number history) → IsEnough kill (length_of book.core.log)
      go None each has = absurd has
      go (Some kill) each has =
          let f = are_found kill.after history (some_of (λ turn. Finds kill.after turn.answer) number history (crash_found kill [] (turns_by number history) each has)) in
          let stands = stay first f.past f.later f.call f.figures book (subst (λ (l : List (Call × CallAnswer)). IsBook machines first l book) f.is leads) in
          let enough = f.enough in
          omega (arith, stands, enough)

killed_else_due : (kill : Option Kill) (killed : Bool) (entries : ℕ) → kill_due_of kill killed entries ≡ None → IsEnough kill entries → killed ≡ true
killed_else_due None killed entries none enough = absurd enough
killed_else_due (Some kill) true entries none enough = refl
killed_else_due (Some kill) false entries none enough = absurd (not_due (Some kill) false entries none refl kill refl enough)

-- ---- the last look

module _ (machines : ℕ → Machine) (stay : EntriesFoundStay machines) (first : BookPicture) (history : List GroupTurn) (number : ℕ)
    (errand : Errand) (is : IsMonitored errand (turns_by number history)) (figures : Figures) where
  abbrev look : GroupTurn
  look = turn_by number calls.Figures (told.Figures (Ok figures))

  abbrev looked : List (Call × CallAnswer)
  looked = turns history ++ (calls.Figures, told.Figures (Ok figures)) ∷ []

  leads_on : (more : List GroupTurn) (book : BookPicture) → IsBook machines first (turns history ++ turns more) book → IsBook machines first (turns (history ++ more)) book
  leads_on more book leads = subst (λ (l : List (Call × CallAnswer)). IsBook machines first l book) (sym (turns_both history more)) leads

  -- nobody is to be killed now
  pub ends : LastEntriesFoundAreAll machines → (book : BookPicture) → IsBook machines first looked book → kill_due errand figures.entries ≡ None → HasLastLook machines first history number errand book
  ends all book leads none =
      let last = leads_on (look ∷ []) book leads in
      let monitored = subst (IsMonitored errand) (sym (by_one number history calls.Figures (told.Figures (Ok figures)))) (finds_few errand (turns_by number history) figures number is none) in
      let entries : figures.entries ≡ length_of book.core.log = all first (turns history) calls.Figures figures book leads in
      record {
        more = look ∷ [];
        own = (refl, tt);
        book = last;
        monitored = monitored;
        exact = (
          killed_is_enough machines stay first (history ++ look ∷ []) number errand book last monitored,
          λ enough. killed_else_due errand.kill errand.killed figures.entries none (subst (IsEnough errand.kill) (sym entries) enough),
        );
      }

  -- the host is crashed
  pub ends_by_kill : (book : BookPicture) (host : HostNo) (answer : CallAnswer) → IsBook machines first (looked ++ (calls.Act (events.Crash host), answer) ∷ []) book
      → kill_due errand figures.entries ≡ Some host → HasLastLook machines first history number (record errand { killed = true }) book
  ends_by_kill book host answer leads due =
      let crash : GroupTurn = turn_by number (calls.Act (events.Crash host)) answer in
      let more : List GroupTurn = look ∷ crash ∷ [] in
      let killed : Errand = record errand { killed = true } in
      let last = leads_on more book (subst (λ (l : List (Call × CallAnswer)). IsBook machines first l book) (append_assoc (turns history) ((calls.Figures, told.Figures (Ok figures)) ∷ []) ((crash.event, crash.answer) ∷ [])) leads) in
      let its : turns_by number (history ++ more) ≡ (turns_by number history ++ look ∷ []) ++ crash ∷ [] =
      ap (turns_by number) (sym (append_assoc history (look ∷ []) (crash ∷ [])))
      ∙ by_one number (history ++ look ∷ []) crash.event crash.answer
      ∙ ap (λ (l : List GroupTurn). l ++ crash ∷ []) (by_one number history look.event look.answer) in
      let monitored = subst (IsMonitored killed) (sym its) (finds_enough errand (turns_by number history) figures number is host number answer due) in
      record {
        more = more;
        own = (refl, (refl, tt));
        book = last;
        monitored = monitored;
        exact = (killed_is_enough machines stay first (history ++ more) number killed book last monitored, λ enough. refl);
      }
