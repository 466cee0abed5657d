-- One turn more of a monitor.
use Rattle.std.proofs.Common.{◌≡◌, ℕ, ◌≤◌, Bool, true, false, cond, List, [], ◌∷◌, ◌++◌, Option, Some, None, Ok, Err, refl, sym, ap, ◌∙◌, subst, append-nil, append_assoc, inl, inr, arith, true≢false}
use Rattle.std.specs.Prelude.{nat_le}
use Rattle.std.specs.List.{AllByRecursion}
use Rattle.std.proofs.lemmas.Bool.{leb-true}
use Rattle.std.proofs.lemmas.Bool.Decides.{nat_tests}
use Rattle.ft_base.specs.Machine.{Machine}
use Rattle.ft_base.specs.declared.numbers.HostNo.{HostNo}
use Rattle.ft_base.specs.declared.numbers.Tick.{Tick}
use Rattle.group_looks.specs.declared.figures.Figures.{Figures}
use Rattle.group_model.specs.declared.events.Event.TheVariants as events
use Rattle.group_model.specs.declared.events.GroupAnswer.{GroupAnswer}
use Rattle.group_model.specs.declared.events.Inner.{Inner}
use Rattle.group_model.specs.declared.events.Inner.TheVariants as inners
use Rattle.ft_base.specs.declared.memory.NoMemory.{NoMemory}
use Rattle.group_model.specs.declared.changes.Change.TheVariants as changes
use Rattle.group_model.specs.declared.events.Event.{Event}
use Rattle.group_model.specs.declared.events.Out.{Out}
use Rattle.group_model.specs.Sending.{brought, brought_to_host}
use Rattle.hist_lock.specs.Histories.{calls as turns, turn_by}
use Rattle.hist_lock.specs.Passes.{IsOf, own_turns}
use Rattle.shared_group.specs.declared.calls.Call.{Call}
use Rattle.shared_group.specs.declared.calls.Call.TheVariants as calls
use Rattle.shared_group.specs.declared.calls.CallAnswer.{CallAnswer}
use Rattle.shared_group.specs.declared.calls.CallAnswer.TheVariants as told
use Rattle.shared_group.specs.Books.{MayCall}
use Rattle.shared_group.specs.Laws.{CallsStayPossible}
use Rattle.shared_group.specs.declared.calls.QueuedAnswer.{QueuedAnswer}
use Rattle.shared_group.specs.Turns.{GroupLock, GroupPass, IsTaken, carry_told, checkpoint_told}
use Rattle.live_monitor.specs.declared.states.Kill.{Kill}
use Rattle.live_monitor.specs.Monitored.{AreMonitors, Errand, Finds, GoesOn, GroupTurn, HasKilled, HasLooked, IsCrash, IsMonitored, MayAct, MayTake, NoneCrashes, NoneFinds, Showed, SomeTurn, WasDown, kill_due, kill_due_of}

-- ---- lists of turns

pub some_both : (P : GroupTurn → Type 0) (xs ys : List GroupTurn) → SomeTurn P xs → SomeTurn P (xs ++ ys)
unfolding SomeTurn
some_both P [] ys some = absurd some
some_both P (x ∷ xs) ys (inl is) = inl is
some_both P (x ∷ xs) ys (inr some) = inr (some_both P xs ys some)

pub some_last : (P : GroupTurn → Type 0) (xs : List GroupTurn) (t : GroupTurn) → P t → SomeTurn P (xs ++ t ∷ [])
unfolding SomeTurn
some_last P [] t is = inl is
some_last P (x ∷ xs) t is = inr (some_last P xs t is)

pub some_as : (P Q : GroupTurn → Type 0) (xs : List GroupTurn) → ((t : GroupTurn) → P t → Q t) → SomeTurn P xs → SomeTurn Q xs
unfolding SomeTurn
some_as P Q [] so some = absurd some
some_as P Q (x ∷ xs) so (inl is) = inl (so x is)
some_as P Q (x ∷ xs) so (inr some) = inr (some_as P Q xs so some)

all_last : (P : GroupTurn → Type 0) (xs : List GroupTurn) (t : GroupTurn) → AllByRecursion P xs → P t → AllByRecursion P (xs ++ t ∷ [])
all_last P [] t all is = (is, tt)
all_last P (x ∷ xs) t all is = (all.0, all_last P xs t all.1 is)

-- ---- the turns of a monitor

pub monitors_more : (kill : Option Kill) (before turns : List GroupTurn) (t : GroupTurn) → AreMonitors kill before turns → MayTake kill (before ++ turns) t.event → AreMonitors kill before (turns ++ t ∷ [])
unfolding AreMonitors
monitors_more kill before [] t are may = (subst (λ (l : List GroupTurn). MayTake kill l t.event) (append-nil before) may, tt)
monitors_more kill before (u ∷ turns) t are may =
    (are.0, monitors_more kill (before ++ u ∷ []) turns t are.1 (subst (λ (l : List GroupTurn). MayTake kill l t.event) (sym (append_assoc before (u ∷ []) turns)) may))

pub none_finds_more : (kill : Option Kill) (turns : List GroupTurn) (t : GroupTurn) → NoneFinds kill turns → ((k : Kill) → kill ≡ Some k → Finds k.after t.answer → ⊥) → NoneFinds kill (turns ++ t ∷ [])
none_finds_more None turns t none not = tt
none_finds_more (Some k) turns t none not = all_last (λ turn. ¬ (Finds k.after turn.answer)) turns t none (not k refl)

pub none_crashes_more : (turns : List GroupTurn) (t : GroupTurn) → NoneCrashes turns → (IsCrash t.event → ⊥) → NoneCrashes (turns ++ t ∷ [])
none_crashes_more turns t none not = all_last (λ turn. ¬ (IsCrash turn.event)) turns t none not

has_killed_more : (kill : Option Kill) (turns more : List GroupTurn) → HasKilled kill turns → HasKilled kill (turns ++ more)
has_killed_more None turns more has = absurd has
has_killed_more (Some k) turns more has = some_both (λ turn. turn.event ≡ calls.Act (events.Crash k.host)) turns more has

-- a turn that kills nobody, and doesn't find enough entries where they are waited for
pub monitored_more : (errand : Errand) (turns : List GroupTurn) (t : GroupTurn) → IsMonitored errand turns → MayTake errand.kill turns t.event
    → (errand.killed ≡ false → (k : Kill) → errand.kill ≡ Some k → Finds k.after t.answer → ⊥) → (IsCrash t.event → ⊥) → IsMonitored errand (turns ++ t ∷ [])
monitored_more errand turns t is may quiet calm = record {
  each = monitors_more errand.kill [] turns t is.each may;
  waits = λ not. let w = is.waits not in (none_finds_more errand.kill turns t w.0 (quiet not), none_crashes_more turns t w.1 calm);
  killed = λ has. has_killed_more errand.kill turns (t ∷ []) (is.killed has);
}

-- ---- passes

pub goes_nowhere : (p : GroupPass) → GoesOn p p
goes_nowhere p = record { number = refl; mine = []; gained = sym (append-nil (own_turns p)); keeps = λ errand is. is }

pub goes_on_both : (p q r : GroupPass) → GoesOn p q → GoesOn q r → GoesOn p r
goes_on_both p q r a b = record {
  number = b.number ∙ a.number;
  mine = a.mine ++ b.mine;
  gained = b.gained ∙ ap (λ (l : List GroupTurn). l ++ b.mine) a.gained ∙ append_assoc (own_turns p) a.mine b.mine;
  keeps = λ errand is. b.keeps errand (a.keeps errand is);
}

pub some_on : (P : GroupTurn → Type 0) (p q : GroupPass) → GoesOn p q → SomeTurn P (own_turns p) → SomeTurn P (own_turns q)
some_on P p q on some = subst (SomeTurn P) (sym on.gained) (some_both P (own_turns p) on.mine some)

module _ (machines : ℕ → Machine) (lock : GroupLock) (p q : GroupPass) where
  -- a turn that may come whatever the errand, and finds nothing
  pub one_turn : (call : Call) (answer : CallAnswer) → IsTaken machines lock p call answer q → ((kill : Option Kill) → MayTake kill (own_turns p) call)
      → ((n : ℕ) → Finds n answer → ⊥) → (IsCrash call → ⊥) → GoesOn p q
  one_turn call answer taken may quiet calm =
      let t : GroupTurn = turn_by p.number call answer in
      record {
        number = ap (λ (z : GroupPass). z.number) taken.turn.ended;
        mine = t ∷ [];
        gained = taken.gained;
        keeps = λ errand is. subst (IsMonitored errand) (sym taken.gained) (monitored_more errand (own_turns p) t is (may errand.kill) (λ not k same. quiet k.after) calm);
      }

quiet_carry : (o : Option GroupAnswer) (n : ℕ) → Finds n (carry_told o) → ⊥
quiet_carry None n finds = finds
quiet_carry (Some answer) n finds = finds

quiet_checkpoint : (o : Option QueuedAnswer) (n : ℕ) → Finds n (checkpoint_told o) → ⊥
quiet_checkpoint None n finds = finds
quiet_checkpoint (Some answer) n finds = finds

pub carries : (machines : ℕ → Machine) (lock : GroupLock) (p q : GroupPass) (o : Option GroupAnswer) → IsTaken machines lock p calls.Carry (carry_told o) q → GoesOn p q
carries machines lock p q o taken = one_turn machines lock p q calls.Carry (carry_told o) taken (λ kill. tt) (quiet_carry o) (λ no. no)

pub takes_checkpoint : (machines : ℕ → Machine) (lock : GroupLock) (p q : GroupPass) (clock : Tick) (o : Option QueuedAnswer)
    → IsTaken machines lock p (calls.Checkpoint clock) (checkpoint_told o) q → GoesOn p q
takes_checkpoint machines lock p q clock o taken = one_turn machines lock p q (calls.Checkpoint clock) (checkpoint_told o) taken (λ kill. tt) (quiet_checkpoint o) (λ no. no)

-- what was sent may be brought
pub may_bring : (kill : Option Kill) (before : List GroupTurn) (to : HostNo) (carried : Inner) → MayAct kill before (brought_to_host to carried)
may_bring kill before to (inners.View version) = tt
may_bring kill before to (inners.State position state) = tt
may_bring kill before to (inners.Update from until update) = tt
may_bring kill before to (inners.Order index request) = tt

pub calm_to_bring : (to : HostNo) (carried : Inner) → IsCrash (calls.Act (brought_to_host to carried)) → ⊥
calm_to_bring to (inners.View version) crash = crash
calm_to_bring to (inners.State position state) crash = crash
calm_to_bring to (inners.Update from until update) crash = crash
calm_to_bring to (inners.Order index request) crash = crash

-- ---- the kill

pub record IsDue (kill : Option Kill) (killed : Bool) (entries : ℕ) (host : HostNo) : Type 0 where
  pub k : Kill
  pub is : kill ≡ Some k
  pub waits : killed ≡ false
  pub named : host ≡ k.host
  pub enough : k.after ≤ entries

pub due_now : (kill : Option Kill) (killed : Bool) (entries : ℕ) (host : HostNo) → kill_due_of kill killed entries ≡ Some host → IsDue kill killed entries host
due_now None killed entries host due = absurd cc
due_now (Some k) true entries host due = absurd cc
due_now (Some k) false entries host due = go (nat_le k.after entries) refl due
  where
    go : (b : Bool) → nat_le k.after entries ≡ b → cond b (Some k.host) None ≡ Some host → IsDue (Some k) false entries host
    go true le due = record { k = k; is = refl; waits = refl; named = cc; enough = leb-true k.after entries le }
    go false le due = absurd cc

pub not_due : (kill : Option Kill) (killed : Bool) (entries : ℕ) → kill_due_of kill killed entries ≡ None → killed ≡ false → (k : Kill) → kill ≡ Some k → k.after ≤ entries → ⊥
not_due None killed entries none waits k is enough = absurd cc
not_due (Some k') true entries none waits k is enough = absurd (true≢false waits)
not_due (Some k') false entries none waits k is enough = go (nat_le k'.after entries) refl none
  where
    same : k'.after ≡ k.after
    same = cc

    go : (b : Bool) → nat_le k'.after entries ≡ b → cond b (Some k'.host) None ≡ None → ⊥
    go true le none = absurd cc
    go false le none = grind (arith, nat_tests, le, enough, same)

-- ---- what was sent

abbrev pub MayAllCome : (ℕ → Machine) → GroupLock → GroupPass → List Out → Type 0
MayAllCome machines lock p outs = AllByRecursion (λ out. MayCall machines lock.opening (turns p.seen) (calls.Act (brought out))) outs

pub all_stay : (machines : ℕ → Machine) → CallsStayPossible machines → (lock : GroupLock) (p q : GroupPass) (made : Call) (answer : CallAnswer) → IsTaken machines lock p made answer q
    → (outs : List Out) → MayAllCome machines lock p outs → MayAllCome machines lock q outs
all_stay machines law lock p q made answer taken [] all = tt
all_stay machines law lock p q made answer taken (out ∷ outs) all =
    (law lock p q made (calls.Act (brought out)) answer taken all.0, all_stay machines law lock p q made answer taken outs all.1)

pub brings : (machines : ℕ → Machine) (lock : GroupLock) (p q : GroupPass) (out : Out) (e : Event) (answer : GroupAnswer) → e ≡ brought out
    → IsTaken machines lock p (calls.Act e) (told.Event answer) q → GoesOn p q
brings machines lock p q out e answer same taken =
    one_turn machines lock p q (calls.Act (brought out)) (told.Event answer) (subst (λ (x : Event). IsTaken machines lock p (calls.Act x) (told.Event answer) q) same taken)
    (λ kill. may_bring kill (own_turns p) out.to out.carried) (λ n no. no) (calm_to_bring out.to out.carried)

-- one more of what was sent is brought, and the rest may still come
pub one_brought : (machines : ℕ → Machine) → CallsStayPossible machines → (lock : GroupLock) (first p q : GroupPass) (out : Out) (outs : List Out) (e : Event) (answer : GroupAnswer)
    → e ≡ brought out → IsTaken machines lock p (calls.Act e) (told.Event answer) q → GoesOn first p → MayAllCome machines lock p (out ∷ outs)
    → IsOf lock q × GoesOn first q × MayAllCome machines lock q outs
one_brought machines law lock first p q out outs e answer same taken on all = (
  taken.own,
  goes_on_both first p q on (brings machines lock p q out e answer same taken),
  all_stay machines law lock p q (calls.Act e) (told.Event answer) taken outs all.1,
)

-- a host is reported that was down
pub reports : (machines : ℕ → Machine) (lock : GroupLock) (p q : GroupPass) (host : HostNo) (answer : GroupAnswer) → WasDown host.0 (own_turns p)
    → IsTaken machines lock p (calls.Act (events.Manage (changes.Report host))) (told.Event answer) q → GoesOn p q
reports machines lock p q host answer down taken =
    one_turn machines lock p q (calls.Act (events.Manage (changes.Report host))) (told.Event answer) taken (λ kill. down) (λ n no. no) (λ no. no)

-- ---- a look behind other turns

module _ (errand : Errand) (so_far : List GroupTurn) (figures : Figures) (number : ℕ) (is : IsMonitored errand so_far) where
  abbrev the_look : GroupTurn
  the_look = turn_by number calls.Figures (told.Figures (Ok figures))

  -- it finds too few entries
  pub finds_few : kill_due errand figures.entries ≡ None → IsMonitored errand (so_far ++ the_look ∷ [])
  finds_few none = monitored_more errand so_far the_look is tt (λ waits k same enough. not_due errand.kill errand.killed figures.entries none waits k same enough) (λ no. no)

  -- it finds enough, and the host is crashed
  pub finds_enough : (host : HostNo) (by : ℕ) (answer : CallAnswer) → kill_due errand figures.entries ≡ Some host
      → IsMonitored (record errand { killed = true }) ((so_far ++ the_look ∷ []) ++ turn_by by (calls.Act (events.Crash host)) answer ∷ [])
  finds_enough host by answer due = record {
    each = monitors_more errand.kill [] looked the_crash (monitors_more errand.kill [] so_far the_look is.each tt) may;
    waits = λ no. absurd (true≢false no);
    killed = λ yes. has;
  }
    where
      looked : List GroupTurn
      looked = so_far ++ the_look ∷ []

      the_crash : GroupTurn
      the_crash = turn_by by (calls.Act (events.Crash host)) answer

      now : IsDue errand.kill errand.killed figures.entries host
      now = due_now errand.kill errand.killed figures.entries host due

      may : MayTake errand.kill looked (calls.Act (events.Crash host))
      may = subst (λ (k : Option Kill). MayTake k looked (calls.Act (events.Crash host))) (sym now.is)
          (now.named, some_last (λ turn. Finds now.k.after turn.answer) so_far the_look now.enough, none_crashes_more so_far the_look (is.waits now.waits).1 (λ no. no))

      has : HasKilled errand.kill (looked ++ the_crash ∷ [])
      has = subst (λ (k : Option Kill). HasKilled k (looked ++ the_crash ∷ [])) (sym now.is)
          (some_last (λ turn. turn.event ≡ calls.Act (events.Crash now.k.host)) looked the_crash (ap (λ (h : HostNo). calls.Act (events.Crash h)) now.named))

-- ---- a look of a pass

pub has_looked : (machines : ℕ → Machine) (lock : GroupLock) (p q : GroupPass) (answer : CallAnswer) → IsTaken machines lock p calls.Figures answer q → HasLooked (own_turns p) (own_turns q)
has_looked machines lock p q answer taken = record { turn = turn_by p.number calls.Figures answer; more = []; gained = taken.gained; look = refl }

-- it has looked, whatever came then
pub looked_before : (old new later more : List GroupTurn) → HasLooked old new → later ≡ new ++ more → HasLooked old later
looked_before old new later more has gained = record {
  turn = has.turn;
  more = has.more ++ more;
  gained = gained ∙ ap (λ (l : List GroupTurn). l ++ more) has.gained ∙ append_assoc old (has.turn ∷ has.more) more;
  look = has.look;
}

pub goes_on_looked : (old : List GroupTurn) (p q : GroupPass) → HasLooked old (own_turns p) → GoesOn p q → HasLooked old (own_turns q)
goes_on_looked old p q has on = looked_before old (own_turns p) (own_turns q) on.mine has on.gained

-- memory was wanted for its figures
pub looks_in_vain : (machines : ℕ → Machine) (lock : GroupLock) (p q : GroupPass) (fault : NoMemory) → IsTaken machines lock p calls.Figures (told.Figures (Err fault)) q → GoesOn p q
looks_in_vain machines lock p q fault taken = one_turn machines lock p q calls.Figures (told.Figures (Err fault)) taken (λ kill. tt) (λ n no. no) (λ no. no)

module _ (machines : ℕ → Machine) (lock : GroupLock) (errand : Errand) (p q : GroupPass) (figures : Figures) (is : IsMonitored errand (own_turns p))
    (taken : IsTaken machines lock p calls.Figures (told.Figures (Ok figures)) q) where
  abbrev shows : GroupTurn → Type 0
  shows turn = turn.answer ≡ told.Figures (Ok figures)

  pub showed : Showed figures (own_turns q)
  showed = subst (Showed figures) (sym taken.gained) (some_last shows (own_turns p) (turn_by p.number calls.Figures (told.Figures (Ok figures))) refl)

  pub looks_on : kill_due errand figures.entries ≡ None → IsMonitored errand (own_turns q)
  looks_on none = subst (IsMonitored errand) (sym taken.gained) (finds_few errand (own_turns p) figures p.number is none)

  -- and the host is crashed
  module _ (r : GroupPass) (host : HostNo) (answer : GroupAnswer) (crashed : IsTaken machines lock q (calls.Act (events.Crash host)) (told.Event answer) r) where
    abbrev crash : List GroupTurn
    crash = turn_by q.number (calls.Act (events.Crash host)) (told.Event answer) ∷ []

    pub kills : kill_due errand figures.entries ≡ Some host → IsMonitored (record errand { killed = true }) (own_turns r)
    kills due = subst (IsMonitored (record errand { killed = true })) (sym (crashed.gained ∙ ap (λ (l : List GroupTurn). l ++ crash) taken.gained))
        (finds_enough errand (own_turns p) figures p.number is host q.number (told.Event answer) due)

    pub showed_before_the_crash : Showed figures (own_turns r)
    showed_before_the_crash = subst (Showed figures) (sym crashed.gained) (some_both shows (own_turns q) crash showed)

    pub looked_before_the_crash : HasLooked (own_turns p) (own_turns r)
    looked_before_the_crash = looked_before (own_turns p) (own_turns q) (own_turns r) crash (has_looked machines lock p q (told.Figures (Ok figures)) taken) crashed.gained
