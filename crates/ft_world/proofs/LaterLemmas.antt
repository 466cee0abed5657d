-- Groups to which more may have happened, with others behind them, what they have accepted and their servant calls; and
-- clients that have begun few invocations.
use Rattle.std.proofs.Common.{◌≡◌, ℕ, zero, suc, ◌+◌, ◌≤◌, arith, List, [], ◌∷◌, ◌++◌, Some, refl, sym, ap, subst, ◌∙◌}
use Rattle.std.specs.Prelude.{slice_get, slice_set}
use Rattle.std.specs.List.{AllByRecursion}
use Rattle.std.proofs.lemmas.List.Sums.{sum_by-cons}
use Rattle.group_model.specs.declared.events.Event.{Event}
use Rattle.script_clients.specs.Clients.{Client}
use Rattle.script_groups.specs.Groups.{ScriptGroup, acted, all_acted, servant_calls, turn, with_more}
use Rattle.script_groups.specs.Laws.{CallsGoOn, FailuresChangeNothing, GroupsGrow, NoneCalledYet, RepliesStay}
use Rattle.script_groups.specs.Lists.{same_some}
use Rattle.script_groups.specs.declared.happenings.Happening.{Happening}
use Rattle.script_groups.specs.declared.happenings.Happening.TheVariants as happenings
use Rattle.ft_world.specs.Laws.{AllLater, HasMore, KeepsEntries, calls_of_groups}

-- ---- clients

-- a client that has begun so few invocations
abbrev pub Few : ℕ → Client → Type 0
Few lines c = (c.started ≤ lines) × (c.numbered ≤ lines)

abbrev pub AreFew : ℕ → List Client → Type 0
AreFew lines cs = AllByRecursion (Few lines) cs

pub more_few : (lines : ℕ) (cs : List Client) → AreFew lines cs → AreFew (lines + 1) cs
more_few lines [] few = tt
more_few lines (c ∷ cs) few = ((omega (arith, few.0.0), omega (arith, few.0.1)), more_few lines cs few.1)

-- ---- groups, to each of which more may have happened, and others behind them

happenings_on : (es fs gs : List Happening) → (es ++ fs) ++ gs ≡ es ++ (fs ++ gs)
happenings_on [] fs gs = refl
happenings_on (e ∷ es) fs gs = ap (λ (rest : List Happening). e ∷ rest) (happenings_on es fs gs)

none_behind : (es : List Happening) → es ≡ es ++ []
none_behind [] = refl
none_behind (e ∷ es) = ap (λ (rest : List Happening). e ∷ rest) (none_behind es)

pub no_more : (g : ScriptGroup) → HasMore g g
no_more g = record { more = []; is = ap (λ (es : List Happening). record g { happenings = es }) (none_behind g.happenings) }

one_more : (g : ScriptGroup) (h : Happening) → HasMore g (with_more g (h ∷ []))
one_more g h = record { more = h ∷ []; is = refl }

pub more_on : (f g h : ScriptGroup) → HasMore f g → HasMore g h → HasMore f h
more_on f g h a b = record {
  more = a.more ++ b.more;
  is = b.is ∙ ap (λ (x : ScriptGroup). with_more x b.more) a.is ∙ ap (λ (es : List Happening). record f { happenings = es }) (happenings_on f.happenings a.more b.more);
}

pub all_stay : (gs : List ScriptGroup) → AllLater HasMore gs gs
all_stay [] = tt
all_stay (g ∷ gs) = (no_more g, all_stay gs)

pub all_next : (fs gs hs : List ScriptGroup) → AllLater HasMore fs gs → AllLater HasMore gs hs → AllLater HasMore fs hs
all_next [] gs hs a b = tt
all_next (f ∷ fs) [] hs a b = absurd a
all_next (f ∷ fs) (g ∷ gs) [] a b = absurd b
all_next (f ∷ fs) (g ∷ gs) (h ∷ hs) a b = (more_on f g h a.0 b.0, all_next fs gs hs a.1 b.1)

pub one_later : (gs : List ScriptGroup) (i : ℕ) (g : ScriptGroup) (h : Happening) → slice_get gs i ≡ Some g → AllLater HasMore gs (slice_set gs i (with_more g (h ∷ [])))
one_later [] i g h at = tt
one_later (x ∷ gs) zero g h at = (subst (λ (y : ScriptGroup). HasMore y (with_more g (h ∷ []))) (sym (same_some x g at)) (one_more g h), all_stay gs)
one_later (x ∷ gs) (suc i) g h at = (no_more x, one_later gs i g h at)

pub each_later : (e : Event) (gs : List ScriptGroup) → AllLater HasMore gs (all_acted e gs)
each_later e [] = tt
each_later e (g ∷ gs) = (one_more g (happenings.Event e), each_later e gs)

pub one_behind : (gs : List ScriptGroup) (g : ScriptGroup) → AllLater HasMore gs (gs ++ g ∷ [])
one_behind [] g = tt
one_behind (x ∷ gs) g = (no_more x, one_behind gs g)

-- each is still at its place
pub later_at : (R : ScriptGroup → ScriptGroup → Type 0) (gs hs : List ScriptGroup) (i : ℕ) (g : ScriptGroup) → AllLater R gs hs → slice_get gs i ≡ Some g →
    (h : ScriptGroup) × (slice_get hs i ≡ Some h) × R g h
later_at R [] hs i g all at = absurd cc
later_at R (x ∷ gs) [] i g all at = absurd all
later_at R (x ∷ gs) (h ∷ hs) zero g all at = (h, refl, subst (λ (y : ScriptGroup). R y h) (same_some x g at) all.0)
later_at R (x ∷ gs) (h ∷ hs) (suc i) g all at = later_at R gs hs i g all.1 at

-- ---- what they have accepted

module _ (grow : GroupsGrow) (stay : RepliesStay) where
  keeps_with : (g : ScriptGroup) (more : List Happening) → KeepsEntries g (with_more g more)
  keeps_with g more =
      let grown = grow g more in
      record { id = refl; more = grown.more; journal = grown.journal; replies = stay g more }

  pub keeps_entries : (g h : ScriptGroup) → HasMore g h → KeepsEntries g h
  keeps_entries g h later = subst (KeepsEntries g) (sym later.is) (keeps_with g later.more)

-- ---- their servant calls

-- what is known of every group's
pub record KnownCalls : Type 0 where
  pub none : NoneCalledYet
  pub go_on : CallsGoOn
  pub failing : FailuresChangeNothing

-- the same where a group calls as often as before
pub as_often : (gs : List ScriptGroup) (i : ℕ) (g h : ScriptGroup) → slice_get gs i ≡ Some g → servant_calls h ≡ servant_calls g →
    calls_of_groups (slice_set gs i h) ≡ calls_of_groups gs
as_often [] i g h at same = refl
as_often (x ∷ gs) zero g h at same =
    let was = ap servant_calls (same_some x g at) in
    omega (arith, same, was, sum_by-cons servant_calls h gs, sum_by-cons servant_calls x gs)
as_often (x ∷ gs) (suc i) g h at same =
    let there = as_often gs i g h at same in
    omega (arith, there, sum_by-cons servant_calls x gs, sum_by-cons servant_calls x (slice_set gs i h))

module _ (calls_go_on : CallsGoOn) where
  pub one_called : (gs : List ScriptGroup) (i : ℕ) (g : ScriptGroup) (e : Event) → slice_get gs i ≡ Some g →
      calls_of_groups (slice_set gs i (acted g e)) ≡ calls_of_groups gs + (turn g e).calls
  one_called [] i g e at = absurd cc
  one_called (x ∷ gs) zero g e at =
      let here = calls_go_on g e in
      let same = ap servant_calls (same_some x g at) in
      omega (arith, here, same, sum_by-cons servant_calls (acted g e) gs, sum_by-cons servant_calls x gs)
  one_called (x ∷ gs) (suc i) g e at =
      let there = one_called gs i g e at in
      omega (arith, there, sum_by-cons servant_calls x gs, sum_by-cons servant_calls x (slice_set gs i (acted g e)))

  -- an event at every group that calls no servant
  pub none_called : (e : Event) → ((g : ScriptGroup) → (turn g e).calls ≡ 0) → (gs : List ScriptGroup) → calls_of_groups (all_acted e gs) ≡ calls_of_groups gs
  none_called e none [] = refl
  none_called e none (g ∷ gs) =
      let here = calls_go_on g e in
      let there = none_called e none gs in
      omega (arith, here, none g, there, sum_by-cons servant_calls (acted g e) (all_acted e gs), sum_by-cons servant_calls g gs)

pub one_behind_called : (gs : List ScriptGroup) (g : ScriptGroup) → calls_of_groups (gs ++ g ∷ []) ≡ calls_of_groups gs + servant_calls g
one_behind_called [] g = omega (arith, sum_by-cons servant_calls g [])
one_behind_called (x ∷ gs) g =
    let there = one_behind_called gs g in
    omega (arith, there, sum_by-cons servant_calls x gs, sum_by-cons servant_calls x (gs ++ g ∷ []))
