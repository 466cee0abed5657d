-- Reports one after another.
use Rattle.std.proofs.Common.{◌≡◌, ℕ, zero, suc, ◌+◌, ◌-◌, ◌<◌, ◌≤◌, arith, Bool, true, false, List, [], ◌∷◌, ◌++◌, length, drop, Some, refl, sym, ap, subst, ◌∙◌}
use Rattle.std.specs.Prelude.{if◌then◌else◌, slice_get, slice_index_or}
use Rattle.std.specs.List.{AllByRecursion, filter}
use Rattle.ft_base.specs.declared.limits.TheConstants.{HOST_LIMIT}
use Rattle.ft_report.specs.declared.reports.ReportLine.{ReportLine}
use Rattle.group_model.specs.Views.{newest, newest_view, no_view}
use Rattle.script_groups.specs.Acting.{IsSoundGroup}
use Rattle.script_groups.specs.Groups.{ScriptGroup, Placed, common_of, placed}
use Rattle.script_groups.specs.Lists.{got}
use Rattle.script_world.specs.World.{World}
use Rattle.world_monitors.specs.Staying.{reports_stay}
use Rattle.world_management.specs.Membership.{members_of}
use Rattle.world_monitors.specs.Monitoring.{is_overdue_in, overdue}
use Rattle.world_monitors.specs.Sweeping.{reported, reports_all, reports_one}
use Rattle.world_turns.specs.Answers.{HasDone}
use Rattle.world_turns.specs.Turns.{Effect, costing, saying}

join : {A : Type 0} (xs ys zs : List A) → (xs ++ ys) ++ zs ≡ xs ++ (ys ++ zs)
join [] ys zs = refl
join (x ∷ xs) ys zs = ap (λ rest. x ∷ rest) (join xs ys zs)

none_more : {A : Type 0} (xs : List A) → xs ++ [] ≡ xs
none_more [] = refl
none_more (x ∷ xs) = ap (λ rest. x ∷ rest) (none_more xs)

-- ---- elements by their places

drop_one_more : (xs : List ℕ) (i : ℕ) → i < length xs → drop i xs ≡ slice_index_or xs i 0 ∷ drop (suc i) xs
drop_one_more [] i inside = absurd (omega (arith, inside))
drop_one_more (x ∷ xs) zero inside = refl
drop_one_more (x ∷ xs) (suc i) inside = drop_one_more xs i (omega (arith, inside))

pub drop_next : (xs : List ℕ) (i : ℕ) → i < length xs → drop i xs ≡ slice_index_or xs i 0 ∷ drop (i + 1) xs
drop_next xs i inside =
    drop_one_more xs i inside ∙ ap (λ (k : ℕ). slice_index_or xs i 0 ∷ drop k xs) (let same : suc i ≡ i + 1 = omega arith in same)

-- ---- reports

-- some were reported, and these are left
pub record IsSwept (w : World) (p : Placed ScriptGroup) (hosts rest : List ℕ) (now : World) (report : List ReportLine) (before steps : ℕ) : Type 0 where
  pub group : ScriptGroup
  pub there : slice_get now.groups p.place ≡ Some group
  pub cost : ℕ
  pub calls : steps ≡ before + cost
  pub is : reports_all w p hosts ≡ saying report (costing cost (reports_all now (placed p.place group) rest))

begun : (e : Effect) → e ≡ saying [] (costing 0 e)
begun e = ap (λ (n : ℕ). record { world = e.world; lines = e.lines; calls = n }) (let same : e.calls ≡ 0 + e.calls = omega arith in same)

pub begins : (w : World) (p : Placed ScriptGroup) (hosts : List ℕ) (before : ℕ) → slice_get w.groups p.place ≡ Some p.value → IsSwept w p hosts hosts w [] before before
begins w p hosts before there = record { group = p.value; there = there; cost = 0; calls = omega arith; is = begun (reports_all w p hosts) }

module _ (w : World) (p : Placed ScriptGroup) (hosts rest : List ℕ) (host : ℕ) (now : World) (report : List ReportLine) (before steps : ℕ)
    (s : IsSwept w p hosts (host ∷ rest) now report before steps) where
  abbrev pub one : Effect
  one = reports_one now (placed p.place s.group) host

  abbrev pub others : World → Effect
  others v = reports_all v (reported now (placed p.place s.group) host) rest

  next_is : reports_all w p hosts ≡ saying report (costing s.cost (saying one.lines (costing one.calls (others one.world))))
  unfolding reports_all
  next_is = s.is

  pub goes_on : (next : World) (more : List ReportLine) (after : ℕ) → HasDone (saying report one) more next steps after → IsSwept w p hosts rest next more before after
  goes_on next more after done = record {
    group = (reported now (placed p.place s.group) host).value;
    there = subst (λ (v : World). slice_get v.groups p.place ≡ Some (reported now (placed p.place s.group) host).value) (sym done.world)
        (reports_stay now (placed p.place s.group) host s.there);
    cost = s.cost + one.calls;
    calls = (let counted = done.calls in omega (arith, counted, s.calls));
    is =
        next_is
        ∙ ap (λ (ls : List ReportLine). record { world = (others one.world).world; lines = ls; calls = s.cost + (one.calls + (others one.world).calls) })
        (sym (join report one.lines (others one.world).lines))
        ∙ ap (λ (n : ℕ). record { world = (others one.world).world; lines = (report ++ one.lines) ++ (others one.world).lines; calls = n })
        (let sum : s.cost + (one.calls + (others one.world).calls) ≡ (s.cost + one.calls) + (others one.world).calls = omega arith in sum)
        ∙ ap (λ (ls : List ReportLine). saying ls (costing (s.cost + one.calls) (others one.world))) (sym done.lines)
        ∙ ap (λ (v : World). saying more (costing (s.cost + one.calls) (others v))) (sym done.world);
  }

  -- where memory is wanted, no more servant calls were made
  pub ends_short : (after : ℕ) → after ≤ steps + one.calls → after ≤ before + (reports_all w p hosts).calls
  ends_short after few = omega (arith, few, s.calls, ap (λ (e : Effect). e.calls) next_is)

pub ends : (w : World) (p : Placed ScriptGroup) (hosts : List ℕ) (now : World) (report : List ReportLine) (before steps : ℕ) →
    IsSwept w p hosts [] now report before steps → HasDone (reports_all w p hosts) report now before steps
unfolding reports_all
ends w p hosts now report before steps s = record {
  world = sym (ap (λ (e : Effect). e.world) s.is);
  lines = sym (ap (λ (e : Effect). e.lines) s.is ∙ none_more report);
  calls = omega (arith, s.calls, ap (λ (e : Effect). e.calls) s.is);
}

-- ---- members of a view are hosts that there can be

all_filtered : (P : ℕ → Type 0) (p : ℕ → Bool) (xs : List ℕ) → AllByRecursion P xs → AllByRecursion P (filter p xs)
all_filtered P p [] all = tt
all_filtered P p (x ∷ xs) all = one (p x) (all_filtered P p xs all.1)
  where
    one : (b : Bool) → AllByRecursion P (filter p xs) → AllByRecursion P (if b then x ∷ filter p xs else filter p xs)
    one true rest = (all.0, rest)
    one false rest = rest

members_inside : (g : ScriptGroup) → IsSoundGroup g → AllByRecursion (λ (host : ℕ). host < HOST_LIMIT) (members_of g)
members_inside g sound =
    let c = common_of g in
    let last : newest c - 1 < length c.views = omega (arith, sound.common.views.some) in
    (sound.common.views.each (newest c - 1) (newest_view c) (got c.views (newest c - 1) no_view last)).hosts

pub overdue_inside : (w : World) (g : ScriptGroup) → IsSoundGroup g → AllByRecursion (λ (host : ℕ). host < HOST_LIMIT) (overdue w g)
overdue_inside w g sound = all_filtered (λ (host : ℕ). host < HOST_LIMIT) (is_overdue_in w g.id.0) (members_of g) (members_inside g sound)
