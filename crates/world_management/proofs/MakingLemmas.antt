-- Members by their numbers, and the hosts that are down where a group is made.
use Rattle.std.proofs.Common.{◌≡◌, ℕ, zero, suc, ◌+◌, ◌<◌, ◌≤◌, arith, Bool, true, false, List, [], ◌∷◌, length, take, drop, get_or, refl, sym, ap, subst, ◌∙◌}
use Rattle.std.specs.Prelude.{◌==◌, ◌||◌, ◌&&◌, nat_lt, if◌then◌else◌, slice_get}
use Rattle.std.specs.List.{AllByRecursion, list_any, list_all}
use Rattle.std.proofs.lemmas.Bool.Decides.{nat_tests}
use Rattle.ft_base.specs.Members.{AreDifferent, is_member}
use Rattle.ft_base.specs.declared.numbers.GroupId.{GroupId}
use Rattle.ft_base.specs.declared.views.Style.{Style}
use Rattle.ft_report.specs.declared.reports.ReportLine.{ReportLine}
use Rattle.group_model.specs.Openings.{first_view}
use Rattle.group_model.specs.Runs.{after_steps}
use Rattle.group_model.specs.Views.{newest_view}
use Rattle.script_groups.specs.Groups.{ScriptGroup, common_of, group_of, opened, steps_of}
use Rattle.script_groups.specs.Histories.{with_all}
use Rattle.shipped_servants.specs.declared.kinds.Kind.{Kind}
use Rattle.script_world.specs.World.{up_of}
use Rattle.script_world.specs.declared.hosts.HostState.{HostState}
use Rattle.world_management.specs.Making.{group_lines, stands_twice, stopped_from, stopped_if}

-- ---- hosts that are down

next_at : (n i : ℕ) (hosts : List HostState) (g : ScriptGroup) → i < length hosts →
    stopped_from n (drop i hosts) g ≡ stopped_from (suc n) (drop (suc i) hosts) (stopped_if (up_of (slice_get hosts i)) g n)
unfolding stopped_from
next_at n i [] g inside = absurd (omega arith)
next_at n zero (h ∷ hosts) g inside = refl
next_at n (suc i) (h ∷ hosts) g inside = next_at n i hosts g (omega arith)

pub stopped_next : (i : ℕ) (hosts : List HostState) (g : ScriptGroup) → i < length hosts →
    stopped_from i (drop i hosts) g ≡ stopped_from (i + 1) (drop (i + 1) hosts) (stopped_if (up_of (slice_get hosts i)) g i)
stopped_next i hosts g inside =
    next_at i i hosts g inside
    ∙ ap (λ k. stopped_from k (drop k hosts) (stopped_if (up_of (slice_get hosts i)) g i)) (let e : suc i ≡ i + 1 = omega arith in e)

all_at : (n i : ℕ) (hosts : List HostState) (g : ScriptGroup) → length hosts ≤ i → stopped_from n (drop i hosts) g ≡ g
unfolding stopped_from
all_at n zero [] g all = refl
all_at n (suc i) [] g all = refl
all_at n zero (h ∷ hosts) g all = absurd (omega arith)
all_at n (suc i) (h ∷ hosts) g all = all_at n i hosts g (omega arith)

pub stopped_all : (i : ℕ) (hosts : List HostState) (g : ScriptGroup) → length hosts ≤ i → stopped_from i (drop i hosts) g ≡ g
stopped_all i hosts g all = all_at i i hosts g all

pub kept_if : (up : Bool) (g : ScriptGroup) (i : ℕ) → g.poisoned ≡ false → (stopped_if up g i).poisoned ≡ false
kept_if true g i kept = kept
kept_if false g i kept = kept

pub same_id : (i : ℕ) (hosts : List HostState) (g : ScriptGroup) → (stopped_from i hosts g).id ≡ g.id
unfolding stopped_from
same_id i [] g = refl
same_id i (h ∷ hosts) g = same_id (suc i) hosts (stopped_if h.up g i) ∙ one h.up g i
  where
    one : (up : Bool) (s : ScriptGroup) (k : ℕ) → (stopped_if up s k).id ≡ s.id
    one true s k = refl
    one false s k = refl

pub same_kept : (i : ℕ) (hosts : List HostState) (g : ScriptGroup) → (stopped_from i hosts g).poisoned ≡ g.poisoned
unfolding stopped_from
same_kept i [] g = refl
same_kept i (h ∷ hosts) g = same_kept (suc i) hosts (stopped_if h.up g i) ∙ one h.up g i
  where
    one : (up : Bool) (s : ScriptGroup) (k : ℕ) → (stopped_if up s k).poisoned ≡ s.poisoned
    one true s k = refl
    one false s k = refl

-- ---- members by their numbers

no_other : (a b : ℕ) → (a == b) ≡ false → (b == a) ≡ false
no_other a b e = grind (arith, nat_tests)

or_left : (a b : Bool) → (a || b) ≡ false → a ≡ false
or_left true b e = e
or_left false b e = refl

or_right : (a b : Bool) → (a || b) ≡ false → b ≡ false
or_right true b e = absurd cc
or_right false b e = e

pub or_both : (a b : Bool) → a ≡ false → b ≡ false → (a || b) ≡ false
or_both true b e f = e
or_both false b e f = f

other_at : (hs : List ℕ) (i h x : ℕ) → i < length hs → h ≡ get_or hs i 0 → list_any (λ g. g == x) hs ≡ false → (h == x) ≡ false
other_at [] i h x inside at none = absurd (omega arith)
other_at (y ∷ hs) zero h x inside at none = subst (λ (z : ℕ). (z == x) ≡ false) (sym at) (or_left (y == x) _ none)
other_at (y ∷ hs) (suc i) h x inside at none = other_at hs i h x (omega arith) at (or_right (y == x) _ none)

if_left : (a b : Bool) → (if a then true else b) ≡ false → a ≡ false
if_left true b e = e
if_left false b e = refl

if_right : (a b : Bool) → (if a then true else b) ≡ false → b ≡ false
if_right true b e = absurd cc
if_right false b e = e

pub fresh_at : (hs : List ℕ) (i h : ℕ) → stands_twice hs ≡ false → i < length hs → h ≡ get_or hs i 0 → is_member h (take i hs) ≡ false
fresh_at [] i h once inside at = absurd (omega arith)
fresh_at (x ∷ hs) zero h once inside at = refl
fresh_at (x ∷ hs) (suc i) h once inside at =
    or_both (x == h) _ (no_other h x (other_at hs i h x (omega arith) at (if_left _ _ once)))
    (fresh_at hs i h (if_right _ _ once) (omega arith) at)

pub same_different : (hs : List ℕ) → stands_twice hs ≡ false → AreDifferent hs
same_different [] once = tt
same_different (h ∷ hs) once = (if_left _ _ once, same_different hs (if_right _ _ once))

pub all_there : (hs : List ℕ) (n limit : ℕ) → n ≤ limit → list_all (λ h. nat_lt h n) hs ≡ true → AllByRecursion (λ h. h < limit) hs
all_there [] n limit few all = tt
all_there (h ∷ hs) n limit few all = (below h n limit few (and_left _ _ all), all_there hs n limit few (and_right _ _ all))
  where
    and_left : (a b : Bool) → (a && b) ≡ true → a ≡ true
    and_left true b e = refl
    and_left false b e = e

    and_right : (a b : Bool) → (a && b) ≡ true → b ≡ true
    and_right true b e = e
    and_right false b e = absurd cc

    below : (h n limit : ℕ) → n ≤ limit → nat_lt h n ≡ true → h < limit
    below h n limit few e = grind (arith, nat_tests)

-- ---- a group as it is made

first_is : (id : GroupId) (name : List ℕ) (kind : Kind) (style : Style) (members : List ℕ) →
    newest_view (common_of (opened id name kind style members)) ≡ first_view style members
unfolding group_of steps_of with_all after_steps
first_is id name kind style members = refl

pub made_lines : (n count : ℕ) (name : List ℕ) (kind : Kind) (style : Style) (members : List ℕ) (g : ScriptGroup) (report : List ReportLine) →
    count ≡ n → g ≡ opened (record { 0 = count + 1 }) name kind style members →
    report ≡ group_lines (record { 0 = count + 1 }) g.name (newest_view (common_of g)) →
    report ≡ group_lines (record { 0 = n + 1 }) name (first_view style members)
made_lines n count name kind style members g report same is lines =
    lines
    ∙ ap (λ (x : ScriptGroup). group_lines (record { 0 = count + 1 }) x.name (newest_view (common_of x))) is
    ∙ ap (λ view. group_lines (record { 0 = count + 1 }) name view) (first_is (record { 0 = count + 1 }) name kind style members)
    ∙ ap (λ k. group_lines (record { 0 = k + 1 }) name (first_view style members)) same

pub made_group_is : (hosts : List HostState) (n count : ℕ) (name : List ℕ) (kind : Kind) (style : Style) (members : List ℕ) (g later : ScriptGroup) →
    count ≡ n → g ≡ opened (record { 0 = count + 1 }) name kind style members → later ≡ stopped_from 0 hosts g →
    later ≡ stopped_from 0 hosts (opened (record { 0 = n + 1 }) name kind style members)
made_group_is hosts n count name kind style members g later same is stopped =
    stopped
    ∙ ap (λ (x : ScriptGroup). stopped_from 0 hosts x) is
    ∙ ap (λ m. stopped_from 0 hosts (opened (record { 0 = m + 1 }) name kind style members)) same
