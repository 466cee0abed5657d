-- The next view of a sound group is a view of its style, and stands at its version.
use Rattle.std.proofs.Common.{◌≡◌, ℕ, zero, suc, ◌+◌, ◌-◌, ◌<◌, ◌≤◌, ◌&&◌, ◌||◌, Bool, true, false, List, [], ◌∷◌, ◌++◌, length, length-append, Option, Some, None, refl, sym, subst, ap, if◌then◌else◌, eqb-true, leb-false, arith}
use Rattle.std.specs.Prelude.{nat_eq, nat_le, not, slice_get, slice_index_or}
use Rattle.std.specs.List.{AllByRecursion, fold}
use Rattle.ft_base.specs.Members.{is_member, AreDifferent}
use Rattle.ft_base.specs.Views.{IsPrimary, IsPassivePrimary}
use Rattle.ft_base.specs.declared.limits.TheConstants.{HOST_LIMIT, VIEW_LIMIT}
use Rattle.ft_base.specs.declared.views.TheConstants.{MEMBER_LIMIT}
use Rattle.ft_base.specs.declared.numbers.HostNo.{HostNo}
use Rattle.ft_base.specs.declared.views.Style.{Style}
use Rattle.ft_base.specs.declared.views.Style.TheVariants.{Cold, Warm, Active}
use Rattle.ft_base.specs.declared.views.View.{View}
use Rattle.group_model.specs.declared.changes.Change.{Change}
use Rattle.group_model.specs.declared.changes.Change.TheVariants.{Report, Remove, Add, Create, Primary, Replace}
use Rattle.group_model.specs.declared.changes.ManageFault.{ManageFault}
use Rattle.group_model.specs.Plain.{Common}
use Rattle.group_model.specs.Views.{no_view, view_at, newest_view, without}
use Rattle.ft_base.specs.Members.{first_of}
use Rattle.group_model.specs.Changes.{ChangeRow, NamesHosts, first_fault, change_rows, host_of_change, spares_of, joins, leaves, leads, before_spares, members_then, kept_or_first, primary_then, next_view}
use Rattle.group_model.specs.Agreeing.{IsViewAt, AreViews}
use Rattle.group_model.specs.Spares.{AreMembers, SparesAreHosts, SparesJoin, with_spare}
use Rattle.group_model.proofs.Choosing.{either_so}

-- ---- no row stands

abbrev AllOpen : List ChangeRow → Type 0
AllOpen [] = Unit {0}
AllOpen (r ∷ rows) = (r.stands ≡ false) × AllOpen rows

open_first : (b : Bool) (x : ManageFault) (o : Option ManageFault) → (if b then Some x else o) ≡ None → (b ≡ false) × (o ≡ None)
open_first true x o e = absurd cc
open_first false x o e = (refl, e)

none_stands : (rows : List ChangeRow) → first_fault rows ≡ None → AllOpen rows
none_stands [] e = tt
none_stands (r ∷ rows) e =
    let both = open_first r.stands r.fault (first_fault rows) e in
    (both.0, none_stands rows both.1)

-- what the rows leave
pub record MayChange (style : Style) (view : View) (change : Change) : Type 0 where
  pub fresh : (joins change && is_member (host_of_change change).0 view.members) ≡ false
  pub room : (joins change && nat_le MEMBER_LIMIT (length view.members)) ≡ false
  pub there : (not (joins change) && not (is_member (host_of_change change).0 view.members)) ≡ false
  pub more : nat_le VIEW_LIMIT view.version.0 ≡ false

pub may_change : (style : Style) (view : View) (change : Change) → first_fault (change_rows style view change) ≡ None → MayChange style view change
may_change style view change e =
    let rows = none_stands (change_rows style view change) e in
    record { fresh = rows.1.0; room = rows.1.1.0; there = rows.1.1.1.1.1.0; more = rows.1.1.1.1.1.1.1.0 }

-- ---- members

pub if_not : (b c : Bool) → b ≡ true → (b && c) ≡ false → c ≡ false
if_not true c e f = f
if_not false c e f = absurd cc

or_false : (a b : Bool) → a ≡ false → b ≡ false → (a || b) ≡ false
or_false true b e f = absurd cc
or_false false b e f = f

pub or_parts : (a b : Bool) → (a || b) ≡ false → (a ≡ false) × (b ≡ false)
or_parts true b e = absurd cc
or_parts false b e = (refl, e)

eq_swap : (m n : ℕ) → nat_eq m n ≡ false → nat_eq n m ≡ false
eq_swap m n e =
    let go : (b : Bool) → nat_eq n m ≡ b → b ≡ false =
    elim [ true ↦ λ h. absurd (let same = eqb-true n m h in let back : nat_eq m m ≡ false = subst (λ (k : ℕ). nat_eq m k ≡ false) same e in grind arith) | false ↦ λ h. refl ] in
    go (nat_eq n m) refl

member_push : (host x : ℕ) (xs : List ℕ) → is_member host xs ≡ false → nat_eq x host ≡ false → is_member host (xs ++ x ∷ []) ≡ false
member_push host x [] e f = or_false (nat_eq x host) false f refl
member_push host x (y ∷ xs) e f =
    let both = or_parts (nat_eq y host) (is_member host xs) e in
    or_false (nat_eq y host) (is_member host (xs ++ x ∷ [])) both.0 (member_push host x xs both.1 f)

different_push : (xs : List ℕ) (host : ℕ) → AreDifferent xs → is_member host xs ≡ false → AreDifferent (xs ++ host ∷ [])
different_push [] host all new = (refl, tt)
different_push (x ∷ xs) host all new =
    let both = or_parts (nat_eq x host) (is_member host xs) new in
    (member_push x host xs all.0 (eq_swap x host both.0), different_push xs host all.1 both.1)

member_without : (other host : ℕ) (xs : List ℕ) → is_member other xs ≡ false → is_member other (without host xs) ≡ false
member_without other host [] e = refl
member_without other host (x ∷ xs) e =
    let both = or_parts (nat_eq x other) (is_member other xs) e in
    either_so (λ (l : List ℕ). is_member other l ≡ false) (not (nat_eq x host)) (x ∷ without host xs) (without host xs)
    (λ stays. or_false (nat_eq x other) (is_member other (without host xs)) both.0 (member_without other host xs both.1)) (λ leaves. member_without other host xs both.1)

different_without : (host : ℕ) (xs : List ℕ) → AreDifferent xs → AreDifferent (without host xs)
different_without host [] all = tt
different_without host (x ∷ xs) all =
    either_so AreDifferent (not (nat_eq x host)) (x ∷ without host xs) (without host xs)
    (λ stays. (member_without x host xs all.0, different_without host xs all.1)) (λ leaves. different_without host xs all.1)

pub fewer_without : (host : ℕ) (xs : List ℕ) → length (without host xs) ≤ length xs
fewer_without host [] = omega arith
fewer_without host (x ∷ xs) =
    let less = fewer_without host xs in
    either_so (λ (l : List ℕ). length l ≤ length (x ∷ xs)) (not (nat_eq x host)) (x ∷ without host xs) (without host xs)
    (λ stays. omega (arith, less)) (λ leaves. omega (arith, less))

pub all_without : (P : ℕ → Type 0) (host : ℕ) (xs : List ℕ) → AllByRecursion P xs → AllByRecursion P (without host xs)
all_without P host [] all = tt
all_without P host (x ∷ xs) all =
    either_so (AllByRecursion P) (not (nat_eq x host)) (x ∷ without host xs) (without host xs)
    (λ stays. (all.0, all_without P host xs all.1)) (λ leaves. all_without P host xs all.1)

all_push : (P : ℕ → Type 0) (xs : List ℕ) (x : ℕ) → AllByRecursion P xs → P x → AllByRecursion P (xs ++ x ∷ [])
all_push P [] x all p = (p, tt)
all_push P (y ∷ xs) x all p = (all.0, all_push P xs x all.1 p)

-- each a host that there can be
abbrev AreHosts : List ℕ → Type 0
AreHosts hosts = AllByRecursion (λ host. host < HOST_LIMIT) hosts

spare_is_host : (members : List ℕ) (spare : ℕ) → spare < HOST_LIMIT → AreHosts members → AreHosts (with_spare members spare)
spare_is_host members spare lt are =
    either_so AreHosts (is_member spare members || nat_le MEMBER_LIMIT (length members)) members (members ++ spare ∷ []) (λ stays. are)
    (λ comes. all_push (λ n. n < HOST_LIMIT) members spare are lt)

each_is_host : (spares members : List ℕ) → AreHosts spares → AreHosts members → AreHosts (fold with_spare members spares)
each_is_host [] members all are = are
each_is_host (spare ∷ spares) members all are = each_is_host spares (with_spare members spare) all.1 (spare_is_host members spare all.0 are)

pub spares_are_hosts : SparesAreHosts
spares_are_hosts host spares members all are = each_is_host (without host spares) members (all_without (λ n. n < HOST_LIMIT) host spares all) are

spare_joins : (members : List ℕ) (spare : ℕ) → spare < HOST_LIMIT → AreMembers members → AreMembers (with_spare members spare)
spare_joins members spare lt are =
    either_so AreMembers (is_member spare members || nat_le MEMBER_LIMIT (length members)) members (members ++ spare ∷ []) (λ stays. are)
    (λ comes. let both = or_parts (is_member spare members) (nat_le MEMBER_LIMIT (length members)) comes in record {
      few = omega (arith, length-append members (spare ∷ []), leb-false MEMBER_LIMIT (length members) both.1);
      different = different_push members spare are.different both.0;
      hosts = all_push (λ n. n < HOST_LIMIT) members spare are.hosts lt;
    })

each_joins : (spares members : List ℕ) → AreHosts spares → AreMembers members → AreMembers (fold with_spare members spares)
each_joins [] members all are = are
each_joins (spare ∷ spares) members all are = each_joins spares (with_spare members spare) all.1 (spare_joins members spare all.0 are)

pub spares_join : SparesJoin
spares_join host spares members all are = each_joins (without host spares) members (all_without (λ n. n < HOST_LIMIT) host spares all) are

first_sound : (style : Style) (view : View) (change : Change) → (host_of_change change).0 < HOST_LIMIT → MayChange style view change → AreMembers view.members →
    AreMembers (before_spares change view.members)
first_sound style view change lt may old =
    let host = (host_of_change change).0 in
    either_so AreMembers (joins change) (view.members ++ host ∷ []) (if leaves change then without host view.members else view.members)
    (λ joining. record {
      few = omega (arith, length-append view.members (host ∷ []), leb-false MEMBER_LIMIT (length view.members) (if_not (joins change) (nat_le MEMBER_LIMIT (length view.members)) joining may.room));
      different = different_push view.members host old.different (if_not (joins change) (is_member host view.members) joining may.fresh);
      hosts = all_push (λ n. n < HOST_LIMIT) view.members host old.hosts lt;
    })
    (λ staying. either_so AreMembers (leaves change) (without host view.members) view.members
    (λ leaving. record {
      few = omega (arith, fewer_without host view.members, old.few);
      different = different_without host view.members old.different;
      hosts = all_without (λ n. n < HOST_LIMIT) host view.members old.hosts;
    })
    (λ same. old))

members_sound : (style : Style) (view : View) (change : Change) → NamesHosts change → MayChange style view change → AreMembers view.members →
    AreMembers (members_then change view.members)
members_sound style view change names may old =
    spares_join (host_of_change change).0 (spares_of change) (before_spares change view.members) names.1 (first_sound style view change names.0 may old)

-- ---- the primary

pub nat_same : (n : ℕ) → nat_eq n n ≡ true
nat_same n = grind arith

first_primary : (members : List ℕ) → IsPassivePrimary members (first_of members)
first_primary [] = refl
first_primary (m ∷ members) = ap (λ (b : Bool). b || is_member m members) (nat_same m)

kept_primary : (primary : Option HostNo) (members : List ℕ) → IsPassivePrimary members (kept_or_first primary members)
kept_primary None members = first_primary members
kept_primary (Some host) members =
    either_so (IsPassivePrimary members) (is_member host.0 members) (Some host) (first_of members) (λ kept. kept) (λ gone. first_primary members)

not_not : (b : Bool) → (true && not b) ≡ false → b ≡ true
not_not true e = refl
not_not false e = absurd cc

-- a host that is to lead is a member
leading : (style : Style) (view : View) (change : Change) → leads change ≡ true → MayChange style view change →
    is_member (host_of_change change).0 (members_then change view.members) ≡ true
leading style view (Report host) leads may = absurd cc
leading style view (Remove host) leads may = absurd cc
leading style view (Add host) leads may = absurd cc
leading style view (Create host listed made) leads may = absurd cc
leading style view (Primary host) leads may = not_not (is_member host.0 view.members) may.there
leading style view (Replace host spares) leads may = absurd cc

passive_primary : (style : Style) (view : View) (change : Change) → MayChange style view change →
    IsPassivePrimary (members_then change view.members) (if leads change then Some (host_of_change change) else kept_or_first view.primary (members_then change view.members))
passive_primary style view change may =
    either_so (IsPassivePrimary (members_then change view.members)) (leads change) (Some (host_of_change change)) (kept_or_first view.primary (members_then change view.members))
    (λ leads. leading style view change leads may) (λ other. kept_primary view.primary (members_then change view.members))

primary_sound : (style : Style) (view : View) (change : Change) → MayChange style view change →
    IsPrimary style (members_then change view.members) (primary_then style change view.primary (members_then change view.members))
primary_sound Cold view change may = passive_primary Cold view change may
primary_sound Warm view change may = passive_primary Warm view change may
primary_sound Active view change may = refl

-- ---- the views

got_last : (views : List View) (more : View) (k : ℕ) → slice_get (more ∷ views) (length views) ≡ Some (slice_index_or (more ∷ views) (length views) no_view)
got_last [] more k = refl
got_last (v ∷ views) more k = got_last views v k

pub newest_there : (views : List View) → 0 < length views → slice_get views (length views - 1) ≡ Some (view_at views (length views))
newest_there [] some = absurd (omega (arith, some))
newest_there (v ∷ views) some = subst (λ (n : ℕ). slice_get (v ∷ views) n ≡ Some (slice_index_or (v ∷ views) n no_view)) (omega arith) (got_last views v 0)

-- each of the old, and then the new one
each_push : (P : ℕ → View → Type 0) (start : ℕ) (views : List View) (new : View) →
    ((k : ℕ) (view : View) → slice_get views k ≡ Some view → P (start + k) view) → P (start + length views) new →
    (k : ℕ) (view : View) → slice_get (views ++ new ∷ []) k ≡ Some view → P (start + k) view
each_push P start [] new old p zero view is = subst (P (start + 0)) (some_is new view is) p
  where
    some_is : (x y : View) → Some x ≡ Some y → x ≡ y
    some_is x y e = cc
each_push P start [] new old p (suc k) view is = absurd cc
each_push P start (v ∷ views) new old p zero view is = old 0 view is
each_push P start (v ∷ views) new old p (suc k) view is =
    let moved : (n : ℕ) → (start + 1) + n ≡ start + suc n = λ n. omega arith in
    subst (λ (n : ℕ). P n view) (moved k)
    (each_push P (start + 1) views new (λ j w e. subst (λ (n : ℕ). P n w) (sym (moved j)) (old (suc j) w e)) (subst (λ (n : ℕ). P n new) (sym (moved (length views))) p) k view is)

pub views_go_on : (c : Common) (change : Change) → NamesHosts change → first_fault (change_rows c.style (newest_view c) change) ≡ None →
    AreViews c.style c.views → AreViews c.style (c.views ++ next_view c.style (newest_view c) change ∷ [])
views_go_on c change names none sound =
    let old = newest_view c in
    let new = next_view c.style old change in
    let may = may_change c.style old change none in
    let last = sound.each (length c.views - 1) old (newest_there c.views sound.some) in
    let number : old.version.0 ≡ length c.views = omega (arith, last.numbered, sound.some) in
    let members = members_sound c.style old change names may (record { few = last.is.few; different = last.is.different; hosts = last.hosts }) in
    let below = leb-false VIEW_LIMIT old.version.0 may.more in
    let is-new : IsViewAt c.style (0 + length c.views) new = record {
      numbered = omega (arith, number);
      is = record {
        numbered = omega arith;
        last = omega (arith, below);
        few = members.few;
        different = members.different;
        primary = primary_sound c.style old change may;
      };
      hosts = members.hosts;
    } in
    record {
      some = omega (arith, length-append c.views (new ∷ []));
      few = omega (arith, length-append c.views (new ∷ []), below, number);
      each = λ k view is. subst (λ (n : ℕ). IsViewAt c.style n view) (omega arith)
          (each_push (IsViewAt c.style) 0 c.views new (λ j w e. subst (λ (n : ℕ). IsViewAt c.style n w) (omega arith) (sound.each j w e)) is-new k view is);
    }
