-- The next view of a group is a view of its style, a log can write it, and the group's log goes on standing with
-- it.
use Rattle.std.proofs.Common.{◌≡◌, ℕ, zero, suc, ◌+◌, ◌-◌, ◌<◌, ◌≤◌, ◌&&◌, ◌||◌, Bool, true, false, List, [], ◌∷◌, ◌++◌, length, length-append, Option, Some, None, refl, sym, subst, ap, ◌∙◌, if◌then◌else◌, eqb-true, leb-false, arith}
use Rattle.std.specs.Prelude.{nat_eq, nat_le, not, slice_get, slice_index_or}
use Rattle.std.specs.List.{AllByRecursion}
use Rattle.std.proofs.lemmas.List.{drop-append-le}
use Rattle.ft_base.specs.Machine.{Machine}
use Rattle.ft_base.specs.Members.{is_member, AreDifferent}
use Rattle.ft_base.specs.Views.{IsPrimary, IsPassivePrimary}
use Rattle.ft_base.specs.declared.limits.TheConstants.{HOST_LIMIT, VIEW_LIMIT}
use Rattle.ft_base.specs.declared.views.TheConstants.{MEMBER_LIMIT}
use Rattle.ft_base.specs.declared.numbers.HostNo.{HostNo}
use Rattle.ft_base.specs.declared.views.Style.{Style}
use Rattle.ft_base.specs.declared.views.Style.TheVariants.{Cold, Warm, Active}
use Rattle.ft_base.specs.declared.views.View.{View}
use Rattle.message_log.specs.Calls as logs
use Rattle.message_log.specs.Picture.{Picture as LogPicture, IsLogged, IsPrimaryOf}
use Rattle.ft_replica.specs.Picture.{Picture as ReplicaPicture}
use Rattle.group_model.specs.declared.changes.Change.{Change}
use Rattle.group_model.specs.declared.changes.Change.TheVariants.{Report, Remove, Add, Create, Primary, Replace}
use Rattle.group_model.specs.declared.changes.ManageFault.{ManageFault}
use Rattle.group_model.specs.Plain.{Common, Place}
use Rattle.group_model.specs.Views.{no_view, view_at, newest_view, without}
use Rattle.ft_base.specs.Members.{first_of}
use Rattle.group_model.specs.Changes.{ChangeRow, NamesHosts, first_fault, change_rows, host_of_change, spares_of, joins, leaves, leads, before_spares, members_then, kept_or_first, primary_then, next_view, with_view}
use Rattle.group_model.specs.Agreeing.{IsViewAt, AreViews}
use Rattle.group_model.specs.Spares.{AreMembers, SparesAreHosts, SparesJoin}
use Rattle.group_stands.specs.Stands.{LogStands, ReplicaStands}
use Rattle.group_stands.specs.Viewing.{IsNextView, NextViewsAreLogged}

-- what holds of both, each where the test says so
either_so : {A : Type 0} (P : A → Type 0) (b : Bool) (x y : A) → (b ≡ true → P x) → (b ≡ false → P y) → P (if b then x else y)
either_so P true x y p q = p refl
either_so P false x y p q = q refl

-- ---- no row stands

abbrev AllOpen : List ChangeRow → Type 0
AllOpen [] = Unit {0}
AllOpen (r ∷ rows) = (r.stands ≡ false) × AllOpen rows

open_first : (b : Bool) (x : ManageFault) (o : Option ManageFault) → (if b then Some x else o) ≡ None → (b ≡ false) × (o ≡ None)
open_first true x o e = absurd cc
open_first false x o e = (refl, e)

none_stands : (rows : List ChangeRow) → first_fault rows ≡ None → AllOpen rows
none_stands [] e = tt
none_stands (r ∷ rows) e =
    let both = open_first r.stands r.fault (first_fault rows) e in
    (both.0, none_stands rows both.1)

-- what the rows leave
record MayChange (style : Style) (view : View) (change : Change) : Type 0 where
  pub fresh : (joins change && is_member (host_of_change change).0 view.members) ≡ false
  pub room : (joins change && nat_le MEMBER_LIMIT (length view.members)) ≡ false
  pub there : (not (joins change) && not (is_member (host_of_change change).0 view.members)) ≡ false
  pub more : nat_le VIEW_LIMIT view.version.0 ≡ false

may_change : (style : Style) (view : View) (change : Change) → first_fault (change_rows style view change) ≡ None → MayChange style view change
may_change style view change e =
    let rows = none_stands (change_rows style view change) e in
    record { fresh = rows.1.0; room = rows.1.1.0; there = rows.1.1.1.1.1.0; more = rows.1.1.1.1.1.1.1.0 }

-- ---- members

if_not : (b c : Bool) → b ≡ true → (b && c) ≡ false → c ≡ false
if_not true c e f = f
if_not false c e f = absurd cc

or_false : (a b : Bool) → a ≡ false → b ≡ false → (a || b) ≡ false
or_false true b e f = absurd cc
or_false false b e f = f

or_parts : (a b : Bool) → (a || b) ≡ false → (a ≡ false) × (b ≡ false)
or_parts true b e = absurd cc
or_parts false b e = (refl, e)

eq_swap : (m n : ℕ) → nat_eq m n ≡ false → nat_eq n m ≡ false
eq_swap m n e =
    let go : (b : Bool) → nat_eq n m ≡ b → b ≡ false =
    elim [ true ↦ λ h. absurd (let same = eqb-true n m h in let back : nat_eq m m ≡ false = subst (λ (k : ℕ). nat_eq m k ≡ false) same e in grind arith) | false ↦ λ h. refl ] in
    go (nat_eq n m) refl

member_push : (host x : ℕ) (xs : List ℕ) → is_member host xs ≡ false → nat_eq x host ≡ false → is_member host (xs ++ x ∷ []) ≡ false
member_push host x [] e f = or_false (nat_eq x host) false f refl
member_push host x (y ∷ xs) e f =
    let both = or_parts (nat_eq y host) (is_member host xs) e in
    or_false (nat_eq y host) (is_member host (xs ++ x ∷ [])) both.0 (member_push host x xs both.1 f)

different_push : (xs : List ℕ) (host : ℕ) → AreDifferent xs → is_member host xs ≡ false → AreDifferent (xs ++ host ∷ [])
different_push [] host all new = (refl, tt)
different_push (x ∷ xs) host all new =
    let both = or_parts (nat_eq x host) (is_member host xs) new in
    (member_push x host xs all.0 (eq_swap x host both.0), different_push xs host all.1 both.1)

member_without : (other host : ℕ) (xs : List ℕ) → is_member other xs ≡ false → is_member other (without host xs) ≡ false
member_without other host [] e = refl
member_without other host (x ∷ xs) e =
    let both = or_parts (nat_eq x other) (is_member other xs) e in
    either_so (λ (l : List ℕ). is_member other l ≡ false) (not (nat_eq x host)) (x ∷ without host xs) (without host xs)
    (λ stays. or_false (nat_eq x other) (is_member other (without host xs)) both.0 (member_without other host xs both.1)) (λ leaves. member_without other host xs both.1)

different_without : (host : ℕ) (xs : List ℕ) → AreDifferent xs → AreDifferent (without host xs)
different_without host [] all = tt
different_without host (x ∷ xs) all =
    either_so AreDifferent (not (nat_eq x host)) (x ∷ without host xs) (without host xs)
    (λ stays. (member_without x host xs all.0, different_without host xs all.1)) (λ leaves. different_without host xs all.1)

fewer_without : (host : ℕ) (xs : List ℕ) → length (without host xs) ≤ length xs
fewer_without host [] = omega arith
fewer_without host (x ∷ xs) =
    let less = fewer_without host xs in
    either_so (λ (l : List ℕ). length l ≤ length (x ∷ xs)) (not (nat_eq x host)) (x ∷ without host xs) (without host xs)
    (λ stays. omega (arith, less)) (λ leaves. omega (arith, less))

all_without : (P : ℕ → Type 0) (host : ℕ) (xs : List ℕ) → AllByRecursion P xs → AllByRecursion P (without host xs)
all_without P host [] all = tt
all_without P host (x ∷ xs) all =
    either_so (AllByRecursion P) (not (nat_eq x host)) (x ∷ without host xs) (without host xs)
    (λ stays. (all.0, all_without P host xs all.1)) (λ leaves. all_without P host xs all.1)

all_push : (P : ℕ → Type 0) (xs : List ℕ) (x : ℕ) → AllByRecursion P xs → P x → AllByRecursion P (xs ++ x ∷ [])
all_push P [] x all p = (p, tt)
all_push P (y ∷ xs) x all p = (all.0, all_push P xs x all.1 p)

first_sound : (style : Style) (view : View) (change : Change) → (host_of_change change).0 < HOST_LIMIT → MayChange style view change → AreMembers view.members →
    AreMembers (before_spares change view.members)
first_sound style view change lt may old =
    let host = (host_of_change change).0 in
    either_so AreMembers (joins change) (view.members ++ host ∷ []) (if leaves change then without host view.members else view.members)
    (λ joining. record {
      few = omega (arith, length-append view.members (host ∷ []), leb-false MEMBER_LIMIT (length view.members) (if_not (joins change) (nat_le MEMBER_LIMIT (length view.members)) joining may.room));
      different = different_push view.members host old.different (if_not (joins change) (is_member host view.members) joining may.fresh);
      hosts = all_push (λ n. n < HOST_LIMIT) view.members host old.hosts lt;
    })
    (λ staying. either_so AreMembers (leaves change) (without host view.members) view.members
    (λ leaving. record {
      few = omega (arith, fewer_without host view.members, old.few);
      different = different_without host view.members old.different;
      hosts = all_without (λ n. n < HOST_LIMIT) host view.members old.hosts;
    })
    (λ same. old))

members_sound : SparesJoin → (style : Style) (view : View) (change : Change) → NamesHosts change → MayChange style view change → AreMembers view.members →
    AreMembers (members_then change view.members)
members_sound joined style view change names may old =
    joined (host_of_change change).0 (spares_of change) (before_spares change view.members) names.1 (first_sound style view change names.0 may old)

-- ---- the primary

nat_same : (n : ℕ) → nat_eq n n ≡ true
nat_same n = grind arith

first_primary : (members : List ℕ) → IsPassivePrimary members (first_of members)
first_primary [] = refl
first_primary (m ∷ members) = ap (λ (b : Bool). b || is_member m members) (nat_same m)

kept_primary : (primary : Option HostNo) (members : List ℕ) → IsPassivePrimary members (kept_or_first primary members)
kept_primary None members = first_primary members
kept_primary (Some host) members =
    either_so (IsPassivePrimary members) (is_member host.0 members) (Some host) (first_of members) (λ kept. kept) (λ gone. first_primary members)

not_not : (b : Bool) → (true && not b) ≡ false → b ≡ true
not_not true e = refl
not_not false e = absurd cc

-- a host that is to lead is a member
leading : (style : Style) (view : View) (change : Change) → leads change ≡ true → MayChange style view change →
    is_member (host_of_change change).0 (members_then change view.members) ≡ true
leading style view (Report host) leads may = absurd cc
leading style view (Remove host) leads may = absurd cc
leading style view (Add host) leads may = absurd cc
leading style view (Create host listed made) leads may = absurd cc
leading style view (Primary host) leads may = not_not (is_member host.0 view.members) may.there
leading style view (Replace host spares) leads may = absurd cc

passive_primary : (style : Style) (view : View) (change : Change) → MayChange style view change →
    IsPassivePrimary (members_then change view.members) (if leads change then Some (host_of_change change) else kept_or_first view.primary (members_then change view.members))
passive_primary style view change may =
    either_so (IsPassivePrimary (members_then change view.members)) (leads change) (Some (host_of_change change)) (kept_or_first view.primary (members_then change view.members))
    (λ leads. leading style view change leads may) (λ other. kept_primary view.primary (members_then change view.members))

primary_sound : (style : Style) (view : View) (change : Change) → MayChange style view change →
    IsPrimary style (members_then change view.members) (primary_then style change view.primary (members_then change view.members))
primary_sound Cold view change may = passive_primary Cold view change may
primary_sound Warm view change may = passive_primary Warm view change may
primary_sound Active view change may = refl

-- ---- the views

got_last : (views : List View) (more : View) (k : ℕ) → slice_get (more ∷ views) (length views) ≡ Some (slice_index_or (more ∷ views) (length views) no_view)
got_last [] more k = refl
got_last (v ∷ views) more k = got_last views v k

newest_there : (views : List View) → 0 < length views → slice_get views (length views - 1) ≡ Some (view_at views (length views))
newest_there [] some = absurd (omega (arith, some))
newest_there (v ∷ views) some = subst (λ (n : ℕ). slice_get (v ∷ views) n ≡ Some (slice_index_or (v ∷ views) n no_view)) (omega arith) (got_last views v 0)

-- each of the old, and then the new one
each_push : (P : ℕ → View → Type 0) (start : ℕ) (views : List View) (new : View) →
    ((k : ℕ) (view : View) → slice_get views k ≡ Some view → P (start + k) view) → P (start + length views) new →
    (k : ℕ) (view : View) → slice_get (views ++ new ∷ []) k ≡ Some view → P (start + k) view
each_push P start [] new old p zero view is = subst (P (start + 0)) (some_is new view is) p
  where
    some_is : (x y : View) → Some x ≡ Some y → x ≡ y
    some_is x y e = cc
each_push P start [] new old p (suc k) view is = absurd cc
each_push P start (v ∷ views) new old p zero view is = old 0 view is
each_push P start (v ∷ views) new old p (suc k) view is =
    let moved : (n : ℕ) → (start + 1) + n ≡ start + suc n = λ n. omega arith in
    subst (λ (n : ℕ). P n view) (moved k)
    (each_push P (start + 1) views new (λ j w e. subst (λ (n : ℕ). P n w) (sym (moved j)) (old (suc j) w e)) (subst (λ (n : ℕ). P n new) (sym (moved (length views))) p) k view is)

pub views_go_on : SparesJoin → (c : Common) (change : Change) → NamesHosts change → first_fault (change_rows c.style (newest_view c) change) ≡ None →
    AreViews c.style c.views → AreViews c.style (c.views ++ next_view c.style (newest_view c) change ∷ [])
views_go_on joined c change names none sound =
    let old = newest_view c in
    let new = next_view c.style old change in
    let may = may_change c.style old change none in
    let last = sound.each (length c.views - 1) old (newest_there c.views sound.some) in
    let number : old.version.0 ≡ length c.views = omega (arith, last.numbered, sound.some) in
    let members = members_sound joined c.style old change names may (record { few = last.is.few; different = last.is.different; hosts = last.hosts }) in
    let below = leb-false VIEW_LIMIT old.version.0 may.more in
    let is-new : IsViewAt c.style (0 + length c.views) new = record {
      numbered = omega (arith, number);
      is = record {
        numbered = omega arith;
        last = omega (arith, below);
        few = members.few;
        different = members.different;
        primary = primary_sound c.style old change may;
      };
      hosts = members.hosts;
    } in
    record {
      some = omega (arith, length-append c.views (new ∷ []));
      few = omega (arith, length-append c.views (new ∷ []), below, number);
      each = λ k view is. subst (λ (n : ℕ). IsViewAt c.style n view) (omega arith)
          (each_push (IsViewAt c.style) 0 c.views new (λ j w e. subst (λ (n : ℕ). IsViewAt c.style n w) (omega arith) (sound.each j w e)) is-new k view is);
    }

-- ---- the log's next view

passive_logged : (members : List ℕ) (primary : Option HostNo) → IsPassivePrimary members primary → IsPrimaryOf members primary
passive_logged members None is = tt
passive_logged members (Some host) is = is

primary_logged : (style : Style) (members : List ℕ) (primary : Option HostNo) → IsPrimary style members primary → IsPrimaryOf members primary
primary_logged Cold members primary is = passive_logged members primary is
primary_logged Warm members primary is = passive_logged members primary is
primary_logged Active members None is = tt
primary_logged Active members (Some host) is = absurd cc

first_hosts : (change : Change) (members : List ℕ) → (host_of_change change).0 < HOST_LIMIT → AllByRecursion (λ host. host < HOST_LIMIT) members →
    AllByRecursion (λ host. host < HOST_LIMIT) (before_spares change members)
first_hosts change members lt old =
    let host = (host_of_change change).0 in
    either_so (AllByRecursion (λ n. n < HOST_LIMIT)) (joins change) (members ++ host ∷ []) (if leaves change then without host members else members)
    (λ joining. all_push (λ n. n < HOST_LIMIT) members host old lt)
    (λ staying. either_so (AllByRecursion (λ n. n < HOST_LIMIT)) (leaves change) (without host members) members
    (λ leaving. all_without (λ n. n < HOST_LIMIT) host members old) (λ same. old))

pub next_logged : SparesAreHosts → NextViewsAreLogged
next_logged hosts style view change may names old =
    let members = members_then change view.members in
    record {
      hosts = hosts (host_of_change change).0 (spares_of change) (before_spares change view.members) names.1 (first_hosts change view.members names.0 old);
      primary = primary_logged style members (primary_then style change view.primary members) (primary_sound style view change (may_change style view change may));
    }

viewed : (machines : ℕ → Machine) (c : Common) (log : LogPicture) (view : View) → LogStands machines c log → AreViews c.style (c.views ++ view ∷ []) →
    LogStands machines (with_view c view) (logs.with_view log view)
viewed machines c log view s views = record {
  views = ap (λ (vs : List View). vs ++ view ∷ []) s.views ∙ sym (drop-append-le (c.first_kept - 1) c.views (view ∷ []) (omega (arith, s.sound.kept.last)));
  mark = s.mark;
  time = s.time;
  journal = record { is_journal = s.journal.is_journal; marked = s.journal.marked; entries = s.journal.entries; table = record { are = s.journal.table.are; kept = s.journal.table.kept } };
  state = s.state;
  replies = s.replies;
  sound = record {
    opens = s.sound.opens;
    views = views;
    kept = record { some = s.sound.kept.some; last = omega (arith, s.sound.kept.last, length-append c.views (view ∷ [])) };
    journal = s.sound.journal;
    numbers = record { mark = s.sound.numbers.mark; ran = s.sound.numbers.ran; fresh = s.sound.numbers.fresh };
  };
}

pub log_viewed : SparesJoin → (machines : ℕ → Machine) (c : Common) (log : LogPicture) → LogStands machines c log →
    (change : Change) (view : View) → IsNextView c change view → LogStands machines (with_view c view) (logs.with_view log view)
log_viewed joined machines c log s change view next =
    let views = views_go_on joined c change next.hosts next.may s.sound.views in
    viewed machines c log view s (subst (λ (v : View). AreViews c.style (c.views ++ v ∷ [])) (sym next.is) views)

pub replica_viewed : (machines : ℕ → Machine) (c : Common) (replica : ReplicaPicture) (place : Place) → ReplicaStands machines c replica place →
    (view : View) → ReplicaStands machines (with_view c view) replica place
replica_viewed machines c replica place s view = record {
  kind = s.kind;
  loaded = s.loaded;
  position = s.position;
  base = s.base;
  state = s.state;
  copied = s.copied;
  order = s.order;
  ran = s.ran;
}
