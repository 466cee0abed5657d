-- What a core's hosts tell of who takes a checkpoint now, and of who is here.
use Rattle.std.proofs.Common.{◌≡◌, ℕ, zero, suc, ◌+◌, ◌-◌, ◌<◌, ◌≤◌, ◌⊎◌, inl, inr, Bool, true, false, List, [], ◌∷◌, ◌++◌, append_assoc, length, take, drop, Option, Some, None, refl, sym, ap, subst, ◌∙◌, arith}
use Rattle.std.specs.Prelude.{◌&&◌, not, nat_lt, nat_le, if◌then◌else◌, slice_get, slice_index_or}
use Rattle.std.proofs.lemmas.Bool.Decides.{nat_tests}
use Rattle.std.proofs.lemmas.List.{take-append-drop}
use Rattle.std.specs.List.{AllByRecursion}
use Rattle.ft_base.specs.Machine.{Machine}
use Rattle.ft_base.specs.Members.{is_member}
use Rattle.ft_base.specs.Views.{is_passive}
use Rattle.ft_base.specs.declared.limits.TheConstants.{HOST_LIMIT}
use Rattle.ft_base.specs.declared.numbers.HostNo.{HostNo}
use Rattle.ft_base.specs.declared.views.View.{View}
use Rattle.message_log.specs.Picture as pictures
use Rattle.group_model.specs.Agreeing.{IsViewAt, first_up, taking_host}
use Rattle.group_model.specs.Plain.{Group, Host}
use Rattle.group_model.specs.Takers.{if_host_up, is_here, is_member_of, taker}
use Rattle.group_model.specs.Views.{host_no, newest, newest_view, view_at}
use Rattle.group_hosts.specs.Hosts.{HostPicture}
use Rattle.group_core.specs.Cores.{CorePicture, Stands}
use Rattle.group_core.specs.Telling.{CoresTell, shown_view}

-- ---- places of a list

pub there : {X : Type 0} (xs : List X) (i : ℕ) → i < length xs → (x : X) × (slice_get xs i ≡ Some x)
there [] i lt = absurd (omega (arith, lt))
there (x ∷ xs) zero lt = (x, refl)
there (x ∷ xs) (suc i) lt = there xs i (omega (arith, lt))

pub all_at : {A : Type 0} (P : A → Type 0) (xs : List A) (k : ℕ) (d : A) → AllByRecursion P xs → k < length xs → P (slice_index_or xs k d)
all_at P [] k d all inside = absurd (omega (arith, inside))
all_at P (x ∷ xs) zero d all inside = all.0
all_at P (x ∷ xs) (suc k) d all inside = all_at P xs k d all.1 (omega (arith, inside))

last_there : {X : Type 0} (xs : List X) (x : X) → slice_get (xs ++ x ∷ []) (length xs) ≡ Some x
last_there [] x = refl
last_there (y ∷ xs) x = last_there xs x

-- the hosts from a place on
drop_at : (hosts : List ℕ) (i : ℕ) → i < length hosts → drop i hosts ≡ slice_index_or hosts i 0 ∷ drop (suc i) hosts
drop_at [] i inside = absurd (omega (arith, inside))
drop_at (h ∷ hosts) zero inside = refl
drop_at (h ∷ hosts) (suc i) inside = drop_at hosts i (omega (arith, inside))

-- ---- the first that is up

module _ (up : ℕ → Host) (hosts : List ℕ) (i : ℕ) (inside : i < length hosts) where
  from_here : first_up up (drop i hosts) ≡ (if (up (slice_index_or hosts i 0)).up then Some (host_no (slice_index_or hosts i 0)) else first_up up (drop (i + 1) hosts))
  from_here =
      ap (first_up up) (drop_at hosts i inside)
      ∙ ap (λ (k : ℕ). if (up (slice_index_or hosts i 0)).up then Some (host_no (slice_index_or hosts i 0)) else first_up up (drop k hosts)) (let same : suc i ≡ i + 1 = omega arith in same)

  -- this one is up, or the first is behind it
  pub first_is : (up (slice_index_or hosts i 0)).up ≡ true → first_up up hosts ≡ first_up up (drop i hosts) → Some (host_no (slice_index_or hosts i 0)) ≡ first_up up hosts
  first_is here so =
      sym (so ∙ from_here ∙ ap (λ (b : Bool). if b then Some (host_no (slice_index_or hosts i 0)) else first_up up (drop (i + 1) hosts)) here)

  pub first_behind : (up (slice_index_or hosts i 0)).up ≡ false → first_up up hosts ≡ first_up up (drop i hosts) → first_up up hosts ≡ first_up up (drop (i + 1) hosts)
  first_behind here so =
      so ∙ from_here ∙ ap (λ (b : Bool). if b then Some (host_no (slice_index_or hosts i 0)) else first_up up (drop (i + 1) hosts)) here

-- a member of a view that may be there
abbrev pub is_among : ℕ → Option View → Bool
is_among host None = false
is_among host (Some view) = is_member host view.members

-- ---- a core that stands for a group

module _ (machines : ℕ → Machine) (core : CorePicture) (g : Group) (stands : Stands machines core g) where
  -- a host is down exactly where its group's is
  pub within : (host : ℕ) → host < HOST_LIMIT → host < length core.hosts
  within host lt = omega (arith, lt, stands.count)

  pub up_told : (host : ℕ) (down b : Bool) → host < HOST_LIMIT → ((at : HostPicture) → slice_get core.hosts host ≡ Some at → down ≡ not at.up) → down ≡ b → (g.hosts host).up ≡ not b
  up_told host down b lt told is =
      let at = there core.hosts host (within host lt) in
      flip at.0.up (g.hosts host).up b (stands.hosts host at.0 at.1).up (sym (told at.0 at.1) ∙ is)
    where
      flip : (p u b : Bool) → p ≡ u → not p ≡ b → u ≡ not b
      flip true u true same is = absurd cc
      flip true u false same is = sym same
      flip false u true same is = sym same
      flip false u false same is = absurd cc

  pub known_told : (host known : ℕ) → host < HOST_LIMIT → ((at : HostPicture) → slice_get core.hosts host ≡ Some at → known ≡ at.known) → known ≡ (g.hosts host).known
  known_told host known lt told =
      let at = there core.hosts host (within host lt) in
      told at.0 at.1 ∙ (stands.hosts host at.0 at.1).known

  -- the members of its newest view are hosts that there can be
  abbrev before : List View
  before = take (g.common.first_kept - 1) g.common.views ++ core.log.earlier

  whole : before ++ core.log.newest ∷ [] ≡ g.common.views
  whole =
      let lost = take (g.common.first_kept - 1) g.common.views in
      append_assoc lost core.log.earlier (core.log.newest ∷ []) ∙ ap (λ (vs : List View). lost ++ vs) stands.log.views
      ∙ take-append-drop (g.common.first_kept - 1) g.common.views

  newest_is : IsViewAt g.common.style (length before) core.log.newest
  newest_is =
      stands.log.sound.views.each (length before) core.log.newest
      (subst (λ (vs : List View). slice_get vs (length before) ≡ Some core.log.newest) whole (last_there before core.log.newest))

  pub members_inside : AllByRecursion (λ host. host < HOST_LIMIT) core.log.newest.members
  members_inside = newest_is.hosts

  -- ---- the host whose part it is

  pub passive_takes : CoresTell → is_passive core.style ≡ true → core.log.newest.primary ≡ taking_host g
  passive_takes tells passive =
      let so : is_passive g.common.style ≡ true = ap is_passive (sym stands.style) ∙ passive in
      ap (λ (v : View). v.primary) (tells machines core g stands).newest
      ∙ sym (ap (λ (b : Bool). if b then (newest_view g.common).primary else first_up g.hosts (newest_view g.common).members) so)

  pub active_takes : CoresTell → is_passive core.style ≡ false → first_up g.hosts core.log.newest.members ≡ taking_host g
  active_takes tells active =
      let so : is_passive g.common.style ≡ false = ap is_passive (sym stands.style) ∙ active in
      ap (λ (v : View). first_up g.hosts v.members) (tells machines core g stands).newest
      ∙ sym (ap (λ (b : Bool). if b then (newest_view g.common).primary else first_up g.hosts (newest_view g.common).members) so)

  -- ---- who is here

  -- the view that a host knows is one that the group has had
  pub member_told : CoresTell → (host : ℕ) (o : Option View) → o ≡ shown_view g.common (g.hosts host).known → is_among host o ≡ is_member_of g.common (g.hosts host).known host
  member_told tells host o is =
      let known = (g.hosts host).known in
      let few : nat_le known (newest g.common) ≡ true = let le = (stands.sound.hosts host).known.0 in grind (arith, nat_tests) in
      ap (is_among host) (is ∙ ap (λ (b : Bool). if nat_le g.common.first_kept known && b then Some (view_at g.common.views known) else None) few)
      ∙ go (nat_le g.common.first_kept known) (nat_lt 0 known) (kept known (stands.sound.hosts host).known.1)
    where
      kept : (known : ℕ) → (known ≡ 0) ⊎ (g.common.first_kept ≤ known) → nat_le g.common.first_kept known ≡ nat_lt 0 known
      kept known (inl none) =
          let some = stands.log.sound.kept.some in
          let left : nat_le g.common.first_kept known ≡ false = grind (arith, nat_tests) in
          let right : nat_lt 0 known ≡ false = grind (arith, nat_tests) in
          left ∙ sym right
      kept known (inr has) =
          let some = stands.log.sound.kept.some in
          let left : nat_le g.common.first_kept known ≡ true = grind (arith, nat_tests) in
          let right : nat_lt 0 known ≡ true = grind (arith, nat_tests) in
          left ∙ sym right

      go : (a b : Bool) → a ≡ b → is_among host (if a && true then Some (view_at g.common.views (g.hosts host).known) else None) ≡ (b && is_member host (view_at g.common.views (g.hosts host).known).members)
      go true true same = refl
      go true false same = absurd cc
      go false true same = absurd cc
      go false false same = refl

  -- so it is told of a host that is up
  pub here_told : CoresTell → (host known : ℕ) (o : Option View) → known ≡ (g.hosts host).known → o ≡ pictures.view_at core.log known → (g.hosts host).up ≡ true → is_among host o ≡ is_here g host
  here_told tells host known o knows is up =
      member_told tells host o (is ∙ (tells machines core g stands).views known ∙ ap (shown_view g.common) knows)
      ∙ sym (ap (λ (b : Bool). b && is_member_of g.common (g.hosts host).known host) up)

  pub down_away : (host : ℕ) → (g.hosts host).up ≡ false → false ≡ is_here g host
  down_away host down = sym (ap (λ (b : Bool). b && is_member_of g.common (g.hosts host).known host) down)

  -- ---- who takes one now

  pub taker_down : (host : HostNo) → taking_host g ≡ Some host → (g.hosts host.0).up ≡ false → None ≡ taker g
  taker_down host takes down = sym (ap (if_host_up g) takes ∙ ap (λ (b : Bool). if b then Some host else None) down)

  pub taker_up : (host : HostNo) → taking_host g ≡ Some host → (g.hosts host.0).up ≡ true → Some host ≡ taker g
  taker_up host takes up = sym (ap (if_host_up g) takes ∙ ap (λ (b : Bool). if b then Some host else None) up)
