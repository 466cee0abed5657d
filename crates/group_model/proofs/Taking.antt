-- The host that takes a checkpoint now is the one whose part it is, and it is up.
use Rattle.std.proofs.Common.{◌≡◌, ℕ, ◌-◌, ◌<◌, length, List, [], ◌∷◌, Bool, true, false, Option, Some, None, refl, sym, subst, ap, ◌∙◌, ◌==◌, ◌||◌, if◌then◌else◌, eqb-true}
use Rattle.ft_base.specs.declared.numbers.HostNo.{HostNo}
use Rattle.ft_base.specs.declared.views.Style.{Style}
use Rattle.ft_base.specs.declared.views.Style.TheVariants.{Cold, Warm, Active}
use Rattle.std.specs.List.{AllByRecursion}
use Rattle.ft_base.specs.Machine.{Machine}
use Rattle.ft_base.specs.Members.{is_member}
use Rattle.ft_base.specs.Views.{is_passive, IsPrimary}
use Rattle.ft_base.specs.declared.limits.TheConstants.{HOST_LIMIT}
use Rattle.ft_base.specs.declared.numbers.Tick.{Tick}
use Rattle.group_model.specs.declared.events.Event.TheVariants as events
use Rattle.group_model.specs.Plain.{Group, Host}
use Rattle.group_model.specs.Views.{host_no, is_warm, newest_view}
use Rattle.group_model.specs.Agreeing.{IsSound, IsViewAt, first_up, taking_host}
use Rattle.group_model.specs.Takers.{IsTaker, if_host_up, taker, updater}
use Rattle.group_model.proofs.Viewing.{newest_there}

named : (g : Group) (o : Option HostNo) (host : HostNo) → if_host_up g o ≡ Some host → (o ≡ Some host) × ((g.hosts host.0).up ≡ true)
named g None host e = absurd cc
named g (Some x) host e = go (g.hosts x.0).up refl e where
  go : (b : Bool) → (g.hosts x.0).up ≡ b → (if b then Some x else None) ≡ Some host → (Some x ≡ Some host) × ((g.hosts host.0).up ≡ true)
  go true up same = let is : x ≡ host = cc in (same, ap (λ (h : HostNo). (g.hosts h.0).up) (sym is) ∙ up)
  go false up same = absurd cc

pub taker_named : (g : Group) (host : HostNo) → taker g ≡ Some host → (taking_host g ≡ Some host) × ((g.hosts host.0).up ≡ true)
taker_named g host e = named g (taking_host g) host e

-- and the group is warm, where it sends an update
by_style : (style : Style) (o : Option HostNo) (host : HostNo) → (if is_warm style then o else None) ≡ Some host → (style ≡ Warm) × (o ≡ Some host)
by_style Cold o host e = absurd cc
by_style Warm o host e = (refl, e)
by_style Active o host e = absurd cc

pub updater_named : (g : Group) (host : HostNo) → updater g ≡ Some host → (g.common.style ≡ Warm) × (taking_host g ≡ Some host) × ((g.hosts host.0).up ≡ true)
updater_named g host e =
    let both = by_style g.common.style (taker g) host e in
    let takes = taker_named g host both.1 in
    (both.0, takes.0, takes.1)

-- ---- the host is one that there can be

abbrev AreInside : List ℕ → Type 0
AreInside members = AllByRecursion (λ (m : ℕ). m < HOST_LIMIT) members

member_inside : (host : ℕ) (members : List ℕ) → AreInside members → is_member host members ≡ true → host < HOST_LIMIT
member_inside host [] all e = absurd cc
member_inside host (m ∷ members) all e = go (m == host) refl e (λ later. member_inside host members all.1 later) where
  go : (b : Bool) → (m == host) ≡ b → (b || is_member host members) ≡ true → (is_member host members ≡ true → host < HOST_LIMIT) → host < HOST_LIMIT
  go true f e more = subst (λ (n : ℕ). n < HOST_LIMIT) (eqb-true m host f) all.0
  go false f e more = more e

up_inside : (hosts : ℕ → Host) (members : List ℕ) (host : HostNo) → AreInside members → first_up hosts members ≡ Some host → host.0 < HOST_LIMIT
up_inside hosts [] host all e = absurd cc
up_inside hosts (m ∷ members) host all e = go (hosts m).up e (λ later. up_inside hosts members host all.1 later) where
  go : (b : Bool) → (if b then Some (host_no m) else first_up hosts members) ≡ Some host → (first_up hosts members ≡ Some host → host.0 < HOST_LIMIT) → host.0 < HOST_LIMIT
  go true e more = let same : host_no m ≡ host = cc in subst (λ (h : HostNo). h.0 < HOST_LIMIT) same all.0
  go false e more = more e

primary_inside : (style : Style) (members : List ℕ) (host : HostNo) (primary : Option HostNo) → AreInside members → IsPrimary style members primary → primary ≡ Some host →
    host.0 < HOST_LIMIT
primary_inside Cold members host (Some p) all is e = let same : p ≡ host = cc in subst (λ (h : HostNo). h.0 < HOST_LIMIT) same (member_inside p.0 members all is)
primary_inside Warm members host (Some p) all is e = let same : p ≡ host = cc in subst (λ (h : HostNo). h.0 < HOST_LIMIT) same (member_inside p.0 members all is)
primary_inside Active members host (Some p) all is e = absurd cc
primary_inside Cold members host None all is e = absurd cc
primary_inside Warm members host None all is e = absurd cc
primary_inside Active members host None all is e = absurd cc

module _ (m : Machine) (g : Group) (sound : IsSound m g) where
  newest_is : IsViewAt g.common.style (length g.common.views - 1) (newest_view g.common)
  newest_is =
      let views = sound.common.views in
      views.each (length g.common.views - 1) (newest_view g.common) (newest_there g.common.views views.some)

  taken_by : (passive : Bool) (host : HostNo) → (if passive then (newest_view g.common).primary else first_up g.hosts (newest_view g.common).members) ≡ Some host → host.0 < HOST_LIMIT
  taken_by true host e = primary_inside g.common.style (newest_view g.common).members host (newest_view g.common).primary newest_is.hosts newest_is.is.primary e
  taken_by false host e = up_inside g.hosts (newest_view g.common).members host newest_is.hosts e

  pub inside : (host : HostNo) → taking_host g ≡ Some host → host.0 < HOST_LIMIT
  inside host e = taken_by (is_passive g.common.style) host e

  pub takers_may : (host : HostNo) (clock : Tick) → taker g ≡ Some host → IsTaker m g host (events.Checkpoint host clock)
  takers_may host clock e =
      let takes = taker_named g host e in
      record { up = takes.1; agrees = record { host = inside host takes.0; brought = takes.0 } }

  pub updaters_may : (host : HostNo) → updater g ≡ Some host → IsTaker m g host (events.SendUpdate host)
  updaters_may host e =
      let sends = updater_named g host e in
      record { up = sends.2; agrees = record { host = inside host sends.1; brought = (sends.0, sends.1) } }
