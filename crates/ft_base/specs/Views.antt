-- Views: a group's members at one version of its reference. (Chapter 23, "Object Group References".)
use Rattle.std.specs.Prelude.{◌≡◌, ℕ, ◌<◌, ◌≤◌, ◌==◌, Bool, true, false, List, [], length, Option, Some, None}
use Rattle.ft_base.specs.Members.{is_member, AreDifferent}
use Rattle.ft_base.specs.declared.limits.TheConstants.{VIEW_LIMIT}
use Rattle.ft_base.specs.declared.views.TheConstants.{MEMBER_LIMIT}
use Rattle.ft_base.specs.declared.numbers.HostNo.{HostNo}
use Rattle.ft_base.specs.declared.views.Style.{Style}
use Rattle.ft_base.specs.declared.views.Style.TheVariants.{Cold, Warm, Active}
use Rattle.ft_base.specs.declared.views.View.{View}

-- COLD_PASSIVE and WARM_PASSIVE: one member, the primary, runs the requests. (Chapter 23, "Replication Styles".)
abbrev pub is_passive : Style → Bool
is_passive Cold = true
is_passive Warm = true
is_passive Active = false

-- the primary, where there is one, is this host
abbrev pub is_primary : Option HostNo → ℕ → Bool
is_primary None host = false
is_primary (Some primary) host = primary.0 == host

-- a view is led by its primary
abbrev pub is_led_by : View → ℕ → Bool
is_led_by view host = is_primary view.primary host

-- a passive group has a primary exactly where it has members, and it is one of them
abbrev pub IsPassivePrimary : List ℕ → Option HostNo → Type 0
IsPassivePrimary members None = members ≡ []
IsPassivePrimary members (Some host) = is_member host.0 members ≡ true

-- an active group has none
abbrev pub IsPrimary : Style → List ℕ → Option HostNo → Type 0
IsPrimary Cold members primary = IsPassivePrimary members primary
IsPrimary Warm members primary = IsPassivePrimary members primary
IsPrimary Active members primary = primary ≡ None

-- a view of a group of this style: its version, at most 16 different members in order of joining, and its
-- primary
pub record IsView (style : Style) (view : View) : Type 0 where
  pub numbered : 0 < view.version.0
  pub last : view.version.0 ≤ VIEW_LIMIT
  pub few : length view.members ≤ MEMBER_LIMIT
  pub different : AreDifferent view.members
  pub primary : IsPrimary style view.members view.primary
