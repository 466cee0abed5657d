-- Spares, which come where a host is replaced. (Chapter 23, `MembershipStyle`: under MEMB_INF_CTRL the
-- infrastructure keeps a group at its number of members.)
use Rattle.std.specs.Prelude.{ℕ, ◌<◌, ◌≤◌, ◌||◌, if◌then◌else◌, nat_le, List, [], ◌∷◌, ◌++◌, length}
use Rattle.std.specs.List.{AllByRecursion, fold}
use Rattle.ft_base.specs.Members.{is_member, AreDifferent}
use Rattle.ft_base.specs.declared.limits.TheConstants.{HOST_LIMIT}
use Rattle.ft_base.specs.declared.views.TheConstants.{MEMBER_LIMIT}
use Rattle.group_model.specs.Views.{without}

-- a spare comes last, unless it is a member or there is no room
abbrev pub with_spare : List ℕ → ℕ → List ℕ
with_spare members spare = if is_member spare members || nat_le MEMBER_LIMIT (length members) then members else members ++ spare ∷ []

-- each of the spares in order, but the host that they replace
abbrev pub with_spares : ℕ → List ℕ → List ℕ → List ℕ
with_spares host spares members = fold with_spare members (without host spares)

-- ---- laws

-- members that a view can have: at most 16, all different, each a host that there can be
pub record AreMembers (members : List ℕ) : Type 0 where
  pub few : length members ≤ MEMBER_LIMIT
  pub different : AreDifferent members
  pub hosts : AllByRecursion (λ host. host < HOST_LIMIT) members

-- Members with spares are members that a view can have.
abbrev pub SparesJoin : Type 0
SparesJoin = (host : ℕ) (spares members : List ℕ) → AllByRecursion (λ spare. spare < HOST_LIMIT) spares → AreMembers members →
    AreMembers (with_spares host spares members)

-- Where spares and members are hosts that there can be, so are members with spares.
abbrev pub SparesAreHosts : Type 0
SparesAreHosts = (host : ℕ) (spares members : List ℕ) → AllByRecursion (λ spare. spare < HOST_LIMIT) spares → AllByRecursion (λ member. member < HOST_LIMIT) members →
    AllByRecursion (λ member. member < HOST_LIMIT) (with_spares host spares members)
