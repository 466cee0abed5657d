-- A change of a group's members. (Chapter 23, `ObjectGroupManager`.)
use Rattle.std.specs.Prelude.{ℕ, ◌+◌, ◌<◌, ◌&&◌, not, Bool, true, false, nat_le, if◌then◌else◌, List, [], ◌∷◌, ◌++◌, length, Option, Some, None}
use Rattle.std.specs.List.{AllByRecursion, filter}
use Rattle.ft_base.specs.Members.{first_of, is_member}
use Rattle.ft_base.specs.declared.limits.TheConstants.{HOST_LIMIT, VIEW_LIMIT}
use Rattle.ft_base.specs.declared.numbers.HostNo.{HostNo}
use Rattle.ft_base.specs.declared.views.TheConstants.{MEMBER_LIMIT}
use Rattle.ft_base.specs.declared.views.Style.{Style}
use Rattle.ft_base.specs.declared.views.View.{View}
use Rattle.group_model.specs.declared.changes.Change.{Change}
use Rattle.group_model.specs.declared.changes.Change.TheVariants.{Report, Remove, Add, Create, Primary, Replace}
use Rattle.group_model.specs.declared.changes.ManageFault.{ManageFault}
use Rattle.group_model.specs.declared.changes.ManageFault.TheVariants.{NoFactory, MemberAlreadyPresent, ObjectNotAdded, ObjectNotCreated, BadReplicationStyle, MemberNotFound, PrimaryNotSet, ViewsFull, LogFault}
use Rattle.group_model.specs.declared.events.GroupAnswer.TheVariants.{Changed, Refused}
use Rattle.group_model.specs.declared.events.Inner.TheVariants as inners
use Rattle.group_model.specs.declared.events.Out.{Out}
use Rattle.group_model.specs.Plain.{Common, Host}
use Rattle.group_model.specs.Spares.{with_spares}
use Rattle.group_model.specs.Turns.{Turn, unchanged}
use Rattle.ft_base.specs.Views.{is_led_by, is_passive}
use Rattle.group_model.specs.Views.{version, newest_view, without, sent_to}

-- the host that a change names
abbrev pub host_of_change : Change → HostNo
host_of_change (Report host) = host
host_of_change (Remove host) = host
host_of_change (Add host) = host
host_of_change (Create host listed made) = host
host_of_change (Primary host) = host
host_of_change (Replace host spares) = host

-- the hosts that come in its place
abbrev pub spares_of : Change → List ℕ
spares_of (Report host) = []
spares_of (Remove host) = []
spares_of (Add host) = []
spares_of (Create host listed made) = []
spares_of (Primary host) = []
spares_of (Replace host spares) = spares

-- each host that a change names is one that there can be
abbrev pub NamesHosts : Change → Type 0
NamesHosts change = ((host_of_change change).0 < HOST_LIMIT) × AllByRecursion (λ spare. spare < HOST_LIMIT) (spares_of change)

-- a change lets its host join
abbrev pub joins : Change → Bool
joins (Report host) = false
joins (Remove host) = false
joins (Add host) = true
joins (Create host listed made) = true
joins (Primary host) = false
joins (Replace host spares) = false

abbrev pub leaves : Change → Bool
leaves (Report host) = true
leaves (Remove host) = true
leaves (Add host) = false
leaves (Create host listed made) = false
leaves (Primary host) = false
leaves (Replace host spares) = true

abbrev pub leads : Change → Bool
leads (Report host) = false
leads (Remove host) = false
leads (Add host) = false
leads (Create host listed made) = false
leads (Primary host) = true
leads (Replace host spares) = false

-- create_member, of a host that is no factory of the group
abbrev pub is_unlisted : Change → Bool
is_unlisted (Report host) = false
is_unlisted (Remove host) = false
is_unlisted (Add host) = false
is_unlisted (Create host listed made) = not listed
is_unlisted (Primary host) = false
is_unlisted (Replace host spares) = false

-- create_member, whose object wasn't made
abbrev pub is_unmade : Change → Bool
is_unmade (Report host) = false
is_unmade (Remove host) = false
is_unmade (Add host) = false
is_unmade (Create host listed made) = not made
is_unmade (Primary host) = false
is_unmade (Replace host spares) = false

-- ---- refusals

-- where the test holds, a change is refused so
pub record ChangeRow : Type 0 where
  pub stands : Bool
  pub fault : ManageFault

abbrev pub change_row : Bool → ManageFault → ChangeRow
change_row stands fault = record { stands = stands; fault = fault }

abbrev pub first_fault : List ChangeRow → Option ManageFault
first_fault [] = None
first_fault (r ∷ rows) = if r.stands then Some r.fault else first_fault rows

abbrev pub change_rows : Style → View → Change → List ChangeRow
change_rows style view change =
    let host = host_of_change change in
    let is_in = is_member host.0 view.members in
    change_row (is_unlisted change) (NoFactory host)
    ∷ change_row (joins change && is_in) (MemberAlreadyPresent host)
    ∷ change_row (joins change && nat_le MEMBER_LIMIT (length view.members)) (ObjectNotAdded MEMBER_LIMIT)
    ∷ change_row (is_unmade change) (ObjectNotCreated host)
    ∷ change_row (leads change && not (is_passive style)) BadReplicationStyle
    ∷ change_row (not (joins change) && not is_in) (MemberNotFound host)
    ∷ change_row (leads change && is_led_by view host.0) (PrimaryNotSet host)
    ∷ change_row (nat_le VIEW_LIMIT view.version.0) (ViewsFull VIEW_LIMIT)
    ∷ []

-- ---- the next view

-- a host that joins comes last, and one that leaves is gone
abbrev pub before_spares : Change → List ℕ → List ℕ
before_spares change members =
    let host = (host_of_change change).0 in
    if joins change then members ++ host ∷ [] else (if leaves change then without host members else members)

-- and then the spares
abbrev pub members_then : Change → List ℕ → List ℕ
members_then change members = with_spares (host_of_change change).0 (spares_of change) (before_spares change members)

-- the primary stays while it is a member; else the first member is
abbrev pub kept_or_first : Option HostNo → List ℕ → Option HostNo
kept_or_first None members = first_of members
kept_or_first (Some primary) members = if is_member primary.0 members then Some primary else first_of members

-- an active group has no primary
abbrev pub primary_then : Style → Change → Option HostNo → List ℕ → Option HostNo
primary_then style change primary members =
    if is_passive style then (if leads change then Some (host_of_change change) else kept_or_first primary members)
    else None

abbrev pub next_view : Style → View → Change → View
next_view style view change =
    let members = members_then change view.members in
    record {
      version = version (view.version.0 + 1);
      members = members;
      primary = primary_then style change view.primary members;
    }

-- ---- the whole change

-- the new view is told to the old members, and then to those that have joined
abbrev pub view_sent : View → View → List Out
view_sent old new =
    sent_to old.members (inners.View new.version)
    ++ sent_to (filter (λ m. not (is_member m old.members)) new.members) (inners.View new.version)

abbrev pub with_view : Common → View → Common
with_view c view = record c { views = c.views ++ view ∷ [] }

-- the log writes the new view, unless that fails
abbrev pub changed : Common → Host → View → View → Bool → Turn
changed c h old new fails =
    if fails then unchanged c h (Refused LogFault)
    else record { common = with_view c new; host = h; answer = Changed new (view_sent old new); calls = 0 }

abbrev pub changed_or : Common → Host → Change → Bool → Option ManageFault → Turn
changed_or c h change fails (Some fault) = unchanged c h (Refused fault)
changed_or c h change fails None = changed c h (newest_view c) (next_view c.style (newest_view c) change) fails

-- no host is changed by it, the one that it names included
abbrev pub on_manage : Common → Host → Change → Bool → Turn
on_manage c h change fails = changed_or c h change fails (first_fault (change_rows c.style (newest_view c) change))
