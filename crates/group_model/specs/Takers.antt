-- Who takes a group's checkpoints and sends its updates, and which hosts are here for its clients. (Chapter 23, "Logging
-- and Recovery Management".)
use Rattle.std.specs.Prelude.{◌≡◌, ℕ, ◌<◌, ◌&&◌, Bool, true, nat_lt, if◌then◌else◌, Option, Some, None}
use Rattle.ft_base.specs.Machine.{Machine}
use Rattle.ft_base.specs.Members.{is_member}
use Rattle.ft_base.specs.declared.limits.TheConstants.{HOST_LIMIT}
use Rattle.ft_base.specs.declared.numbers.HostNo.{HostNo}
use Rattle.ft_base.specs.declared.numbers.Tick.{Tick}
use Rattle.group_model.specs.declared.events.Event.{Event}
use Rattle.group_model.specs.declared.events.Event.TheVariants as events
use Rattle.group_model.specs.Plain.{Common, Group}
use Rattle.group_model.specs.Views.{is_warm, view_at}
use Rattle.group_model.specs.Agreeing.{Agrees, IsSound, taking_host}

-- this host, where it is up
abbrev pub if_host_up : Group → Option HostNo → Option HostNo
if_host_up g None = None
if_host_up g (Some host) = if (g.hosts host.0).up then Some host else None

-- the host that takes a checkpoint now: none where the one whose part it is is down
abbrev pub taker : Group → Option HostNo
taker g = if_host_up g (taking_host g)

-- the host that sends an update now: the same, in warm groups alone
abbrev pub updater : Group → Option HostNo
updater g = if is_warm g.common.style then taker g else None

-- a member of the view of this version, where there is one
abbrev pub is_member_of : Common → ℕ → ℕ → Bool
is_member_of c version host = nat_lt 0 version && is_member host (view_at c.views version).members

-- the host is up, and a member of the view that it knows
abbrev pub is_here : Group → ℕ → Bool
is_here g host = (g.hosts host).up && is_member_of g.common (g.hosts host).known host

-- ---- who takes one may take it

-- the host whose part it is is one that there can be
abbrev pub TakersAreInside : Type 0
TakersAreInside = (m : Machine) (g : Group) (host : HostNo) → IsSound m g → taking_host g ≡ Some host → host.0 < HOST_LIMIT

-- the host that takes a checkpoint now is up, and the event agrees; so it is of one that sends an update
pub record IsTaker (m : Machine) (g : Group) (host : HostNo) (e : Event) : Type 0 where
  pub up : (g.hosts host.0).up ≡ true
  pub agrees : Agrees m e g

abbrev pub TakersMayTake : Type 0
TakersMayTake = (m : Machine) (g : Group) (host : HostNo) (clock : Tick) → IsSound m g → taker g ≡ Some host → IsTaker m g host (events.Checkpoint host clock)

abbrev pub UpdatersMaySend : Type 0
UpdatersMaySend = (m : Machine) (g : Group) (host : HostNo) → IsSound m g → updater g ≡ Some host → IsTaker m g host (events.SendUpdate host)
