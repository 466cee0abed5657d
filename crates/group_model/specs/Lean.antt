-- What want of memory may leave of an event that it ended: all is as it was; or a part was done of a host's catch-up or of
-- the orders that it holds; or a request has joined the journal, and its host is blank.
use Rattle.std.specs.Prelude.{◌≡◌, ℕ, ◌≤◌, ◌⊎◌, max, true, length, None, Ok}
use Rattle.ft_base.specs.Machine.{Machine}
use Rattle.ft_base.specs.Admissions.{admission}
use Rattle.ft_base.specs.declared.admissions.Admission.TheVariants.{New}
use Rattle.ft_base.specs.declared.decisions.Stop.{Stop}
use Rattle.ft_base.specs.declared.decisions.Stop.TheVariants.{Never, AfterAppend, AfterExecute}
use Rattle.ft_base.specs.declared.numbers.HostNo.{HostNo}
use Rattle.ft_base.specs.declared.requests.Request.{Request}
use Rattle.group_model.specs.declared.asking.Asked.{Asked}
use Rattle.group_model.specs.declared.events.Event.{Event}
use Rattle.group_model.specs.declared.events.Event.TheVariants as events
use Rattle.group_model.specs.Plain.{Common, Host, Group, from, with_number, reach, start_of, caught_up_to, blank, put, with_ran}
use Rattle.group_model.specs.Decisions.{request_in, known_then}
use Rattle.group_model.specs.Serving.{joined}
use Rattle.group_model.specs.Events.{host_of}
use Rattle.group_model.specs.Views.{newest}

-- ---- a part was done

-- No row before the journal's refuses what is asked of the host, and it is this request. So the host catches up.
pub record Passes (m : Machine) (g : Group) (host : HostNo) (asked : Asked) (request : Request) : Type 0 where
  pub good : asked.bad_context ≡ None
  pub is : request_in m g.common host.0 (known_then (newest g.common) (g.hosts host.0).known asked.version) asked ≡ Ok request

-- The host is as it was but for what it knows; or it has run on from where its catch-up begins, to a position that is no
-- further than the journal's end.
pub record IsOnTheWay (c : Common) (h : Host) (raised : ℕ) (left : Host) : Type 0 where
  pub known : ℕ
  pub knows : (known ≡ h.known) ⊎ (known ≡ raised)
  pub come : (left ≡ record h { known = known })
      ⊎ ((n : ℕ) × ((start_of c h.place).position ≤ n) × (n ≤ length c.journal) × (left ≡ caught_up_to c (record h { known = known }) n))

-- The host was sent an order that it had not run. It has run on over orders that it holds, no further than that order lets
-- it, and holds back the others, with or without that order.
pub record IsOnItsOrders (h : Host) (i : ℕ) (left : Host) : Type 0 where
  pub loaded : h.place.loaded ≡ true
  pub to_come : h.place.position ≤ i
  pub position : ℕ
  pub first : h.place.position ≤ position
  pub last : position ≤ reach (with_number i h.holdback) h.place.position
  pub is : (left ≡ record h { place = record h.place { position = position }; holdback = from position h.holdback })
      ⊎ (left ≡ record h { place = record h.place { position = position }; holdback = from position (with_number i h.holdback) })

-- only an event that has its host catch up, and an order, may leave a part of their work
abbrev pub LeavesPart : Machine → Group → Event → Host → Type 0
LeavesPart m g (events.Request host clock asked stop) left =
    ((request : Request) × Passes m g host asked request)
    × IsOnTheWay g.common (g.hosts host.0) (known_then (newest g.common) (g.hosts host.0).known asked.version) left
LeavesPart m g (events.View host sent) left = ⊥
LeavesPart m g (events.State host position state) left = ⊥
LeavesPart m g (events.Update host begin end update) left = ⊥
LeavesPart m g (events.Order host i request) left = IsOnItsOrders (g.hosts host.0) i left
LeavesPart m g (events.Crash host) left = ⊥
LeavesPart m g (events.Restart host) left = ⊥
LeavesPart m g (events.Checkpoint host clock) left = IsOnTheWay g.common (g.hosts host.0) (newest g.common) left
LeavesPart m g (events.SendUpdate host) left = IsOnTheWay g.common (g.hosts host.0) (newest g.common) left
LeavesPart m g (events.Manage change) left = ⊥

-- what its host has run counts as run
pub record IsPartly (m : Machine) (g : Group) (e : Event) (g' : Group) : Type 0 where
  pub up : (g.hosts (host_of e)).up ≡ true
  pub host : Host
  pub part : LeavesPart m g e host
  pub is : g' ≡ record { common = with_ran host.place.position g.common; hosts = put g.hosts (host_of e) host }

-- ---- a request joined

-- the host doesn't stop before it runs the entry
abbrev pub IsToRun : Stop → Type 0
IsToRun Never = Unit {0}
IsToRun AfterAppend = ⊥
IsToRun AfterExecute = Unit {0}

-- the event is this request by this clock, which passes, and which its host is to run
abbrev pub Asks : Machine → Group → Event → ℕ → Request → Type 0
Asks m g (events.Request host at asked stop) clock request = (at.0 ≡ clock) × IsToRun stop × Passes m g host asked request
Asks m g (events.View host sent) clock request = ⊥
Asks m g (events.State host position state) clock request = ⊥
Asks m g (events.Update host begin end update) clock request = ⊥
Asks m g (events.Order host i q) clock request = ⊥
Asks m g (events.Crash host) clock request = ⊥
Asks m g (events.Restart host) clock request = ⊥
Asks m g (events.Checkpoint host at) clock request = ⊥
Asks m g (events.SendUpdate host) clock request = ⊥
Asks m g (events.Manage change) clock request = ⊥

-- The request came to a host that is up, was new and joined the journal; and there was no memory to run it, or for the
-- copy of its outcome.
pub record IsUnrun (m : Machine) (g : Group) (e : Event) (g' : Group) : Type 0 where
  pub up : (g.hosts (host_of e)).up ≡ true
  pub clock : ℕ
  pub request : Request
  pub new : admission g.common.journal (max clock g.common.time) request ≡ New
  pub asks : Asks m g e clock request
  pub is : g' ≡ record {
    common = record (joined g.common (max clock g.common.time) request) { ran = length g.common.journal };
    hosts = put g.hosts (host_of e) (blank true);
  }

-- ---- what want of memory may leave

pub data IsLean (m : Machine) (g : Group) (e : Event) (g' : Group) : Type 0 where
  nothing : g' ≡ g → IsLean m g e g'
  partly : IsPartly m g e g' → IsLean m g e g'
  unrun : IsUnrun m g e g' → IsLean m g e g'
