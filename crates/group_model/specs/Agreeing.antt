-- What holds of every group, and which events may come to it.
use Rattle.std.specs.Prelude.{◌≡◌, ℕ, ◌+◌, ◌<◌, ◌≤◌, ◌^◌, true, false, List, [], ◌∷◌, length, slice_get, Option, Some, None, if◌then◌else◌}
use Rattle.std.specs.List.{AllByRecursion}
use Rattle.ft_base.specs.Machine.{Machine}
use Rattle.ft_base.specs.Journal.{Entry, AllFit, IsJournal}
use Rattle.ft_base.specs.Views.{IsView}
use Rattle.ft_base.specs.declared.limits.TheConstants.{ARGUMENTS_LIMIT, HOST_LIMIT, JOURNAL_LIMIT, VIEW_LIMIT}
use Rattle.ft_base.specs.declared.numbers.HostNo.{HostNo}
use Rattle.ft_base.specs.declared.requests.Request.{Request}
use Rattle.ft_base.specs.declared.views.Style.{Style}
use Rattle.ft_base.specs.declared.views.Style.TheVariants.{Warm, Active}
use Rattle.ft_base.specs.declared.views.View.{View}
use Rattle.group_model.specs.declared.asking.Asked.{Asked}
use Rattle.group_model.specs.declared.events.Event.{Event}
use Rattle.group_model.specs.declared.events.Event.TheVariants as events
use Rattle.group_model.specs.Plain.{Common, Host, Group, blank, state_at, delta_at}
use Rattle.ft_base.specs.Views.{is_passive}
use Rattle.group_model.specs.Views.{AreKept, MayKnow, StillHas, host_no, newest_view}
use Rattle.group_model.specs.Changes.{spares_of}
use Rattle.group_model.specs.Events.{host_of}

-- ---- sound groups

-- the k-th view has version k, and is a view of the group's style with hosts that there can be
pub record IsViewAt (style : Style) (k : ℕ) (view : View) : Type 0 where
  pub numbered : view.version.0 ≡ k + 1
  pub is : IsView style view
  pub hosts : AllByRecursion (λ host. host < HOST_LIMIT) view.members

pub record AreViews (style : Style) (views : List View) : Type 0 where
  pub some : 0 < length views
  pub few : length views ≤ VIEW_LIMIT
  pub each : (k : ℕ) (view : View) → slice_get views k ≡ Some view → IsViewAt style k view

-- every request of the journal may be run, and its arguments aren't too long
pub record IsLogged (m : Machine) (time : ℕ) (journal : List Entry) : Type 0 where
  pub few : length journal ≤ JOURNAL_LIMIT
  pub so : IsJournal time journal
  pub fit : AllFit m journal
  pub short : AllByRecursion (λ entry. length entry.request.args ≤ ARGUMENTS_LIMIT) journal

-- the checkpoint covers what has run, and what has run is in the journal
pub record AreNumbers (c : Common) : Type 0 where
  pub mark : c.mark ≤ c.ran
  pub ran : c.ran ≤ length c.journal
  pub fresh : c.taken ≡ false → c.mark ≡ 0

pub record IsSoundCommon (m : Machine) (c : Common) : Type 0 where
  pub opens : m.is_state c.opening ≡ true
  pub views : AreViews c.style c.views
  pub kept : AreKept c.first_kept c.views
  pub journal : IsLogged m c.time c.journal
  pub numbers : AreNumbers c

-- a host has run no more than has run, and holds back only what is to come of that; one that is down is blank
pub record IsSoundHost (c : Common) (h : Host) : Type 0 where
  pub known : MayKnow c h.known
  pub base : h.place.base ≤ h.place.position
  pub position : h.place.position ≤ c.ran
  pub unloaded : h.place.loaded ≡ false → (h.place.position ≡ 0) × (h.holdback ≡ [])
  pub held : AllByRecursion (λ i. (h.place.position ≤ i) × (i < c.ran)) h.holdback
  pub passive : is_passive c.style ≡ true → h.holdback ≡ []
  pub down : h.up ≡ false → h ≡ blank false

pub record IsSound (m : Machine) (g : Group) : Type 0 where
  pub common : IsSoundCommon m g.common
  pub hosts : (i : ℕ) → IsSoundHost g.common (g.hosts i)

-- ---- events that agree

-- the host whose part it is to take checkpoints and to send updates: the newest view's primary, which may be down; in an
-- active group the first member that is up
abbrev pub first_up : (ℕ → Host) → List ℕ → Option HostNo
first_up hosts [] = None
first_up hosts (m ∷ members) = if (hosts m).up then Some (host_no m) else first_up hosts members

abbrev pub taking_host : Group → Option HostNo
taking_host g = if is_passive g.common.style then (newest_view g.common).primary else first_up g.hosts (newest_view g.common).members

-- the request is the journal's at that place, and some host has run it
pub record IsOrdered (c : Common) (i : ℕ) (request : Request) : Type 0 where
  pub ran : i < c.ran
  pub entry : Entry
  pub there : slice_get c.journal i ≡ Some entry
  pub same : entry.request ≡ request

-- a body of octets, whose places fit an unsigned long
pub record IsShortAsked (asked : Asked) : Type 0 where
  pub octets : AllByRecursion (λ b. b < 256) asked.body.bytes
  pub aligned : asked.body.align < 8
  pub short : asked.body.align + length asked.body.bytes + 8 < 2 ^ 32

-- what an event brings is what a member of this group has sent or may ask
abbrev pub IsBrought : Machine → Group → Event → Type 0
IsBrought m g (events.Request host clock asked stop) = IsShortAsked asked
IsBrought m g (events.View host sent) = StillHas g.common sent.0
IsBrought m g (events.State host n state) = (g.common.style ≡ Warm) × (n ≤ g.common.ran) × (state ≡ state_at m g.common n)
IsBrought m g (events.Update host from to update) =
    (g.common.style ≡ Warm) × (from ≤ to) × (to ≤ g.common.ran) × (update ≡ delta_at m g.common from to)
IsBrought m g (events.Order host i request) = (g.common.style ≡ Active) × IsOrdered g.common i request
IsBrought m g (events.Crash host) = Unit {0}
IsBrought m g (events.Restart host) = Unit {0}
IsBrought m g (events.Checkpoint host clock) = taking_host g ≡ Some host
IsBrought m g (events.SendUpdate host) = (g.common.style ≡ Warm) × (taking_host g ≡ Some host)
IsBrought m g (events.Manage change) = AllByRecursion (λ spare. spare < HOST_LIMIT) (spares_of change)

pub record Agrees (m : Machine) (e : Event) (g : Group) : Type 0 where
  pub host : host_of e < HOST_LIMIT
  pub brought : IsBrought m g e
