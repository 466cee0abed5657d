-- A live run: what the history of its group is, and what its clients were told.
use Rattle.std.specs.Prelude.{◌≡◌, ◌↔◌, ℕ, ◌≤◌, true, List, map, length, slice_get, Option, Some, IfSome, option_map}
use Rattle.std.specs.List.{AllByRecursion, range_with_len}
use Rattle.ft_base.specs.Machine.{Machine}
use Rattle.ft_base.specs.declared.views.TheConstants.{MEMBER_LIMIT}
use Rattle.message_log.specs.Picture.{length_of}
use Rattle.iogr_reference.specs.declared.references.GroupRef.{GroupRef}
use Rattle.iogr_reference.specs.Views.{group_of_view}
use Rattle.hist_lock.specs.Histories.{calls, turns_by}
use Rattle.group_model.specs.Openings.{first_view}
use Rattle.group_model.specs.Plain.{Group}
use Rattle.group_model.specs.declared.events.Out.{Out}
use Rattle.group_core.specs.Cores.{CorePicture, Stands}
use Rattle.client_talk.specs.Talking.{Dialing}
use Rattle.client_calls.specs.declared.answers.Told.{Told}
use Rattle.client_calls.specs.Calls.{HasRisen, IsTold}
use Rattle.shared_group.specs.Books.{NoneShowsFault}
use Rattle.shared_group.specs.Shared.{Legal, opening}
use Rattle.shipped_servants.specs.Kinds.{machine_of_kind, number_of, opening_of, type_id}
use Rattle.shipped_servants.specs.declared.kinds.Kind.TheVariants.{Account}
use Rattle.live_words.specs.declared.asking.LiveWords.{LiveWords}
use Rattle.live_clients.specs.Clients.{all_faults, client_name}
use Rattle.live_hosts.specs.Posts.{HasTurnsOf, Post, Rises}
use Rattle.live_monitor.specs.declared.states.Kill.{Kill}
use Rattle.live_monitor.specs.Monitored.{Errand, GroupTurn, IsEnough, IsMonitored, can_be_killed}
use Rattle.live_net.specs.Callers.{links_at}
use Rattle.live_group.specs.Opening.{first_hosts, live_opening}
use Rattle.live_group.specs.declared.opening.TheConstants.{GROUP}

-- ---- what is asked for

abbrev pub kill_of : LiveWords → Option Kill
kill_of live = option_map (λ host. record { host = host; after = live.after }) live.kill

-- no more hosts than a view can have, and the host that is to be killed is one that there can be
pub record CanRun (live : LiveWords) : Type 0 where
  pub hosts : live.hosts ≤ MEMBER_LIMIT
  pub kill : can_be_killed (kill_of live)

-- the account with which the run begins
abbrev pub account : ℕ → Machine
account = machine_of_kind

abbrev pub opening_account : LiveWords → Group
opening_account live = live_opening live.style (number_of Account) (opening_of Account) live.hosts

abbrev pub type_name : List ℕ
type_name = type_id Account

-- the reference over which a client's first call goes: the first view's, with a port for each host
abbrev pub first_reference : LiveWords → List ℕ → GroupRef
first_reference live ports = group_of_view GROUP type_name (first_view live.style (first_hosts live.hosts)) ports

-- ---- the hosts

-- Each of so many hosts has turns in the history, under a number that no other host has and that isn't the run's. All are
-- requests and looks at this host, with clock 0 and no stop.
pub record AreHostTurns (count : ℕ) (history : List GroupTurn) : Type 0 where
  pub posts : List Post
  pub hosts : map (λ post. post.host) posts ≡ range_with_len 0 count
  pub numbers : Rises 0 (map (λ post. post.pass.number) posts)
  pub turns : AllByRecursion (λ post. HasTurnsOf post history) posts

-- ---- the monitor

-- The run's own turns are a monitor's. They have a crash of the host that is to be killed exactly where the journal is long
-- enough in the end; it stands behind a look that found as many entries.
pub record AreMonitorTurns (kill : Option Kill) (entries : ℕ) (history : List GroupTurn) : Type 0 where
  pub errand : Errand
  pub is : errand.kill ≡ kill
  pub monitored : IsMonitored errand (turns_by 0 history)
  pub exact : (errand.killed ≡ true) ↔ IsEnough kill entries

-- ---- the group

-- From its opening one history leads to the group for which the core stands in the end.
pub record IsGroupRun (live : LiveWords) (core : CorePicture) : Type 0 where
  pub history : List GroupTurn
  pub last : Group
  pub queue : List Out
  pub legal : Legal (account (number_of Account)) (opening (opening_account live)) (calls history) (record { group = last; queue = queue })
  pub stands : Stands account core last
  pub calm : NoneShowsFault (calls history)
  pub hosts : AreHostTurns live.hosts history
  pub monitor : AreMonitorTurns (kill_of live) (length_of core.log) history

-- ---- the clients

-- what a network tells of its callers, and how many of their faults it counted
pub record Network : Type 0 where
  pub callers : Option (List (List (List ℕ)))
  pub broken : ℕ

-- What the client with this number was told, by a caller that had counted no fault. Where the network tells its callers, it is
-- the one at the client's place, with its links.
pub record IsClientTold (live : LiveWords) (reference : GroupRef) (callers : Option (List (List (List ℕ)))) (client : ℕ) (told : Told) : Type 0 where
  pub before : Dialing
  pub after : Dialing
  pub links : IfSome callers (λ told. before.links ≡ links_at (Some told) client)
  pub fresh : before.faults ≡ 0
  pub told_so : IsTold (client_name client) reference live.calls before after told.calls.items

-- So it is of each client, and what all were told of refused dials and failed calls is what the network counted.
pub record AreClientsTold (live : LiveWords) (before after : Network) (tolds : List Told) : Type 0 where
  pub ports : List ℕ
  pub many : length tolds ≡ live.clients
  pub each : (client : ℕ) (told : Told) → slice_get tolds client ≡ Some told → IsClientTold live (first_reference live ports) before.callers client told
  pub faults : HasRisen (all_faults tolds) before.broken after.broken

-- A run that came to its end.
pub record IsRun (live : LiveWords) (before after : Network) (tolds : List Told) (core : CorePicture) : Type 0 where
  pub group : IsGroupRun live core
  pub clients : AreClientsTold live before after tolds
