-- What a run has before its first thread starts, and once all have ended.
use Rattle.std.specs.Prelude.{◌≡◌, ℕ, ◌<◌, [], Some, List, length, map}
use Rattle.std.specs.Arc.{arc_value}
use Rattle.std.specs.List.{AllByRecursion, range_with_len}
use Rattle.ft_base.specs.declared.limits.TheConstants.{HOST_LIMIT}
use Rattle.hist_lock.specs.Passes.{IsOf, first_pass, own_turns}
use Rattle.group_core.specs.Cores.{Stands}
use Rattle.group_model.specs.Openings.{first_view}
use Rattle.shared_group.specs.Turns.{GroupPass, SharedValue}
use Rattle.live_words.specs.declared.asking.LiveWords.{LiveWords}
use Rattle.live_hosts.specs.Posts.{HasEnded, Post, Rises}
use Rattle.live_monitor.specs.Monitored.{Errand, IsMonitored}
use Rattle.live_group.specs.Opening.{first_hosts}
use Rattle.live_run.specs.declared.stations.Setup.{Setup}
use Rattle.live_run.specs.Runs.{account, kill_of, opening_account, type_name}

-- the account is open behind its lock, over a log of which no write fails, and nobody has had a turn
pub record IsOpen (live : LiveWords) (group : SharedValue) (main : GroupPass) : Type 0 where
  pub stands : Stands account group.lock.opening.core (opening_account live)
  pub calm : group.lock.opening.core.log.plan ≡ Some []
  pub name : group.type_id ≡ type_name
  pub first : main ≡ first_pass group.lock

-- a door for each host, a caller and a flag for each client, and the group
pub record IsReady {A D : Type 0} (live : LiveWords) (setup : Setup A D) : Type 0 where
  pub live_is : setup.live ≡ live
  pub doors : length setup.station.doors.items ≡ live.hosts
  pub callers : length setup.station.callers.items ≡ live.clients
  pub flags : length setup.station.flags.items ≡ live.clients
  pub ports : length setup.station.ports ≡ HOST_LIMIT
  pub view : setup.opened.view ≡ first_view live.style (first_hosts live.hosts)
  pub hosts : AllByRecursion (λ host. host < HOST_LIMIT) setup.opened.view.members
  pub group : IsOpen live (arc_value setup.opened.group) setup.opened.main

-- So many hosts have ended, and the run's pass has taken theirs in.
pub record HaveServed (count : ℕ) (main : GroupPass) : Type 0 where
  pub posts : List Post
  pub hosts : map (λ post. post.host) posts ≡ range_with_len 0 count
  pub numbers : Rises 0 (map (λ post. post.pass.number) posts)
  pub ended : AllByRecursion (λ post. HasEnded post main) posts

-- The run's pass has had the turns of its monitor.
pub record HasWatched (live : LiveWords) (errand : Errand) (group : SharedValue) (main : GroupPass) : Type 0 where
  pub own : IsOf group.lock main
  pub number : main.number ≡ 0
  pub kill : errand.kill ≡ kill_of live
  pub monitored : IsMonitored errand (own_turns main)
