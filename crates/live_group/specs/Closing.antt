-- The end of a live run's group: what its history is, and its monitor's turns in it.
use Rattle.std.specs.Prelude.{◌≡◌, ◌≢◌, ◌↔◌, ◌++◌, ℕ, true, List, [], Option}
use Rattle.ft_base.specs.Machine.{Machine}
use Rattle.message_log.specs.Picture.{length_of}
use Rattle.hist_lock.specs.Histories.{Among, calls, turns_by}
use Rattle.group_core.specs.Cores.{CorePicture}
use Rattle.shared_group.specs.Books.{BookPicture, IsBook}
use Rattle.shared_group.specs.Turns.{GroupLock, GroupPass}
use Rattle.live_monitor.specs.declared.states.Kill.{Kill}
use Rattle.live_monitor.specs.Monitored.{Errand, GroupTurn, IsEnough, IsMonitored}

-- The lock was closed by this pass. The history goes on from what the pass had seen; of the passes that it took in none has a
-- turn behind that. Its own turns are a monitor's, who crashed the host that it was to kill exactly where the group has
-- enough entries in the end.
pub record IsClosed (machines : ℕ → Machine) (lock : GroupLock) (pass : GroupPass) (kill : Option Kill) (core : CorePicture) : Type 0 where
  pub history : List GroupTurn
  pub rest : List GroupTurn
  pub seen : history ≡ pass.seen ++ rest
  pub joined : (x : ℕ) → Among x pass.joined → x ≢ pass.number → turns_by x rest ≡ []
  pub book : BookPicture
  pub leads : IsBook machines lock.opening (calls history) book
  pub core_is : book.core ≡ core
  pub errand : Errand
  pub kill_is : errand.kill ≡ kill
  pub monitored : IsMonitored errand (turns_by pass.number history)
  pub exact : (errand.killed ≡ true) ↔ IsEnough kill (length_of core.log)
