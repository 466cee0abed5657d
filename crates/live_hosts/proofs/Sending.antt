-- A host's job may go to another thread where its parts may.
use denote.RattleType.{RattleType}
use denote.Param.Send.{IsSend, sendable}
use Rattle.std.proofs.Crossing.{crosses, Arc-send}
use Rattle.std.specs.contracts.sync.Arc as Arc
use Rattle.std.specs.contracts.alloc.Global as Heap
use Rattle.std.specs.contracts.impls.GlobalAllocator.TheImpl.{ghosts as heap_ghosts}
use Rattle.ft_base.specs.declared.servants.Servant.{Ghosts as ServantGhosts}
use Rattle.ft_outside.specs.declared.keepers.Keeper.{Ghosts as KeeperGhosts}
use Rattle.shared_group.specs.Sending.{group_send, group_sync, pass_crosses}
use Rattle.shared_group.specs.contracts.groups.SharedGroup as groups
use Rattle.live_hosts.specs.contracts.jobs.HostJob as jobs

module _ (S K : RattleType) (s : ServantGhosts S.Denot) (k : KeeperGhosts K.Denot) (a : IsSend S) (b : IsSend K) where
  group_arc : IsSend (Arc.the_row (groups.the_row S K s k) Heap.the_row heap_ghosts)
  group_arc = Arc-send (groups.the_row S K s k) (group_send S K s k a b) (group_sync S K s k a b)

pub job_send : (R S K L A : RattleType) (s : ServantGhosts S.Denot) (k : KeeperGhosts K.Denot) → IsSend R → IsSend S → IsSend K → IsSend L → IsSend A → IsSend (jobs.the_row R S K L A s k)
job_send R S K L A s k r a b l d = search (sendable, crosses, pass_crosses, group_arc) depth 20
