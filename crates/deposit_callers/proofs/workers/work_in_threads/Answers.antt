use denote.Exit.{no}
use denote.Param.Send.{param_send, arg_send, param_sync, arg_sync}
use Rattle.std.proofs.Crossing as crossing
use Rattle.shared_group.specs.Sending.{group_sync}
use Rattle.deposit_callers.proofs.Sending.{worker_send, closure_sync}
use Rattle.deposit_callers.proofs.workers.work_in_threads.Goals as goal

pub map_vec-requires-send-J : goal.map_vec-requires-send-J
map_vec-requires-send-J g c κs within = param_send 1 _ (arg_send _ no _ (worker_send _ _ g.S.Servant g.K.Keeper c.type_bounds.send-S c.type_bounds.send-K))

pub map_vec-requires-send-X : goal.map_vec-requires-send-X
map_vec-requires-send-X g c κs within = param_send 2 _ (arg_send _ no _ (worker_send _ _ g.S.Servant g.K.Keeper c.type_bounds.send-S c.type_bounds.send-K))

pub map_vec-requires-sync-F : goal.map_vec-requires-sync-F
map_vec-requires-sync-F g c κs within =
    param_sync 4 _ (arg_sync _ no _ (closure_sync _ _ _ _ _ _ _ _ c.type_bounds.sync-R
    (group_sync _ _ _ _ c.type_bounds.send-S c.type_bounds.send-K) crossing.sync))
