use denote.Exit.{no}
use denote.Param.Send.{param_sync, arg_sync}
use Rattle.std.proofs.Crossing as crossing
use Rattle.bench_live.proofs.Sending.{mutex_sync, closure_sync, number_sync}
use Rattle.bench_live.proofs.mutexes.deposit_in_threads.Goals as goal

pub map_indices-requires-sync-F : goal.map_indices-requires-sync-F
map_indices-requires-sync-F g c κs within =
    param_sync 3 _ (arg_sync _ no _ (closure_sync _ _ _ _ _ _ _ _ _ c.type_bounds.sync-R
    (mutex_sync _ _ g.S.Servant g.K.Keeper c.type_bounds.send-S c.type_bounds.send-K) crossing.sync number_sync))
