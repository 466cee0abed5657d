use denote.Exit.{no}
use denote.Param.Send.{sendable, param_sync, arg_sync}
use Rattle.lock_counter.proofs.Sending.{counter_lock, counter_pass, closure_sync, number_sync}
use Rattle.lock_counter.proofs.runs.count_in_threads.Goals as goal

pub map_vec-requires-send-J : goal.map_vec-requires-send-J
map_vec-requires-send-J g c κs within = search (sendable, counter_pass) depth 20

pub map_vec-requires-send-X : goal.map_vec-requires-send-X
map_vec-requires-send-X g c κs within = search (sendable, counter_pass) depth 20

pub map_vec-requires-sync-F : goal.map_vec-requires-sync-F
map_vec-requires-sync-F g c κs within = param_sync 4 _ (arg_sync _ no _ (closure_sync _ _ _ _ _ _ _ _ c.type_bounds.sync-R counter_lock number_sync))
