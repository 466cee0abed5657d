use denote.Exit.{no}
use denote.Param.Send.{sendable, param_send, arg_send}
use Rattle.lock_counter.proofs.Sending.{counter_lock, counter_pass, closure_send}
use Rattle.lock_counter.proofs.runs.count_to_six.Goals as goal

pub join-left-requires-send-F : goal.join-left-requires-send-F
join-left-requires-send-F g c κs within = param_send 1 _ (arg_send _ no _ (closure_send _ _ _ _ _ _ _ _ c.type_bounds.sync-R counter_lock counter_pass))

pub join-left-requires-send-A : goal.join-left-requires-send-A
join-left-requires-send-A g c κs within = search (sendable, counter_pass) depth 20
