use denote.Exit.{no}
use denote.Param.Send.{arg_send, param_send}
use Rattle.shared_group.specs.Sending.{pass_crosses}
use Rattle.live_hosts.proofs.Sending.{job_send}
use Rattle.live_hosts.proofs.starts.start_host.Goals as goal

pub start-requires-send-J : goal.start-requires-send-J
start-requires-send-J g c κs within =
    param_send 1 _ (arg_send _ no _ (job_send _ _ _ _ _ g.S.Servant g.K.Keeper c.type_bounds.send-R c.type_bounds.send-S c.type_bounds.send-K c.type_bounds.send-L c.type_bounds.send-A))

pub start-requires-send-J-Gives : goal.start-requires-send-J-Gives
start-requires-send-J-Gives g c κs within =
    param_send 2 _ (arg_send _ no _ (pass_crosses _ _ g.S.Servant g.K.Keeper c.type_bounds.send-S c.type_bounds.send-K))
