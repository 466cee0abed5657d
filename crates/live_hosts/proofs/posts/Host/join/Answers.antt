use denote.Exit.{no}
use denote.Param.Send.{arg_send, param_send}
use Rattle.shared_group.specs.Sending.{pass_crosses}
use Rattle.live_hosts.proofs.Sending.{job_send}
use Rattle.live_hosts.proofs.posts.Host.join.Goals as goal

pub join-requires-send-J : goal.join-requires-send-J
join-requires-send-J g c κs within =
    param_send 0 _ (arg_send _ no _ (job_send _ _ _ _ _ g.S.Servant g.K.Keeper c.type_bounds.send-R c.type_bounds.send-S c.type_bounds.send-K c.type_bounds.send-L c.type_bounds.send-A))

pub join-requires-send-J-Gives : goal.join-requires-send-J-Gives
join-requires-send-J-Gives g c κs within =
    param_send 1 _ (arg_send _ no _ (pass_crosses _ _ g.S.Servant g.K.Keeper c.type_bounds.send-S c.type_bounds.send-K))
