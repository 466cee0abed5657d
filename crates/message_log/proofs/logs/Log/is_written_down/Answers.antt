use Rattle.message_log.proofs.logs.Log.is_written_down.Goals as goal

pub returns : goal.returns
returns g c = rw (← c.self.view_is) c.self.invariant.2
