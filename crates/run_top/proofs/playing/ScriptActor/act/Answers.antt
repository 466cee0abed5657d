use Rattle.fault_script.specs.Forms.{parse}
use Rattle.run_top.proofs.PlayingLemmas.{may_act_next, not_read}
use Rattle.run_top.proofs.playing.ScriptActor.act.Goals as goal

pub returns-clause-acted : goal.returns-clause-acted
returns-clause-acted g c =
    rw c.refusal.ensures (not_read c.args.self.now (parse c.args.text.now) c.in-Err.why c.args.steps.now c.in-Err.ensures.answer)

pub returns-in-Ok-false-clause-next : goal.returns-in-Ok-false-clause-next
returns-in-Ok-false-clause-next g c = λ number may. may_act_next c.args.self.now number may
