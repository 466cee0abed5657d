use Rattle.std.proofs.Common.{subst, sym}
use Rattle.ft_world.specs.Acts.{act}
use Rattle.world_turns.specs.Answers.{DidNot}
use Rattle.script_world.specs.Sound.{HasActed}
use Rattle.script_world.specs.World.{World}
use Rattle.run_top.proofs.PlayingLemmas.{not_acted}
use Rattle.run_top.proofs.playing.Script.play.Goals as goal

pub returns-in-Err-clause-acted : goal.returns-in-Err-clause-acted
returns-in-Err-clause-acted g c =
    rw c.refusal.ensures (not_acted (act c.args.self.now c.args.line.now) c.in-Err.why c.act.new.world c.args.steps.now c.act.new.steps
    (subst (λ (w : World). DidNot (act w c.args.line.now) c.in-Err.why c.args.steps.now c.act.new.steps) c.self.view_is c.in-Err.ensures.did))

pub returns-clause-next : goal.returns-clause-next
returns-clause-next g c = λ number may. record {
  kept = c.in-Ok.ensures.kept;
  acted = c.in-Ok.ensures.acted number (subst (λ (w : World). HasActed w number) (sym c.self.view_is) may.acted);
}
