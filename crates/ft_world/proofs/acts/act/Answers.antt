use Rattle.world_turns.specs.Answers.{calls_of}
use Rattle.ft_world.specs.Acts.{act_first}
use Rattle.ft_world.proofs.KeptLemmas.{acted_after, kept_after}
use Rattle.ft_world.proofs.acts.act.Goals as goal

pub refuses-requires : goal.refuses-requires
refuses-requires g c =
    kept_after c.args.world.now c.act_first.new.world c.args.line.now c.is_timely.ensures c.in-Ok.report (calls_of (act_first c.args.world.now c.args.line.now)) c.in-Ok.ensures.did.0
    c.requires.kept

pub returns-in-None-clause-kept : goal.returns-in-None-clause-kept
returns-in-None-clause-kept g c =
    kept_after c.args.world.now c.act_first.new.world c.args.line.now c.is_timely.ensures c.in-Ok.report (calls_of (act_first c.args.world.now c.args.line.now)) c.in-Ok.ensures.did.0
    c.requires.kept

pub returns-in-None-clause-acted : goal.returns-in-None-clause-acted
returns-in-None-clause-acted g c = λ lines acted.
    acted_after c.args.world.now c.act_first.new.world c.args.line.now c.is_timely.ensures c.in-Ok.report (calls_of (act_first c.args.world.now c.args.line.now)) c.in-Ok.ensures.did.0
    lines acted
