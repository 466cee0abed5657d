use Rattle.std.proofs.Common.{◌<◌, arith, refl, sym, subst, ◌∙◌}
use Rattle.ft_base.specs.declared.limits.TheConstants.{HOST_LIMIT}
use Rattle.ft_base.specs.declared.numbers.GroupId.{GroupId}
use Rattle.ft_base.specs.declared.numbers.HostNo.{HostNo}
use Rattle.world_turns.specs.Answers.{HasDone}
use Rattle.world_turns.specs.Turns.{Effect}
use Rattle.ft_world.proofs.ArriveLemmas.{asker_is, nobody_asks, request_done, short_request}
use Rattle.ft_world.specs.Requests.{CanBeSaid}
use Rattle.script_groups.specs.Lists.{some_at}
use Rattle.ft_world.proofs.deliveries.arrive_at.Goals as goal

pub returns-in_default : goal.returns-in_default
returns-in_default g c = λ group there.
    let w = c.args.world.now in
    let nobody = nobody_asks w c.args.number c.args.arrival c.args.stop c.args.place group
    (sym (c.in_ok-asker.ensures group there) ∙ c.in_default.is) in
    subst (λ (e : Effect). HasDone e c.new.result w c.args.steps.now c.args.steps.now) (sym nobody)
    (record { world = refl; lines = c.new.ensures; calls = omega arith })

pub answered-requires : goal.answered-requires
answered-requires g c =
    let at = some_at c.args.world.now.groups c.args.place c.requires.within in
    let group = at.0 in
    let whose = asker_is c.args.world.now c.args.number c.args.arrival c.args.stop c.args.place group c.in-Some.asker
    (sym (c.in_ok-asker.ensures group at.1) ∙ c.in-Some.is) in
    record {
      kept = c.in-Ok.ensures.kept;
      host = subst (λ (h : HostNo). h.0 < HOST_LIMIT) (sym whose.0) c.requires.host;
      can = subst (λ (id : GroupId). CanBeSaid c.ask.new.world.groups id c.in-Ok.said) (sym whose.1) (c.in-Ok.ensures.can group at.1);
    }

pub returns-in-Err : goal.returns-in-Err
returns-in-Err g c = λ group there.
    short_request c.args.world.now c.args.number c.args.arrival c.args.stop c.args.place group c.in-Some.asker
    (sym (c.in_ok-asker.ensures group there) ∙ c.in-Some.is) c.args.steps.now c.ask.new.steps (c.in-Err.ensures.asks group there)

pub returns-in-Ok : goal.returns-in-Ok
returns-in-Ok g c = λ group there.
    request_done c.args.world.now c.args.number c.args.arrival c.args.stop c.args.place group c.in-Some.asker
    (sym (c.in_ok-asker.ensures group there) ∙ c.in-Some.is) c.in-Ok.said c.ask.new.world c.answered.new.world c.args.steps.now c.ask.new.steps c.answered.new.steps
    (c.in-Ok.ensures.asks group there) c.answered.result c.answered.ensures
