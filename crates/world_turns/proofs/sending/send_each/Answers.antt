use Rattle.std.proofs.Common.{◌≡◌, ◌∷◌, ◌++◌, List, [], ap, sym, subst, ◌∙◌}
use Rattle.std.specs.List.{AllByRecursion}
use Rattle.group_model.specs.declared.events.Out.{Out}
use Rattle.script_world.specs.Sound.{IsOnItsWay}
use Rattle.script_world.specs.World.{carried}
use Rattle.world_turns.proofs.SendingLemmas.{join, lines_more, no_lines, none_sent, world_more}
use Rattle.world_turns.proofs.sending.send_each.Goals as goal

pub loop-out-init : goal.loop-out-init
loop-out-init c =
    let whole : c.into_iter-out-iterator.result.rest.items ≡ c.args.outs = search in
    record {
      whole = whole;
      world = sym (none_sent c.args.world.now);
      report = no_lines c.args.report.now _ c.args.name.now c.args.from;
      left = subst (AllByRecursion (λ out. IsOnItsWay c.args.world.now.groups (carried c.args.group out))) (sym whole) c.requires;
    }

pub loop-out-preserved : goal.loop-out-preserved
loop-out-preserved c =
    let done = c.loop-out.yielded in
    let e = c.in-Some.out in
    let rest = c.next.new.self.rest.items in
    let are = sym c.in-Some.ensures.steps.0 in
    let left = subst (AllByRecursion (λ out. IsOnItsWay c.args.world.now.groups (carried c.args.group out))) (sym are) c.loop-out.invariant.left in
    record {
      whole = join done (e ∷ []) rest ∙ ap (λ (es : List Out). done ++ es) are ∙ c.loop-out.invariant.whole;
      world = world_more c.args.world.now c.loop-out.world c.send_out.new.world c.args.group done e c.loop-out.invariant.world c.in_ok-send_out.ensures.world;
      report = lines_more c.args.world.now c.loop-out.world c.send_out.new.world c.args.group done e c.loop-out.invariant.world
          c.args.name.now c.args.from c.args.report.now c.loop-out.report c.send_out.new.report c.loop-out.invariant.report c.in_ok-send_out.ensures.report;
      left = left.1;
    }
