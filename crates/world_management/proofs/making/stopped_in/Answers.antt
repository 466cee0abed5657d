use Rattle.std.proofs.Common.{◌≡◌, ◌+◌, ◌<◌, ◌≤◌, arith, false, drop, ap, sym, subst, ◌∙◌}
use Rattle.script_groups.specs.Groups.{ScriptGroup}
use Rattle.script_world.specs.World.{is_up}
use Rattle.world_management.specs.Making.{stopped_from}
use Rattle.world_management.proofs.MakingLemmas.{kept_if, stopped_all, stopped_next}
use Rattle.world_management.proofs.making.stopped_in.Goals as goal

pub loop-number-preserved : goal.loop-number-preserved
loop-number-preserved g c =
    let hosts = c.args.world.now.hosts in
    let i = c.loop-number.number in
    let old = c.loop-number.group in
    let inside = subst (λ n. i < n) c.host_count-number-end.ensures.count c.loop-number-test.true in
    let up = is_up c.args.world.now i in
    record {
      group = ap (λ (x : ScriptGroup). stopped_from (i + 1) (drop (i + 1) hosts) x) c.in-Ok.ensures.group
          ∙ sym (stopped_next i hosts old inside) ∙ c.loop-number.invariant.group;
      kept = subst (λ (x : ScriptGroup). x.poisoned ≡ false) (sym c.in-Ok.ensures.group) (kept_if up old i c.loop-number.invariant.kept);
      within = omega (arith, inside);
      steps = c.in-Ok.ensures.steps ∙ c.loop-number.invariant.steps;
    }

pub returns-clause-group : goal.returns-clause-group
returns-clause-group g c =
    sym (stopped_all c.loop-number.number c.args.world.now.hosts c.loop-number.group
    (subst (λ n. n ≤ c.loop-number.number) c.host_count-number-end.ensures.count c.loop-number-test.false)) ∙ c.loop-number.invariant.group
