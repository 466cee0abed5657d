use Rattle.std.proofs.Common.{◌+◌, arith, length, ap, ◌∙◌}
use Rattle.ft_base.specs.declared.numbers.GroupId.{GroupId}
use Rattle.script_groups.specs.Groups.{ScriptGroup}
use Rattle.script_world.specs.World.{with_group}
use Rattle.world_management.proofs.MakingLemmas.{made_group_is, made_lines, same_id, same_kept}
use Rattle.world_management.proofs.making.make_group.Goals as goal

pub is_sound-requires : goal.is_sound-requires
is_sound-requires g c =
    ap (λ (x : ScriptGroup). x.poisoned) c.in_ok-stopped_in.ensures.group
    ∙ same_kept 0 c.args.world.now.hosts c.in_ok-group.group
    ∙ ap (λ (x : ScriptGroup). x.poisoned) c.in_ok-group.ensures

pub add_group-requires-clause-numbered : goal.add_group-requires-clause-numbered
add_group-requires-clause-numbered g c =
    ap (λ (x : ScriptGroup). x.id.0) c.in_ok-stopped_in.ensures.group
    ∙ ap (λ (id : GroupId). id.0) (same_id 0 c.args.world.now.hosts c.in_ok-group.group)
    ∙ ap (λ (x : ScriptGroup). x.id.0) c.in_ok-group.ensures
    ∙ ap (λ n. n + 1) c.group_count.ensures.count

pub returns : goal.returns
returns g c = record {
  world = c.in_ok-add_group.ensures
      ∙ ap (λ (x : ScriptGroup). with_group c.args.world.now x c.args.criteria.now)
      (made_group_is c.args.world.now.hosts (length c.args.world.now.groups) c.group_count.result c.args.name c.args.kind c.args.style c.args.members
      c.in_ok-group.group c.stopped_in.new.group c.group_count.ensures.count c.in_ok-group.ensures c.in_ok-stopped_in.ensures.group);
  lines = made_lines (length c.args.world.now.groups) c.group_count.result c.args.name c.args.kind c.args.style c.args.members
      c.in_ok-group.group c.in_ok-report.report c.group_count.ensures.count c.in_ok-group.ensures c.in_ok-report.ensures;
  calls = c.in_ok-stopped_in.ensures.steps ∙ omega arith;
}
