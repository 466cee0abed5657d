use Rattle.std.proofs.Common.{◌-◌, ◌<◌, ◌≤◌, subst}
use Rattle.script_world.proofs.Places.{less_one, numbered_here, numbered_none}
use Rattle.script_world.proofs.worlds.World.numbered_place.Goals as goal

pub returns-then-place-group_count : goal.returns-then-place-group_count
returns-then-place-group_count c =
    numbered_here c.args.self.now.groups c.args.group.0 (c.args.group.0 - 1) (less_one c.args.group.0 c.if-group-eq0.false)
    (subst (λ n. c.args.group.0 - 1 < n) c.group_count.ensures.count c.if-place-group_count.true)

pub returns-else-place-group_count : goal.returns-else-place-group_count
returns-else-place-group_count c =
    numbered_none c.args.self.now.groups c.args.group.0 (c.args.group.0 - 1) (less_one c.args.group.0 c.if-group-eq0.false)
    (subst (λ n. n ≤ c.args.group.0 - 1) c.group_count.ensures.count c.if-place-group_count.false)
