use Rattle.std.proofs.Common.{◌<◌, length, sym, subst, Some, ◌≡◌}
use Rattle.std.specs.Prelude.{slice_get}
use Rattle.script_groups.specs.Acting.{IsKept}
use Rattle.script_world.specs.World.{World}
use Rattle.script_groups.specs.Lists.{all_get, some_at}
use Rattle.ft_world.proofs.calls.reference_for.Goals as goal

pub group-requires-in-None : goal.group-requires-in-None
group-requires-in-None c =
    let at = some_at c.args.world.now.clients c.args.client c.requires.client in
    subst (λ (w : World). c.args.group < length w.groups) (sym (c.in_ok-reference.ensures at.0 at.1).1) c.requires.group

pub newest_reference-requires-clause-kept : goal.newest_reference-requires-clause-kept
newest_reference-requires-clause-kept c =
    let at = some_at c.args.world.now.clients c.args.client c.requires.client in
    let there = subst (λ (w : World). slice_get w.groups c.args.group ≡ Some c.group-in-None.result.now) (c.in_ok-reference.ensures at.0 at.1).1 c.group-in-None.ensures in
    all_get IsKept c.args.world.now.groups c.args.group c.group-in-None.result.now c.requires.kept there
