use Rattle.std.proofs.Common.{◌≡◌, Some, subst, sym}
use Rattle.script_world.specs.Counting.{GroupList}
use Rattle.script_world.proofs.groups.Groups.push.Goals as goal

pub add_reserved-requires : goal.add_reserved-requires
add_reserved-requires c = (c.args.group.name, subst (λ (v : GroupList). v.next ≡ Some c.args.group.name) (sym c.self.view_is) c.requires.ready)
