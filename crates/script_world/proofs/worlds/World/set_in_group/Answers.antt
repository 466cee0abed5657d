use Rattle.std.proofs.Common.{rules, ◌≡◌, Some}
use Rattle.std.specs.Prelude.{slice_get}
use Rattle.property_manager.specs.Groups.{IsSetFor, group_of}
use Rattle.script_world.specs.Standing.{world_of}
use Rattle.script_world.proofs.SoundLemmas.{sound_set_for}
use Rattle.script_world.proofs.worlds.World.set_in_group.Goals as goal

pub invariant_of-self : goal.invariant_of-self
invariant_of-self c =
    let w = world_of c.self.inside in
    let there : slice_get w.groups c.args.place ≡ Some c.group.result.now = search rules in
    let set : IsSetFor c.group.result.now.id c.args.properties.now (group_of w.settings.groups c.group.result.now.id.0) w.settings c.set_properties_dynamically.result c.set_properties_dynamically.new.self = search rules in (
      sound_set_for w c.args.place c.group.result.now c.args.properties.now c.set_properties_dynamically.result c.set_properties_dynamically.new.self
          there set c.self.invariant.0,
      c.self.invariant.1,
    )
