use Rattle.script_world.specs.Standing.{world_of}
use Rattle.script_world.proofs.SoundLemmas.{sound_powered, sound_partly}
use Rattle.script_world.proofs.worlds.World.set_power.Goals as goal

pub invariant_of-self : goal.invariant_of-self
invariant_of-self g c = (
  sound_powered (world_of c.self.inside) c.args.up c.args.host c.set_host.new.hosts.items c.power.new.self.items c.args.host.0
      c.groups_go_on.ensures.sound c.groups_go_on.ensures.last
      c.requires.host c.set_host.ensures c.in-Ok.ensures.acted c.self.invariant.0,
  c.self.invariant.1,
)

pub invariant_of-self-in-Err : goal.invariant_of-self-in-Err
invariant_of-self-in-Err g c =
    (sound_partly (world_of c.self.inside) c.args.up c.args.host c.power.new.self.items c.groups_go_on.ensures.sound c.groups_go_on.ensures.last c.requires.host c.in-Err.ensures.partly c.self.invariant.0, c.self.invariant.1)
