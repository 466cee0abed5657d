use Rattle.std.proofs.Common.{◌+◌, ap}
use Rattle.script_world.specs.Standing.{world_of}
use Rattle.script_world.proofs.SoundLemmas.{sound_passed}
use Rattle.script_world.proofs.worlds.World.pass.Goals as goal

pub invariant_of-self : goal.invariant_of-self
invariant_of-self c = (
  sound_passed (world_of c.self.inside) c.args.ticks (c.self.inside.clock + c.from.result) c.raise.new.hosts.items
      (ap (λ n. c.self.inside.clock + n) c.from.ensures) c.raise.ensures c.self.invariant.0,
  c.self.invariant.1,
)
