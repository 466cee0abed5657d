use Rattle.std.proofs.Common.{rules, ◌≡◌, ◌+◌, ◌<◌, ◌++◌, ◌∷◌, [], length, sym, subst}
use Rattle.script_world.specs.declared.limits.TheConstants.{GROUP_LIMIT}
use Rattle.script_world.specs.Sound.{IsSound}
use Rattle.script_world.specs.Standing.{world_of}
use Rattle.script_world.specs.World.{World, adopted}
use Rattle.script_world.proofs.SoundLemmas.{sound_added}
use Rattle.script_world.proofs.worlds.World.add_group.Goals as goal

pub invariant_of-self-in-Ok-1 : goal.invariant_of-self-in-Ok-1
invariant_of-self-in-Ok-1 c =
    let w = world_of c.self.inside in
    let g = c.args.group in
    let room = subst (λ (v : World). length v.groups < GROUP_LIMIT) (sym c.self.view_is) c.requires.room in
    let numbered = subst (λ (v : World). g.id.0 ≡ length v.groups + 1) (sym c.self.view_is) c.requires.numbered in
    let pushed : c.push.new.self.items ≡ w.groups ++ g ∷ [] = search rules in
    let taken : c.adopt.new.self ≡ adopted w.settings g c.args.criteria.now = search rules in (
      subst (λ gs. IsSound (record w { groups = gs; settings = c.adopt.new.self })) (sym pushed)
          (subst (λ s. IsSound (record w { groups = w.groups ++ g ∷ []; settings = s })) (sym taken)
          (sound_added w g c.args.criteria.now c.self.invariant.0 room c.requires.sound numbered)),
      c.self.invariant.1,
    )
