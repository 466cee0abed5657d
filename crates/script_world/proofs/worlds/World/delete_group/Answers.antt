use Rattle.std.proofs.Common.{rules, ◌≡◌, ap, sym, subst, ◌∙◌}
use Rattle.std.specs.Prelude.{is_none}
use Rattle.property_manager.specs.Groups.{Settings, dropped, group_of}
use Rattle.script_world.specs.Sound.{IsSound}
use Rattle.script_world.specs.Standing.{world_of}
use Rattle.script_world.specs.World.{with_settings}
use Rattle.script_groups.specs.Lists.{same_some}
use Rattle.script_world.proofs.SettingsLemmas.{gone}
use Rattle.script_world.proofs.SoundLemmas.{sound_dropped}
use Rattle.script_world.proofs.worlds.World.delete_group.Goals as goal

pub invariant_of-self : goal.invariant_of-self
invariant_of-self c =
    let w = world_of c.self.inside in (
      subst (λ s. IsSound (with_settings w s)) (sym c.drop_group.ensures) (sound_dropped w c.id-deleted.result.0 c.self.invariant.0),
      c.self.invariant.1,
    )

pub returns-clause-gone : goal.returns-clause-gone
returns-clause-gone c = λ g at.
    let groups = c.self.inside.settings.groups in
    let same : c.group.result.now ≡ g = same_some c.group.result.now g (sym c.group.ensures ∙ at) in
    let left : c.drop_group.new.self ≡ record c.self.inside.settings { groups = dropped groups g.id.0 } = search rules in
    ap (λ (s : Settings). is_none (group_of s.groups g.id.0)) left ∙ ap is_none (gone groups c.self.invariant.0.once g.id.0)
