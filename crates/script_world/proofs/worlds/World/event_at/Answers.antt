use Rattle.std.proofs.Common.{◌≡◌, Some, sym, subst, ◌∙◌}
use Rattle.std.specs.Prelude.{slice_get}
use Rattle.std.specs.List.{AllByRecursion}
use Rattle.group_model.specs.Sending.{sent_by}
use Rattle.script_groups.specs.Acting.{MayCome}
use Rattle.script_groups.specs.Groups.{ScriptGroup}
use Rattle.script_world.specs.Sound.{IsOnItsWay, IsSound}
use Rattle.script_world.specs.Standing.{world_of}
use Rattle.script_world.specs.World.{World, carried}
use Rattle.script_world.specs.Worlds.{EventAt}
use Rattle.script_groups.specs.Lists.{same_some}
use Rattle.script_world.proofs.SoundLemmas.{event_sent, event_sound, event_turn}
use Rattle.script_world.proofs.worlds.World.event_at.Goals as goal

pub invariant_of-self : goal.invariant_of-self
invariant_of-self g c =
    let w = world_of c.self.inside in
    let at = c.act_at.ensures.acted in
    let may = subst (λ (v : World). (s : ScriptGroup) → slice_get v.groups c.args.place ≡ Some s → MayCome s c.args.event) (sym c.self.view_is) c.requires.may at.group at.there in (
      subst (λ gs. IsSound (record w { groups = gs })) (sym at.is)
          (event_sound w c.args.place c.args.event at.group at.after c.act_at.result c.args.steps.now c.act_at.new.steps at.there
          c.groups_go_on.ensures.sound c.groups_go_on.ensures.last c.self.invariant.0 may at.acted),
      c.self.invariant.1,
    )

pub returns-clause-turn : goal.returns-clause-turn
returns-clause-turn g c =
    let w = world_of c.self.inside in
    let at = c.act_at.ensures.acted in
    subst (λ (v : World). EventAt v c.args.place c.args.event c.act_at.result (record w { groups = c.act_at.new.self.items }) c.args.steps.now c.act_at.new.steps) c.self.view_is
    (subst (λ gs. EventAt w c.args.place c.args.event c.act_at.result (record w { groups = gs }) c.args.steps.now c.act_at.new.steps) (sym at.is)
    (event_turn w c.args.place c.args.event at.group at.after c.act_at.result c.args.steps.now c.act_at.new.steps at.there at.acted))

pub returns-clause-sent : goal.returns-clause-sent
returns-clause-sent g c = λ s there.
    let w = world_of c.self.inside in
    let at = c.act_at.ensures.acted in
    let may = subst (λ (v : World). (s : ScriptGroup) → slice_get v.groups c.args.place ≡ Some s → MayCome s c.args.event) (sym c.self.view_is) c.requires.may at.group at.there in
    let same = same_some at.group s (sym at.there ∙ subst (λ (v : World). slice_get v.groups c.args.place ≡ Some s) (sym c.self.view_is) there) in
    subst (λ (x : ScriptGroup). AllByRecursion (λ out. IsOnItsWay c.act_at.new.self.items (carried x.id out)) (sent_by c.act_at.result)) same
    (subst (λ gs. AllByRecursion (λ out. IsOnItsWay gs (carried at.group.id out)) (sent_by c.act_at.result)) (sym at.is)
    (event_sent w c.args.place c.args.event at.group at.after c.act_at.result c.args.steps.now c.act_at.new.steps at.there
    c.groups_go_on.ensures.sent c.self.invariant.0 may at.acted))
