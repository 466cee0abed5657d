use Rattle.std.proofs.Common.{◌≡◌, ◌<◌, List, Some, length, ap, sym, subst}
use Rattle.std.proofs.lemmas.Result.{on_ok_weaker}
use Rattle.std.specs.Prelude.{OnOk, slice_get, slice_set}
use Rattle.script_groups.specs.Groups.{ScriptGroup, failing}
use Rattle.script_groups.specs.Lists.{some_at}
use Rattle.script_world.specs.Standing.{world_of}
use Rattle.script_world.specs.World.{World, with_failing}
use Rattle.script_world.proofs.SoundLemmas.{failing_sound}
use Rattle.script_world.proofs.worlds.World.fail_log_at.Goals as goal

pub invariant_of-self : goal.invariant_of-self
invariant_of-self c =
    let w = world_of c.self.inside in
    let inside = subst (λ (v : World). c.args.place < length v.groups) (sym c.self.view_is) c.requires.within in
    let at = some_at w.groups c.args.place inside in
    let failed = c.fail_log_at.ensures in (
      failing_sound c.failures_come_once.ensures.sound c.failures_come_once.ensures.come w c.args.place at.0 c.fail_log_at.new.self.items c.fail_log_at.result at.1
          (failed.failing at.0 at.1) failed.left c.self.invariant.0,
      c.self.invariant.1,
    )

pub returns-clause-failing : goal.returns-clause-failing
returns-clause-failing c = λ g at.
    let w = world_of c.self.inside in
    let there = subst (λ (v : World). slice_get v.groups c.args.place ≡ Some g) (sym c.self.view_is) at in
    subst (λ (v : World). OnOk c.fail_log_at.result (record w { groups = c.fail_log_at.new.self.items } ≡ with_failing v c.args.place g)) c.self.view_is
    (on_ok_weaker c.fail_log_at.result (λ (is : c.fail_log_at.new.self.items ≡ slice_set w.groups c.args.place (failing g)). ap (λ (gs : List ScriptGroup). record w { groups = gs }) is)
    (c.fail_log_at.ensures.failing g there))
