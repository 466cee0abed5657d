use Rattle.std.proofs.Common.{ap, sym, subst, ◌∙◌}
use Rattle.script_groups.specs.Acting.{AreKept}
use Rattle.script_groups.specs.Groups.{entries_of}
use Rattle.script_world.specs.Counting.{GroupList}
use Rattle.script_world.specs.Names.{group_names}
use Rattle.script_world.specs.Worlds.{power_event}
use Rattle.script_world.proofs.CountLemmas.{kept_acted}
use Rattle.script_world.proofs.NameLemmas.{all_keep, partly_keep, places_stay}
use Rattle.script_world.proofs.groups.Groups.power.Goals as goal

pub entries_of-requires-clause-kept : goal.entries_of-requires-clause-kept
entries_of-requires-clause-kept g c =
    let kept = subst (λ (v : GroupList). AreKept v.items) (sym c.self.view_is) c.requires.kept in
    subst AreKept (sym c.as_slice.ensures.value)
    (subst AreKept (sym c.in-Ok.ensures.acted) (kept_acted c.self.inside.items.items (power_event c.args.up c.args.host) kept))

pub invariant_of-self : goal.invariant_of-self
invariant_of-self g c =
    let gs = c.self.inside.items.items in
    let later = c.power.new.groups.items in (
      c.entries_of.ensures ∙ ap entries_of c.as_slice.ensures.value,
      places_stay c.self.inside.places (group_names gs) (group_names later) c.self.invariant.1
          (ap group_names c.in-Ok.ensures.acted ∙ all_keep (power_event c.args.up c.args.host) gs),
    )

pub invariant_of-self-in-Err : goal.invariant_of-self-in-Err
invariant_of-self-in-Err g c =
    let gs = c.self.inside.items.items in
    let later = c.power.new.groups.items in (
      tt,
      places_stay c.self.inside.places (group_names gs) (group_names later) c.self.invariant.1
          (partly_keep gs later (power_event c.args.up c.args.host) c.in-Err.ensures.partly),
    )
