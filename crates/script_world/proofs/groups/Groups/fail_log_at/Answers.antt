use Rattle.std.proofs.Common.{◌<◌, length, ap, refl, sym, subst}
use Rattle.std.proofs.lemmas.Option.{slice_get_read}
use Rattle.std.specs.Prelude.{slice_set}
use Rattle.script_groups.specs.Groups.{ScriptGroup}
use Rattle.script_world.specs.Counting.{GroupList}
use Rattle.script_world.specs.Names.{group_names}
use Rattle.script_world.proofs.CountLemmas.{counted_still}
use Rattle.script_world.proofs.FailureLemmas.{accepted_still, failing_at, named_still}
use Rattle.script_world.proofs.NameLemmas.{names_stay, places_stay}
use Rattle.script_world.proofs.groups.Groups.fail_log_at.Goals as goal

pub invariant_of-self : goal.invariant_of-self
invariant_of-self c =
    let gs = c.self.inside.items.items in
    let group = c.index_mut.result.now in
    let after = c.fail_next.new.self in
    let failed = c.fail_next.ensures in
    let inside = subst (λ (v : GroupList). c.args.place < length v.items) (sym c.self.view_is) c.requires.within in
    let there = slice_get_read gs (length gs) c.args.place group refl inside c.index_mut.ensures.value in (
      counted_still c.self.inside.entries gs c.args.place group after there
          (accepted_still group after c.fail_next.result failed.failing failed.left c.failures_come_once.ensures.same) c.self.invariant.0,
      places_stay c.self.inside.places (group_names gs) (group_names (slice_set gs c.args.place after)) c.self.invariant.1
          (names_stay (λ (s : ScriptGroup). s.name) gs c.args.place group after there (named_still group after c.fail_next.result failed.failing failed.left)),
    )

pub returns-clause-failing : goal.returns-clause-failing
returns-clause-failing c = λ s there.
    let gs = c.self.inside.items.items in
    let group = c.index_mut.result.now in
    let inside = subst (λ (v : GroupList). c.args.place < length v.items) (sym c.self.view_is) c.requires.within in
    failing_at group c.fail_next.new.self c.fail_next.result c.fail_next.ensures.failing gs c.args.self.now.items (ap (λ (v : GroupList). v.items) c.self.view_is) c.args.place
    (slice_get_read gs (length gs) c.args.place group refl inside c.index_mut.ensures.value) s there
