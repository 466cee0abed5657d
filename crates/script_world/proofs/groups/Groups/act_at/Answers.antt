use Rattle.std.proofs.Common.{◌≡◌, ◌+◌, ◌<◌, length, Some, refl, sym, subst}
use Rattle.std.proofs.lemmas.Option.{slice_get_read}
use Rattle.std.specs.Prelude.{slice_get, slice_set}
use Rattle.script_groups.specs.Groups.{ScriptGroup, common_of, entries_of}
use Rattle.script_world.specs.Counting.{GroupList, IsActedAt}
use Rattle.script_world.specs.Names.{group_names}
use Rattle.script_world.proofs.CountLemmas.{counted_on}
use Rattle.script_world.proofs.NameLemmas.{acted_keeps, names_stay, places_stay}
use Rattle.script_world.proofs.groups.Groups.act_at.Goals as goal

pub invariant_of-self : goal.invariant_of-self
invariant_of-self g c =
    let gs = c.self.inside.items.items in
    let group = c.index_mut-group.result.now in
    let inside = subst (λ (v : GroupList). c.args.place < length v.items) (sym c.self.view_is) c.requires.within in
    let there = slice_get_read gs (length gs) c.args.place group refl inside c.index_mut-group.ensures.value in
    let sum = subst (λ (v : GroupList). (s : ScriptGroup) → slice_get v.items c.args.place ≡ Some s → c.others-others.result + length (common_of s).journal ≡ entries_of v.items) (sym c.self.view_is) c.others-others.ensures.sum group there in
    let after = c.act-answer.new.self in (
      counted_on c.count_with-entries.result c.others-others.result gs c.args.place group after there sum c.count_with-entries.ensures,
      places_stay c.self.inside.places (group_names gs) (group_names (slice_set gs c.args.place after)) c.self.invariant.1
          (names_stay (λ (s : ScriptGroup). s.name) gs c.args.place group after there
          (acted_keeps group after c.args.event c.act-answer.result c.args.steps.now c.act-answer.new.steps c.act-answer.ensures)),
    )

pub returns-clause-acted : goal.returns-clause-acted
returns-clause-acted g c =
    let gs = c.self.inside.items.items in
    let group = c.index_mut-group.result.now in
    let after = c.act-answer.new.self in
    let inside = subst (λ (v : GroupList). c.args.place < length v.items) (sym c.self.view_is) c.requires.within in
    let there = slice_get_read gs (length gs) c.args.place group refl inside c.index_mut-group.ensures.value in
    subst (λ (v : GroupList). IsActedAt v.items c.args.place c.args.event c.act-answer.result (slice_set gs c.args.place after) c.args.steps.now c.act-answer.new.steps) c.self.view_is
    (record { group = group; there = there; after = after; is = refl; acted = c.act-answer.ensures })
