use Rattle.std.proofs.Common.{◌≡◌, ◌<◌, arith, length, Some, ap, refl, sym, subst, ◌∙◌}
use Rattle.std.proofs.lemmas.Option.{slice_get_read}
use Rattle.std.specs.Prelude.{slice_get}
use Rattle.script_groups.specs.Groups.{ScriptGroup, common_of}
use Rattle.script_world.specs.Counting.{GroupList}
use Rattle.script_world.proofs.CountLemmas.{entries_least, entries_within}
use Rattle.script_groups.specs.Lists.{same_some}
use Rattle.script_world.proofs.groups.Groups.others.Goals as goal

pub returns-clause-sum : goal.returns-clause-sum
returns-clause-sum c = λ g at.
    let gs = c.self.inside.items.items in
    let group = c.index.result.now in
    let inside = subst (λ (v : GroupList). c.args.place < length v.items) (sym c.self.view_is) c.requires.within in
    let there = subst (λ (v : GroupList). slice_get v.items c.args.place ≡ Some group) c.self.view_is (slice_get_read gs (length gs) c.args.place group refl inside c.index.ensures) in
    let same = ap (λ (s : ScriptGroup). length (common_of s).journal) (same_some group g (sym there ∙ at)) in
    omega (arith, c.entries.ensures, c.entries-2.ensures, c.from.ensures, same, entries_least c.args.self.now.items c.args.place g at)

pub returns-clause-limit : goal.returns-clause-limit
returns-clause-limit c = omega (arith, c.entries.ensures, c.requires.few, entries_within c.args.self.now.items c.requires.sound)
