use Rattle.std.proofs.Common.{length, ap, arith, sym}
use Rattle.servant_store.specs.Laws.{value_size}
use Rattle.servant_store.specs.PairLaws.{found_sound}
use Rattle.servant_store.specs.Views.{pairs_of}
use Rattle.servant_store.proofs.stores.Store.get.Goals as goal

pub tell_value-requires : goal.tell_value-requires
tell_value-requires c =
    let few = value_size c.in-Some.value.now.items (found_sound c.args.key.now (pairs_of c.self.inside.pairs.entries) c.in-Some.value.now.items c.self.invariant.sound (sym c.in-Some.ensures)) in
    let same = ap length c.as_slice.ensures.value in
    omega (arith, few, same)
