use Rattle.std.proofs.Common.{◌-◌, sym, ◌∙◌, arith}
use Rattle.servant_store.proofs.MapLaws.{rises_short}
use Rattle.servant_store.proofs.maps.rises.Goals as goal

pub returns : goal.returns
returns c =
    sym (rises_short c.args.keys.now (c.loop-i.i - 1) (let from = c.loop-i.invariant.from in let past = c.loop-i-test.false in omega (arith, from, past)))
    ∙ c.loop-i.invariant.same
