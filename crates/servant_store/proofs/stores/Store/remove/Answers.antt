use Rattle.std.proofs.Common.{subst, sym}
use Rattle.servant_store.specs.PairLaws.{out_store}
use Rattle.servant_store.specs.Store.{IsStore}
use Rattle.servant_store.specs.Views.{pairs_of}
use Rattle.servant_store.proofs.stores.Store.remove.Goals as goal

pub invariant_of-self : goal.invariant_of-self
invariant_of-self c = subst IsStore (sym c.take_out.ensures.out) (out_store c.args.key.now (pairs_of c.self.inside.pairs.entries) c.self.invariant)

pub returns-clause-after : goal.returns-clause-after
returns-clause-after c = subst IsStore (sym c.take_out.ensures.out) (out_store c.args.key.now (pairs_of c.self.inside.pairs.entries) c.self.invariant)
