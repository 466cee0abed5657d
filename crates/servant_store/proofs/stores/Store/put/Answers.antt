use Rattle.std.proofs.Common.{◌≡◌, ◌<◌, false, length, arith, subst, sym, ◌∙◌}
use Rattle.std.specs.Prelude.{is_some}
use Rattle.std.specs.FinMap.{find}
use Rattle.std.proofs.lemmas.Bool.{le-leb}
use Rattle.servant_store.specs.PairLaws.{put_store}
use Rattle.servant_store.specs.Store.{IsStore, order}
use Rattle.servant_store.specs.Views.{pairs_of}
use Rattle.servant_store.proofs.MapLaws.{length_pairs}
use Rattle.servant_store.proofs.stores.Store.put.Goals as goal
use Rattle.servant_store.proofs.stores.Store.put.Goals.{else-not-known-via-then-not-known+else-len-ge-STORE_LIMIT, else-not-known-via-else-not-known}

pub invariant_of-self-2 : goal.invariant_of-self-2
invariant_of-self-2 c =
    let room : is_some (find order c.args.key.now (pairs_of c.self.inside.pairs.entries)) ≡ false → length (pairs_of c.self.inside.pairs.entries) < 256 =
    λ f. elim c.else-not-known.branch [
      | else-not-known-via-then-not-known+else-len-ge-STORE_LIMIT w ↦
          let long = w.len.ensures.len in
          let below = w.if-len-ge-STORE_LIMIT.false in
          let size = length_pairs c.self.inside.pairs.entries in
          omega (arith, long, below, size)
      | else-not-known-via-else-not-known w ↦ absurd (let wrong : ⊥ = cc (w.if-not-known.false, c.has-known.ensures, f) in wrong)
    ] in
    subst IsStore (sym c.in_ok-set.ensures.set)
    (put_store c.args.key.now c.args.value.now (pairs_of c.self.inside.pairs.entries) (sym c.is_key.ensures ∙ c.if-not-is_key.false)
    (le-leb (length c.args.value.now) 256 c.if-value-gt-VALUE_LIMIT.false) c.self.invariant room)

pub returns-clause-after : goal.returns-clause-after
returns-clause-after c =
    let room : is_some (find order c.args.key.now (pairs_of c.self.inside.pairs.entries)) ≡ false → length (pairs_of c.self.inside.pairs.entries) < 256 =
    λ f. elim c.else-not-known.branch [
      | else-not-known-via-then-not-known+else-len-ge-STORE_LIMIT w ↦
          let long = w.len.ensures.len in
          let below = w.if-len-ge-STORE_LIMIT.false in
          let size = length_pairs c.self.inside.pairs.entries in
          omega (arith, long, below, size)
      | else-not-known-via-else-not-known w ↦ absurd (let wrong : ⊥ = cc (w.if-not-known.false, c.has-known.ensures, f) in wrong)
    ] in
    subst IsStore (sym c.in_ok-set.ensures.set)
    (put_store c.args.key.now c.args.value.now (pairs_of c.self.inside.pairs.entries) (sym c.is_key.ensures ∙ c.if-not-is_key.false)
    (le-leb (length c.args.value.now) 256 c.if-value-gt-VALUE_LIMIT.false) c.self.invariant room)
