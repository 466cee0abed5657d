use Rattle.std.proofs.Common.{◌≡◌, ◌+◌, ◌-◌, ◌++◌, ◌∷◌, [], ℕ, List, ap, ◌∙◌}
use Rattle.servant_store.specs.Store.{behind_key, key_in, keys_in}
use Rattle.servant_store.specs.Views.{keys_of}
use Rattle.servant_store.proofs.MapLaws.{keys_more, keys_push, keys_rest_more, keys_end, keys_rest_end}
use Rattle.servant_store.proofs.maps.keys_in.Goals as goal

pub loop-preserved : goal.loop-preserved
loop-preserved c =
    let key : c.in_ok-key.key.items ≡ key_in c.loop.rest.now = c.in_ok-key.ensures.items ∙ c.key_in.ensures in
    let pushed : keys_of c.push.new.self.items ≡ keys_of c.loop.keys.items ++ key_in c.loop.rest.now ∷ [] =
    ap keys_of c.in_ok-push.ensures.items ∙ keys_push c.loop.keys.items c.in_ok-key.key
    ∙ ap (λ (k : List ℕ). keys_of c.loop.keys.items ++ k ∷ []) key in
    record {
      keys =
          ap (λ (b : List ℕ). keys_of c.push.new.self.items ++ (keys_in (c.args.count - (c.loop.counter + 1)) b).0) c.behind_key-rest.ensures
          ∙ ap (λ (ks : List (List ℕ)). ks ++ (keys_in (c.args.count - (c.loop.counter + 1)) (behind_key c.loop.rest.now)).0) pushed
          ∙ keys_more c.args.count c.loop.counter c.loop.rest.now (keys_of c.loop.keys.items) _ c.loop-test.true c.loop.invariant.keys;
      rest =
          ap (λ (b : List ℕ). (keys_in (c.args.count - (c.loop.counter + 1)) b).1) c.behind_key-rest.ensures
          ∙ keys_rest_more c.args.count c.loop.counter c.loop.rest.now _ c.loop-test.true c.loop.invariant.rest;
    }

pub returns-clause-keys : goal.returns-clause-keys
returns-clause-keys c = keys_end c.args.count c.loop.counter c.loop.rest.now (keys_of c.loop.keys.items) _ c.loop-test.false c.loop.invariant.keys

pub returns-clause-rest : goal.returns-clause-rest
returns-clause-rest c = keys_rest_end c.args.count c.loop.counter c.loop.rest.now _ c.loop-test.false c.loop.invariant.rest
