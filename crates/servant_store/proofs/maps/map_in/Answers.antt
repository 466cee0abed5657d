use Rattle.std.proofs.Common.{◌≡◌, ◌+◌, ◌-◌, ℕ, List, ap, ◌∙◌}
use Rattle.std.specs.FinMap.{put}
use Rattle.servant_store.specs.Store.{Pairs, behind_key, behind_value, key_in, order, pairs_in, value_in}
use Rattle.servant_store.specs.Views.{pairs_of, put_all}
use Rattle.servant_store.proofs.MapLaws.{pairs_more, pairs_rest_more, pairs_end, pairs_rest_end}
use Rattle.servant_store.proofs.maps.map_in.Goals as goal

pub loop-preserved : goal.loop-preserved
loop-preserved c =
    let moved : c.behind_value-rest.result.now ≡ behind_value (behind_key c.loop.rest.now) = c.behind_value-rest.ensures ∙ ap behind_value c.behind_key-behind.ensures in
    let value : c.value_in.result.now ≡ value_in (behind_key c.loop.rest.now) = c.value_in.ensures ∙ ap value_in c.behind_key-behind.ensures in
    record {
      map =
          ap (λ (b : List ℕ). put_all (pairs_in (c.args.count - (c.loop.counter + 1)) b).0 (pairs_of c.set.new.map.entries)) moved
          ∙ ap (λ (s : Pairs). put_all (pairs_in (c.args.count - (c.loop.counter + 1)) (behind_value (behind_key c.loop.rest.now))).0 s)
          (c.in_ok-set.ensures.set ∙ ap (λ (k : List ℕ). put order k c.value_in.result.now (pairs_of c.loop.map.entries)) c.key_in.ensures
          ∙ ap (λ (v : List ℕ). put order (key_in c.loop.rest.now) v (pairs_of c.loop.map.entries)) value)
          ∙ pairs_more c.args.count c.loop.counter c.loop.rest.now (pairs_of c.loop.map.entries) _ c.loop-test.true c.loop.invariant.map;
      rest =
          ap (λ (b : List ℕ). (pairs_in (c.args.count - (c.loop.counter + 1)) b).1) moved
          ∙ pairs_rest_more c.args.count c.loop.counter c.loop.rest.now _ c.loop-test.true c.loop.invariant.rest;
    }

pub returns-clause-map : goal.returns-clause-map
returns-clause-map c = pairs_end c.args.count c.loop.counter c.loop.rest.now (pairs_of c.loop.map.entries) _ c.loop-test.false c.loop.invariant.map

pub returns-clause-rest : goal.returns-clause-rest
returns-clause-rest c = pairs_rest_end c.args.count c.loop.counter c.loop.rest.now _ c.loop-test.false c.loop.invariant.rest
