use Rattle.std.proofs.Common.{ℕ, List, [], ap, sym, ◌∙◌}
use Rattle.servant_store.specs.Store.{IsStore, pairs_in}
use Rattle.servant_store.specs.Views.{pairs_of, put_all}
use Rattle.servant_store.proofs.MapLaws.{length_pairs}
use Rattle.servant_store.proofs.Said.{IsRead, said, sound, unsaid_again, unsaid_count, unsaid_length, unsaid_pair}
use Rattle.servant_store.proofs.changes.map_of.Goals as goal

pub returns-then-count-gt-STORE_LIMIT-clause-said : goal.returns-then-count-gt-STORE_LIMIT-clause-said
returns-then-count-gt-STORE_LIMIT-clause-said c =
    unsaid_count c.args.bytes.now c.number_of_4-count.result c.number_of_4-count.ensures c.if-count-gt-STORE_LIMIT.true

pub returns-then-len-count-clause-said : goal.returns-then-len-count-clause-said
returns-then-len-count-clause-said c =
    let read : IsRead c.args.bytes.now c.number_of_4-count.result (pairs_of c.in_ok-map.map.entries) = record {
      is_count = c.number_of_4-count.ensures;
      is_pairs = c.in_ok-map.ensures.map ∙ ap (λ (b : List ℕ). put_all (pairs_in c.number_of_4-count.result b).0 []) c.behind.ensures;
    } in
    unsaid_length c.args.bytes.now c.number_of_4-count.result (pairs_of c.in_ok-map.map.entries) read
    (λ e. c.if-len-count.true (c.len.ensures.len ∙ sym (length_pairs c.in_ok-map.map.entries) ∙ e))

pub returns-then-not-all_pairs-clause-said : goal.returns-then-not-all_pairs-clause-said
returns-then-not-all_pairs-clause-said c =
    let read : IsRead c.args.bytes.now c.number_of_4-count.result (pairs_of c.in_ok-map.map.entries) = record {
      is_count = c.number_of_4-count.ensures;
      is_pairs = c.in_ok-map.ensures.map ∙ ap (λ (b : List ℕ). put_all (pairs_in c.number_of_4-count.result b).0 []) c.behind.ensures;
    } in
    unsaid_pair c.args.bytes.now c.number_of_4-count.result (pairs_of c.in_ok-map.map.entries) read (sym c.all_pairs.ensures ∙ c.if-not-all_pairs.true)

pub returns-then-not-is_same-clause-said : goal.returns-then-not-is_same-clause-said
returns-then-not-is_same-clause-said c =
    let read : IsRead c.args.bytes.now c.number_of_4-count.result (pairs_of c.in_ok-map.map.entries) = record {
      is_count = c.number_of_4-count.ensures;
      is_pairs = c.in_ok-map.ensures.map ∙ ap (λ (b : List ℕ). put_all (pairs_in c.number_of_4-count.result b).0 []) c.behind.ensures;
    } in
    unsaid_again c.args.bytes.now c.bytes.result.now c.number_of_4-count.result (pairs_of c.in_ok-map.map.entries) read
    (c.bytes.ensures ∙ c.in_ok-again.ensures) (sym c.is_same.ensures ∙ c.if-not-is_same.true)

pub returns-clause-said : goal.returns-clause-said
returns-clause-said c =
    let read : IsRead c.args.bytes.now c.number_of_4-count.result (pairs_of c.in_ok-map.map.entries) = record {
      is_count = c.number_of_4-count.ensures;
      is_pairs = c.in_ok-map.ensures.map ∙ ap (λ (b : List ℕ). put_all (pairs_in c.number_of_4-count.result b).0 []) c.behind.ensures;
    } in
    let good : IsStore (pairs_of c.in_ok-map.map.entries) =
    sound c.args.bytes.now c.number_of_4-count.result (pairs_of c.in_ok-map.map.entries) read c.if-count-gt-STORE_LIMIT.false
    (length_pairs c.in_ok-map.map.entries ∙ sym c.len.ensures.len ∙ c.if-len-count.false) (sym c.all_pairs.ensures ∙ c.if-not-all_pairs.false) in
    said c.args.bytes.now c.bytes.result.now (pairs_of c.in_ok-map.map.entries) good (c.bytes.ensures ∙ c.in_ok-again.ensures)
    (sym c.is_same.ensures ∙ c.if-not-is_same.false)

pub returns-clause-sound : goal.returns-clause-sound
returns-clause-sound c =
    let read : IsRead c.args.bytes.now c.number_of_4-count.result (pairs_of c.in_ok-map.map.entries) = record {
      is_count = c.number_of_4-count.ensures;
      is_pairs = c.in_ok-map.ensures.map ∙ ap (λ (b : List ℕ). put_all (pairs_in c.number_of_4-count.result b).0 []) c.behind.ensures;
    } in
    sound c.args.bytes.now c.number_of_4-count.result (pairs_of c.in_ok-map.map.entries) read c.if-count-gt-STORE_LIMIT.false
    (length_pairs c.in_ok-map.map.entries ∙ sym c.len.ensures.len ∙ c.if-len-count.false) (sym c.all_pairs.ensures ∙ c.if-not-all_pairs.false)
