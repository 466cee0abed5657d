use Rattle.std.proofs.Common.{◌≡◌, ℕ, List, [], length, ap, arith, sym, ◌∙◌}
use Rattle.servant_store.specs.Store.{IsChange, keys_in, pairs_in, spelled_change}
use Rattle.servant_store.specs.Views.{keys_of, pairs_of, put_all}
use Rattle.servant_store.proofs.MapLaws.{length_keys, length_pairs}
use Rattle.servant_store.proofs.Said.{AreKeys, AreParts, change_is_said, change_sound, in_form, keys_in_length, unchanged_again, unchanged_count, unchanged_form, unchanged_length, unchanged_pairs}
use Rattle.servant_store.proofs.changes.parts_of.Goals as goal

pub returns-then-count-gt-STORE_LIMIT-clause-said : goal.returns-then-count-gt-STORE_LIMIT-clause-said
returns-then-count-gt-STORE_LIMIT-clause-said c =
    unchanged_count c.args.bytes.now c.number_of_2-count.result c.number_of_2-count.ensures c.if-count-gt-STORE_LIMIT.true

pub returns-then-pairs-gt-STORE_LIMIT-clause-said : goal.returns-then-pairs-gt-STORE_LIMIT-clause-said
returns-then-pairs-gt-STORE_LIMIT-clause-said c =
    let keys : AreKeys c.args.bytes.now c.number_of_2-count.result (keys_of c.in_ok-gone.gone.items) c.in_ok-gone.rest.now = record {
      is_count = c.number_of_2-count.ensures;
      is_gone = c.in_ok-gone.ensures.keys ∙ ap (λ (b : List ℕ). (keys_in c.number_of_2-count.result b).0) c.behind.ensures;
      is_rest = c.in_ok-gone.ensures.rest ∙ ap (λ (b : List ℕ). (keys_in c.number_of_2-count.result b).1) c.behind.ensures;
    } in
    unchanged_pairs c.args.bytes.now c.number_of_2-count.result (keys_of c.in_ok-gone.gone.items) c.in_ok-gone.rest.now c.number_of_2-pairs.result keys
    c.number_of_2-pairs.ensures c.if-pairs-gt-STORE_LIMIT.true

pub returns-then-len-pairs-clause-said : goal.returns-then-len-pairs-clause-said
returns-then-len-pairs-clause-said c =
    let keys : AreKeys c.args.bytes.now c.number_of_2-count.result (keys_of c.in_ok-gone.gone.items) c.in_ok-gone.rest.now = record {
      is_count = c.number_of_2-count.ensures;
      is_gone = c.in_ok-gone.ensures.keys ∙ ap (λ (b : List ℕ). (keys_in c.number_of_2-count.result b).0) c.behind.ensures;
      is_rest = c.in_ok-gone.ensures.rest ∙ ap (λ (b : List ℕ). (keys_in c.number_of_2-count.result b).1) c.behind.ensures;
    } in
    let parts : AreParts c.args.bytes.now c.number_of_2-count.result (keys_of c.in_ok-gone.gone.items) c.in_ok-gone.rest.now c.number_of_2-pairs.result (pairs_of c.in_ok-set.set.entries) = record {
      keys = keys;
      is_pairs = c.number_of_2-pairs.ensures;
      is_set = c.in_ok-set.ensures.map ∙ ap (λ (b : List ℕ). put_all (pairs_in c.number_of_2-pairs.result b).0 []) c.behind-2.ensures;
    } in
    unchanged_length c.args.bytes.now c.number_of_2-count.result (keys_of c.in_ok-gone.gone.items) c.in_ok-gone.rest.now c.number_of_2-pairs.result (pairs_of c.in_ok-set.set.entries) parts
    (λ e. c.if-len-pairs.true (c.len.ensures.len ∙ sym (length_pairs c.in_ok-set.set.entries) ∙ e))

pub returns-then-not-is_in_form-clause-said : goal.returns-then-not-is_in_form-clause-said
returns-then-not-is_in_form-clause-said c =
    let keys : AreKeys c.args.bytes.now c.number_of_2-count.result (keys_of c.in_ok-gone.gone.items) c.in_ok-gone.rest.now = record {
      is_count = c.number_of_2-count.ensures;
      is_gone = c.in_ok-gone.ensures.keys ∙ ap (λ (b : List ℕ). (keys_in c.number_of_2-count.result b).0) c.behind.ensures;
      is_rest = c.in_ok-gone.ensures.rest ∙ ap (λ (b : List ℕ). (keys_in c.number_of_2-count.result b).1) c.behind.ensures;
    } in
    let parts : AreParts c.args.bytes.now c.number_of_2-count.result (keys_of c.in_ok-gone.gone.items) c.in_ok-gone.rest.now c.number_of_2-pairs.result (pairs_of c.in_ok-set.set.entries) = record {
      keys = keys;
      is_pairs = c.number_of_2-pairs.ensures;
      is_set = c.in_ok-set.ensures.map ∙ ap (λ (b : List ℕ). put_all (pairs_in c.number_of_2-pairs.result b).0 []) c.behind-2.ensures;
    } in
    let form : in_form (keys_of c.in_ok-gone.gone.items) (pairs_of c.in_ok-set.set.entries) ≡ c.is_in_form.result =
    sym (c.is_in_form.ensures ∙ ap (λ ks. in_form (keys_of ks) (pairs_of c.in_ok-set.set.entries)) c.as_slice.ensures.value) in
    unchanged_form c.args.bytes.now c.number_of_2-count.result (keys_of c.in_ok-gone.gone.items) c.in_ok-gone.rest.now c.number_of_2-pairs.result (pairs_of c.in_ok-set.set.entries) parts (form ∙ c.if-not-is_in_form.true)

pub spell_change-requires-clause-few : goal.spell_change-requires-clause-few
spell_change-requires-clause-few c =
    let long : length (keys_of c.in_ok-gone.gone.items) ≡ c.number_of_2-count.result =
    ap length c.in_ok-gone.ensures.keys ∙ keys_in_length c.number_of_2-count.result c.behind.result.now in
    let same = ap length c.as_slice-2.ensures.value in
    let keys = length_keys c.in_ok-gone.gone.items in
    let few = c.if-count-gt-STORE_LIMIT.false in
    omega (arith, long, same, keys, few)

pub returns-then-not-is_same-clause-said : goal.returns-then-not-is_same-clause-said
returns-then-not-is_same-clause-said c =
    let keys : AreKeys c.args.bytes.now c.number_of_2-count.result (keys_of c.in_ok-gone.gone.items) c.in_ok-gone.rest.now = record {
      is_count = c.number_of_2-count.ensures;
      is_gone = c.in_ok-gone.ensures.keys ∙ ap (λ (b : List ℕ). (keys_in c.number_of_2-count.result b).0) c.behind.ensures;
      is_rest = c.in_ok-gone.ensures.rest ∙ ap (λ (b : List ℕ). (keys_in c.number_of_2-count.result b).1) c.behind.ensures;
    } in
    let parts : AreParts c.args.bytes.now c.number_of_2-count.result (keys_of c.in_ok-gone.gone.items) c.in_ok-gone.rest.now c.number_of_2-pairs.result (pairs_of c.in_ok-set.set.entries) = record {
      keys = keys;
      is_pairs = c.number_of_2-pairs.ensures;
      is_set = c.in_ok-set.ensures.map ∙ ap (λ (b : List ℕ). put_all (pairs_in c.number_of_2-pairs.result b).0 []) c.behind-2.ensures;
    } in
    let spells : c.bytes.result.now ≡ spelled_change (record { gone = keys_of c.in_ok-gone.gone.items; set = pairs_of c.in_ok-set.set.entries }) =
    c.bytes.ensures ∙ c.in_ok-again.ensures ∙ ap (λ ks. spelled_change (record { gone = keys_of ks; set = pairs_of c.in_ok-set.set.entries })) c.as_slice-2.ensures.value in
    unchanged_again c.args.bytes.now c.number_of_2-count.result (keys_of c.in_ok-gone.gone.items) c.in_ok-gone.rest.now c.number_of_2-pairs.result (pairs_of c.in_ok-set.set.entries) parts c.bytes.result.now spells
    (sym c.is_same.ensures ∙ c.if-not-is_same.true)

pub returns-clause-said : goal.returns-clause-said
returns-clause-said c =
    let keys : AreKeys c.args.bytes.now c.number_of_2-count.result (keys_of c.in_ok-gone.gone.items) c.in_ok-gone.rest.now = record {
      is_count = c.number_of_2-count.ensures;
      is_gone = c.in_ok-gone.ensures.keys ∙ ap (λ (b : List ℕ). (keys_in c.number_of_2-count.result b).0) c.behind.ensures;
      is_rest = c.in_ok-gone.ensures.rest ∙ ap (λ (b : List ℕ). (keys_in c.number_of_2-count.result b).1) c.behind.ensures;
    } in
    let parts : AreParts c.args.bytes.now c.number_of_2-count.result (keys_of c.in_ok-gone.gone.items) c.in_ok-gone.rest.now c.number_of_2-pairs.result (pairs_of c.in_ok-set.set.entries) = record {
      keys = keys;
      is_pairs = c.number_of_2-pairs.ensures;
      is_set = c.in_ok-set.ensures.map ∙ ap (λ (b : List ℕ). put_all (pairs_in c.number_of_2-pairs.result b).0 []) c.behind-2.ensures;
    } in
    let form : in_form (keys_of c.in_ok-gone.gone.items) (pairs_of c.in_ok-set.set.entries) ≡ c.is_in_form.result =
    sym (c.is_in_form.ensures ∙ ap (λ ks. in_form (keys_of ks) (pairs_of c.in_ok-set.set.entries)) c.as_slice.ensures.value) in
    let long : length (keys_of c.in_ok-gone.gone.items) ≡ c.number_of_2-count.result =
    ap length c.in_ok-gone.ensures.keys ∙ keys_in_length c.number_of_2-count.result c.behind.result.now in
    let spells : c.bytes.result.now ≡ spelled_change (record { gone = keys_of c.in_ok-gone.gone.items; set = pairs_of c.in_ok-set.set.entries }) =
    c.bytes.ensures ∙ c.in_ok-again.ensures ∙ ap (λ ks. spelled_change (record { gone = keys_of ks; set = pairs_of c.in_ok-set.set.entries })) c.as_slice-2.ensures.value in
    let good : IsChange (record { gone = keys_of c.in_ok-gone.gone.items; set = pairs_of c.in_ok-set.set.entries }) =
    change_sound c.args.bytes.now c.number_of_2-count.result (keys_of c.in_ok-gone.gone.items) c.in_ok-gone.rest.now c.number_of_2-pairs.result (pairs_of c.in_ok-set.set.entries) parts c.if-count-gt-STORE_LIMIT.false long c.if-pairs-gt-STORE_LIMIT.false
    (length_pairs c.in_ok-set.set.entries ∙ sym c.len.ensures.len ∙ c.if-len-pairs.false) (form ∙ c.if-not-is_in_form.false) in
    change_is_said c.args.bytes.now c.bytes.result.now (record { gone = keys_of c.in_ok-gone.gone.items; set = pairs_of c.in_ok-set.set.entries }) good spells
    (sym c.is_same.ensures ∙ c.if-not-is_same.false)

pub returns-clause-sound : goal.returns-clause-sound
returns-clause-sound c =
    let keys : AreKeys c.args.bytes.now c.number_of_2-count.result (keys_of c.in_ok-gone.gone.items) c.in_ok-gone.rest.now = record {
      is_count = c.number_of_2-count.ensures;
      is_gone = c.in_ok-gone.ensures.keys ∙ ap (λ (b : List ℕ). (keys_in c.number_of_2-count.result b).0) c.behind.ensures;
      is_rest = c.in_ok-gone.ensures.rest ∙ ap (λ (b : List ℕ). (keys_in c.number_of_2-count.result b).1) c.behind.ensures;
    } in
    let parts : AreParts c.args.bytes.now c.number_of_2-count.result (keys_of c.in_ok-gone.gone.items) c.in_ok-gone.rest.now c.number_of_2-pairs.result (pairs_of c.in_ok-set.set.entries) = record {
      keys = keys;
      is_pairs = c.number_of_2-pairs.ensures;
      is_set = c.in_ok-set.ensures.map ∙ ap (λ (b : List ℕ). put_all (pairs_in c.number_of_2-pairs.result b).0 []) c.behind-2.ensures;
    } in
    let form : in_form (keys_of c.in_ok-gone.gone.items) (pairs_of c.in_ok-set.set.entries) ≡ c.is_in_form.result =
    sym (c.is_in_form.ensures ∙ ap (λ ks. in_form (keys_of ks) (pairs_of c.in_ok-set.set.entries)) c.as_slice.ensures.value) in
    let long : length (keys_of c.in_ok-gone.gone.items) ≡ c.number_of_2-count.result =
    ap length c.in_ok-gone.ensures.keys ∙ keys_in_length c.number_of_2-count.result c.behind.result.now in
    change_sound c.args.bytes.now c.number_of_2-count.result (keys_of c.in_ok-gone.gone.items) c.in_ok-gone.rest.now c.number_of_2-pairs.result (pairs_of c.in_ok-set.set.entries) parts c.if-count-gt-STORE_LIMIT.false long c.if-pairs-gt-STORE_LIMIT.false
    (length_pairs c.in_ok-set.set.entries ∙ sym c.len.ensures.len ∙ c.if-len-pairs.false) (form ∙ c.if-not-is_in_form.false)
