use Rattle.std.proofs.Common.{◌≡◌, ℕ, List, true, length, ap, arith, subst, sym, ◌∙◌}
use Rattle.std.specs.List.{list_all}
use Rattle.servant_store.specs.Laws.{since_change}
use Rattle.servant_store.specs.PairLaws.{put_all_same}
use Rattle.servant_store.specs.Store.{Pairs, is_key, is_pair, since, spelled_change}
use Rattle.servant_store.specs.Views.{keys_of, pairs_of}
use Rattle.servant_store.proofs.MapLaws.{length_keys, length_pairs}
use Rattle.servant_store.proofs.changes.update_between.Goals as goal

pub spell_change-requires-clause-keys : goal.spell_change-requires-clause-keys
spell_change-requires-clause-keys c =
    let change = since_change (pairs_of c.args.base.now.entries) (pairs_of c.args.later.now.entries) c.requires.base c.requires.later in
    let gone : keys_of c.as_slice.result.now ≡ (since (pairs_of c.args.base.now.entries) (pairs_of c.args.later.now.entries)).gone =
    ap keys_of c.as_slice.ensures.value ∙ c.in_ok-gone.ensures in
    subst (λ (ks : List (List ℕ)). list_all is_key ks ≡ true) (sym gone) change.keys

pub spell_change-requires-clause-few : goal.spell_change-requires-clause-few
spell_change-requires-clause-few c =
    let change = since_change (pairs_of c.args.base.now.entries) (pairs_of c.args.later.now.entries) c.requires.base c.requires.later in
    let gone : keys_of c.as_slice.result.now ≡ (since (pairs_of c.args.base.now.entries) (pairs_of c.args.later.now.entries)).gone =
    ap keys_of c.as_slice.ensures.value ∙ c.in_ok-gone.ensures in
    let few = change.few in
    let size = ap length gone in
    let keys = length_keys c.as_slice.result.now in
    omega (arith, few, size, keys)

pub spell_change-requires-clause-few_set : goal.spell_change-requires-clause-few_set
spell_change-requires-clause-few_set c =
    let change = since_change (pairs_of c.args.base.now.entries) (pairs_of c.args.later.now.entries) c.requires.base c.requires.later in
    let set : pairs_of c.in_ok-set.set.entries ≡ (since (pairs_of c.args.base.now.entries) (pairs_of c.args.later.now.entries)).set =
    c.in_ok-set.ensures ∙ put_all_same (since (pairs_of c.args.base.now.entries) (pairs_of c.args.later.now.entries)).set change.set.ordered in
    let few = change.set.few in
    let size = ap length set in
    let pairs = length_pairs c.in_ok-set.set.entries in
    omega (arith, few, size, pairs)

pub spell_change-requires-clause-sound : goal.spell_change-requires-clause-sound
spell_change-requires-clause-sound c =
    let change = since_change (pairs_of c.args.base.now.entries) (pairs_of c.args.later.now.entries) c.requires.base c.requires.later in
    let set : pairs_of c.in_ok-set.set.entries ≡ (since (pairs_of c.args.base.now.entries) (pairs_of c.args.later.now.entries)).set =
    c.in_ok-set.ensures ∙ put_all_same (since (pairs_of c.args.base.now.entries) (pairs_of c.args.later.now.entries)).set change.set.ordered in
    subst (λ (s : Pairs). list_all is_pair s ≡ true) (sym set) change.set.sound

pub returns : goal.returns
returns c =
    let change = since_change (pairs_of c.args.base.now.entries) (pairs_of c.args.later.now.entries) c.requires.base c.requires.later in
    let gone : keys_of c.as_slice.result.now ≡ (since (pairs_of c.args.base.now.entries) (pairs_of c.args.later.now.entries)).gone =
    ap keys_of c.as_slice.ensures.value ∙ c.in_ok-gone.ensures in
    let set : pairs_of c.in_ok-set.set.entries ≡ (since (pairs_of c.args.base.now.entries) (pairs_of c.args.later.now.entries)).set =
    c.in_ok-set.ensures ∙ put_all_same (since (pairs_of c.args.base.now.entries) (pairs_of c.args.later.now.entries)).set change.set.ordered in
    c.in_ok-bytes.ensures
    ∙ ap (λ (ks : List (List ℕ)). spelled_change (record { gone = ks; set = pairs_of c.in_ok-set.set.entries })) gone
    ∙ ap (λ (s : Pairs). spelled_change (record { gone = (since (pairs_of c.args.base.now.entries) (pairs_of c.args.later.now.entries)).gone; set = s })) set
