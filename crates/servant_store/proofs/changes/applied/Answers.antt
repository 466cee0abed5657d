use Rattle.std.proofs.Common.{◌≡◌, true, ap, arith, subst, sym, ◌∙◌}
use Rattle.std.specs.FinMap.{is_sorted}
use Rattle.servant_store.specs.PairLaws.{put_all_same}
use Rattle.servant_store.specs.Store.{Pairs, changed, order}
use Rattle.servant_store.specs.Views.{keys_of, out_all, pairs_of, put_all}
use Rattle.servant_store.proofs.MapLaws.{length_pairs}
use Rattle.servant_store.proofs.Said.{applied_is, applied_none, applied_some, applied_sound}
use Rattle.servant_store.proofs.changes.applied.Goals as goal

pub take_all_out-requires : goal.take_all_out-requires
take_all_out-requires c =
    subst (λ (s : Pairs). is_sorted order s ≡ true) (sym (c.in_ok-map.ensures ∙ put_all_same (pairs_of c.args.base.now.entries) c.requires.base.ordered)) c.requires.base.ordered

pub returns-then-len-gt-STORE_LIMIT-clause-said : goal.returns-then-len-gt-STORE_LIMIT-clause-said
returns-then-len-gt-STORE_LIMIT-clause-said c =
    let is : pairs_of c.set_all.new.map.entries ≡ changed (pairs_of c.args.base.now.entries) (record { gone = keys_of c.args.gone.now; set = pairs_of c.args.set.now.entries }) =
    applied_is (pairs_of c.args.base.now.entries) (pairs_of c.set_all.new.map.entries) (record { gone = keys_of c.args.gone.now; set = pairs_of c.args.set.now.entries }) c.requires.base c.requires.change
    (c.in_ok-set_all.ensures
    ∙ ap (put_all (pairs_of c.args.set.now.entries)) (c.take_all_out.ensures ∙ ap (out_all (keys_of c.args.gone.now)) c.in_ok-map.ensures)) in
    let size = length_pairs c.set_all.new.map.entries in
    let long = c.len.ensures.len in
    let most = c.if-len-gt-STORE_LIMIT.true in
    applied_none (pairs_of c.args.base.now.entries) (pairs_of c.set_all.new.map.entries) (record { gone = keys_of c.args.gone.now; set = pairs_of c.args.set.now.entries })
    (sym c.all_of.ensures ∙ c.if-not-all_of.false) is (omega (arith, size, long, most))

pub returns-clause-said : goal.returns-clause-said
returns-clause-said c =
    let is : pairs_of c.set_all.new.map.entries ≡ changed (pairs_of c.args.base.now.entries) (record { gone = keys_of c.args.gone.now; set = pairs_of c.args.set.now.entries }) =
    applied_is (pairs_of c.args.base.now.entries) (pairs_of c.set_all.new.map.entries) (record { gone = keys_of c.args.gone.now; set = pairs_of c.args.set.now.entries }) c.requires.base c.requires.change
    (c.in_ok-set_all.ensures
    ∙ ap (put_all (pairs_of c.args.set.now.entries)) (c.take_all_out.ensures ∙ ap (out_all (keys_of c.args.gone.now)) c.in_ok-map.ensures)) in
    let size = length_pairs c.set_all.new.map.entries in
    let long = c.len.ensures.len in
    let most = c.if-len-gt-STORE_LIMIT.false in
    applied_some (pairs_of c.args.base.now.entries) (pairs_of c.set_all.new.map.entries) (record { gone = keys_of c.args.gone.now; set = pairs_of c.args.set.now.entries })
    (sym c.all_of.ensures ∙ c.if-not-all_of.false) is (omega (arith, size, long, most))

pub returns-clause-sound : goal.returns-clause-sound
returns-clause-sound c =
    let is : pairs_of c.set_all.new.map.entries ≡ changed (pairs_of c.args.base.now.entries) (record { gone = keys_of c.args.gone.now; set = pairs_of c.args.set.now.entries }) =
    applied_is (pairs_of c.args.base.now.entries) (pairs_of c.set_all.new.map.entries) (record { gone = keys_of c.args.gone.now; set = pairs_of c.args.set.now.entries }) c.requires.base c.requires.change
    (c.in_ok-set_all.ensures
    ∙ ap (put_all (pairs_of c.args.set.now.entries)) (c.take_all_out.ensures ∙ ap (out_all (keys_of c.args.gone.now)) c.in_ok-map.ensures)) in
    let size = length_pairs c.set_all.new.map.entries in
    let long = c.len.ensures.len in
    let most = c.if-len-gt-STORE_LIMIT.false in
    applied_sound (pairs_of c.args.base.now.entries) (pairs_of c.set_all.new.map.entries) (record { gone = keys_of c.args.gone.now; set = pairs_of c.args.set.now.entries }) c.requires.base c.requires.change is (omega (arith, size, long, most))
