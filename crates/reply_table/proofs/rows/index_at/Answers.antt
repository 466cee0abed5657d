use Rattle.std.proofs.Common.{subst, sym, ◌≡◌, Option, None, ℕ, rules}
use Rattle.std.specs.Prelude.{MatchOption, slice_get}
use Rattle.std.specs.Map.{values_of}
use Rattle.reply_table.specs.Entries.{entry_at}
use Rattle.std.proofs.lemmas.List.Sorted.{answers_always}
use Rattle.reply_table.proofs.Order.{found_by_search}
use Rattle.reply_table.proofs.rows.index_at.Goals as goal

pub returns-clause-entry : goal.returns-clause-entry
returns-clause-entry c =
    let rs = values_of c.args.rows.now.entries in
    subst (λ (o : Option ℕ). MatchOption o (entry_at rs c.args.position ≡ None) (λ i. slice_get rs i ≡ entry_at rs c.args.position)) (sym c.ok.ensures.value)
    (found_by_search c.args.rows.now.entries c.args.position c.requires c.binary_search_by_key.result c.binary_search_by_key.ensures.bound
    (c.binary_search_by_key.ensures.position (λ e. e.1.position) (answers_always _ _ _ (λ f a r g called. search rules))))
