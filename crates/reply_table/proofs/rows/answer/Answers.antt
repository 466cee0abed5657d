use Rattle.std.proofs.Common.{◌∙◌, ap, sym, subst}
use Rattle.std.specs.Map.{values_of}
use Rattle.reply_table.specs.Entries.{AreInOrder}
use Rattle.reply_table.specs.Ids.{AreFiled}
use Rattle.reply_table.proofs.Order.{answered_there, filed_there, order_of_answered, unanswered_stay, entry_at_is, value_at}
use Rattle.reply_table.proofs.rows.answer.Goals as goal

pub returns-in-Some-clause-values : goal.returns-in-Some-clause-values
returns-in-Some-clause-values c =
    let rs = values_of c.args.rows.now.entries in
    let there = c.answer_at.ensures.entries in
    let is = entry_at_is rs c.args.position there.entry.1 (sym c.in-Some.ensures.entry ∙ value_at c.args.rows.now.entries c.in-Some.index there.entry there.at) in
    ap (λ es. values_of es) there.is
    ∙ answered_there c.args.position c.args.outcome c.args.rows.now.entries c.in-Some.index there.entry c.requires.ordered there.at is

pub returns-in-Some-clause-filed : goal.returns-in-Some-clause-filed
returns-in-Some-clause-filed c =
    let there = c.answer_at.ensures.entries in
    subst (λ es. AreFiled es) (sym there.is) (filed_there c.args.position c.args.outcome c.args.rows.now.entries c.in-Some.index there.entry c.requires.filed there.at)

pub returns-in-Some-clause-ordered : goal.returns-in-Some-clause-ordered
returns-in-Some-clause-ordered c =
    subst (λ rs. AreInOrder rs) (sym (returns-in-Some-clause-values c)) (order_of_answered c.args.position c.args.outcome (values_of c.args.rows.now.entries) c.requires.ordered)

pub returns-in_default-clause-values : goal.returns-in_default-clause-values
returns-in_default-clause-values c = unanswered_stay c.args.position c.args.outcome (values_of c.args.rows.now.entries) c.in_default.ensures.entry
