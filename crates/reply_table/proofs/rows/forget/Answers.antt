use Rattle.std.proofs.Common.{◌∙◌, ap, sym, not, List, ℕ, subst}
use Rattle.std.specs.Map.{values_of}
use Rattle.ft_base.specs.Journal.{is_call}
use Rattle.reply_table.specs.Ids.{IsFiledBy}
use Rattle.reply_table.specs.declared.entries.Retained.{Retained}
use Rattle.reply_table.proofs.Filed.{removed_by_id, values_of_filter}
use Rattle.reply_table.proofs.rows.forget.Goals as goal

pub returns-clause-filtered : goal.returns-clause-filtered
returns-clause-filtered c =
    let filed = subst (λ (id : List ℕ). IsFiledBy id c.args.key.now) (sym c.as_slice.ensures.value) c.put_id.ensures.filed in
    c.shift_remove.ensures.entries ∙ removed_by_id c.args.key.now c.as_slice.result.now filed c.args.rows.now.entries c.requires c.len-count.ensures.unique

pub returns-clause-values : goal.returns-clause-values
returns-clause-values c =
    ap (λ es. values_of es) (returns-clause-filtered c)
    ∙ values_of_filter (λ (r : Retained). not (is_call c.args.key.now r.request.key)) c.args.rows.now.entries
