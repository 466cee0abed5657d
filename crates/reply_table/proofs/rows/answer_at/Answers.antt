use Rattle.std.proofs.Common.{ap}
use Rattle.indexmap.specs.Layout.{set_value_at}
use Rattle.reply_table.specs.declared.entries.Retained.{Retained}
use Rattle.reply_table.proofs.rows.answer_at.Goals as goal

pub returns-clause-entries : goal.returns-clause-entries
returns-clause-entries c = record {
  entry = (c.pair_mut-entry.result.0.now, c.pair_mut-entry.result.1.now);
  at = c.pair_mut-entry.ensures.value;
  is = ap (λ (e : Retained). set_value_at c.args.rows.now.entries c.args.index e) c.answer_entry.ensures;
}
