use Rattle.std.proofs.Common.{◌≡◌, ◌∙◌, ap, sym, subst, rules}
use Rattle.std.specs.List.{filter}
use Rattle.std.specs.Map.{values_of}
use Rattle.indexmap.proofs.CallerLemmas.{filter-RetainsPairs}
use Rattle.ft_base.specs.Journal.{is_unexpired}
use Rattle.reply_table.specs.Entries.{AreInOrder}
use Rattle.reply_table.specs.Ids.{AreFiled, IsFiledAs}
use Rattle.reply_table.specs.declared.entries.Retained.{Retained}
use Rattle.reply_table.proofs.Filed.{values_of_filter, all_of_filter}
use Rattle.reply_table.proofs.Order.{order_of_filter}
use Rattle.reply_table.proofs.rows.purge.Goals as goal

kept : (c : goal.After-retain) → c.retain.new.self.entries ≡ filter (λ e. is_unexpired c.args.time.0 e.1.request.key) c.args.rows.now.entries
kept c = filter-RetainsPairs _ (λ e. is_unexpired c.args.time.0 e.1.request.key) _ (λ k v b w g call. search rules) _ _ c.retain.ensures.filtered

pub returns-clause-values : goal.returns-clause-values
returns-clause-values c =
    ap (λ es. values_of es) (kept c) ∙ values_of_filter (λ (r : Retained). is_unexpired c.args.time.0 r.request.key) c.args.rows.now.entries

pub returns-clause-filed : goal.returns-clause-filed
returns-clause-filed c =
    subst (λ es. AreFiled es) (sym (kept c))
    (all_of_filter (λ e. IsFiledAs e.0.items e.1.request.key) (λ e. is_unexpired c.args.time.0 e.1.request.key) c.args.rows.now.entries c.requires.filed)

pub returns-clause-ordered : goal.returns-clause-ordered
returns-clause-ordered c =
    subst (λ rs. AreInOrder rs) (sym (returns-clause-values c))
    (order_of_filter (λ (r : Retained). is_unexpired c.args.time.0 r.request.key) (values_of c.args.rows.now.entries) c.requires.ordered)
