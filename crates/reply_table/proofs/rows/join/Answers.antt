use Rattle.std.proofs.Common.{◌≡◌, ◌<◌, ◌∙◌, ap, sym, subst, List, [], ◌∷◌, ◌++◌, not, Option}
use Rattle.std.specs.Map.{values_of}
use Rattle.std.proofs.lemmas.Map.{lookup-none, NonePasses}
use Rattle.indexmap.proofs.CallerLemmas.{insert_entry-new}
use Rattle.ft_base.specs.declared.requests.Key.{Key}
use Rattle.ft_base.specs.Journal.{is_call}
use Rattle.reply_table.specs.Entries.{joined, without, AreInOrder}
use Rattle.reply_table.specs.Ids.{AreFiled, IsFiledAs}
use Rattle.reply_table.specs.declared.entries.Retained.{Retained}
use Rattle.reply_table.proofs.Filed.{with_id, same_ids, none_of_others, values_of_push, all_of_filter, all_of_push}
use Rattle.reply_table.proofs.Order.{order_of_filter, order_of_push}
use Rattle.reply_table.proofs.rows.join.Goals as goal

pushed : (c : goal.Joined-unwrap) → c.insert.new.self.entries ≡ c.forget.new.rows.entries ++ (c.file-id.result, c.args.entry) ∷ []
pushed c =
    let none : NonePasses (with_id c.file-id.result.items) c.forget.new.rows.entries =
    subst (λ es. NonePasses (with_id c.file-id.result.items) es) (sym c.forget.ensures.filtered)
    (none_of_others c.in-Some.key c.file-id.result.items c.file-id.ensures c.args.rows.now.entries c.requires.filed)
    in
    let entries = rw c.unwrap.ensures at c.insert.ensures.entries in
    entries
    ∙ insert_entry-new same_ids c.forget.new.rows c.file-id.result c.args.entry
    (lookup-none (with_id c.file-id.result.items) c.forget.new.rows.entries none)

pub returns-clause-values : goal.returns-clause-values
returns-clause-values c =
    ap (λ es. values_of es) (pushed c) ∙ values_of_push c.forget.new.rows.entries (c.file-id.result, c.args.entry)
    ∙ ap (λ (rs : List Retained). rs ++ c.args.entry ∷ []) c.forget.ensures.values
    ∙ sym (ap (λ (key : Option Key). joined (values_of c.args.rows.now.entries) c.args.entry key) c.in-Some.is)

pub returns-clause-filed : goal.returns-clause-filed
returns-clause-filed c =
    subst (λ es. AreFiled es) (sym (pushed c))
    (all_of_push (λ e. IsFiledAs e.0.items e.1.request.key) c.forget.new.rows.entries (c.file-id.result, c.args.entry)
    (subst (λ es. AreFiled es) (sym c.forget.ensures.filtered)
    (all_of_filter (λ e. IsFiledAs e.0.items e.1.request.key) (λ e. not (is_call c.in-Some.key e.1.request.key)) c.args.rows.now.entries c.requires.filed))
    (subst (λ (key : Option Key). IsFiledAs c.file-id.result.items key) (sym c.in-Some.is) c.file-id.ensures))

pub returns-clause-ordered : goal.returns-clause-ordered
returns-clause-ordered c =
    let p = λ (r : Retained). not (is_call c.in-Some.key r.request.key) in
    let rs = values_of c.args.rows.now.entries in
    let values = ap (λ es. values_of es) (pushed c) ∙ values_of_push c.forget.new.rows.entries (c.file-id.result, c.args.entry)
    ∙ ap (λ (rs : List Retained). rs ++ c.args.entry ∷ []) c.forget.ensures.values
    in
    subst (λ rs. AreInOrder rs) (sym values)
    (order_of_push (without c.in-Some.key rs) c.args.entry (order_of_filter p rs c.requires.ordered)
    (all_of_filter (λ (other : Retained). other.position < c.args.entry.position) p rs c.requires.later))
