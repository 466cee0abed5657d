use Rattle.std.proofs.Common.{◌∙◌, ap, sym, subst, List, ℕ, Some, None, cond, Option}
use Rattle.ft_base.specs.Journal.{is_unexpired}
use Rattle.std.proofs.lemmas.Map.Entries.{option_filter}
use Rattle.reply_table.specs.Ids.{IsFiledBy}
use Rattle.reply_table.specs.declared.entries.Retained.{Retained}
use Rattle.reply_table.proofs.Filed.{holder_by_id}
use Rattle.reply_table.proofs.rows.holder.Goals as goal
use Rattle.reply_table.proofs.rows.holder.Goals.{in_default-via-in-Some+else-is_unexpired, in_default-via-in_default}

pub returns-in-Some : goal.returns-in-Some
returns-in-Some c =
    let filed = subst (λ (id : List ℕ). IsFiledBy id c.args.key.now) (sym c.as_slice.ensures.value) c.put_id.ensures.filed in
    let by_id = holder_by_id c.args.key.now c.as_slice.result.now filed c.args.now.0 c.args.rows.now.entries c.requires c.len-count.ensures.unique in
    sym (by_id ∙ ap (λ o. option_filter (λ (r : Retained). is_unexpired c.args.now.0 r.request.key) o) (sym c.in-Some.ensures.value)
    ∙ ap (λ b. cond b (Some c.in-Some.entry.now) None) (sym c.if-is_unexpired.ensures))

pub returns-in_default : goal.returns-in_default
returns-in_default c =
    let filed = subst (λ (id : List ℕ). IsFiledBy id c.args.key.now) (sym c.as_slice.ensures.value) c.put_id.ensures.filed in
    let by_id = holder_by_id c.args.key.now c.as_slice.result.now filed c.args.now.0 c.args.rows.now.entries c.requires c.len-count.ensures.unique in
    let holds = λ (o : Option Retained). option_filter (λ (r : Retained). is_unexpired c.args.now.0 r.request.key) o in
    elim c.in_default.branch [
      | in_default-via-in-Some+else-is_unexpired w ↦
          sym (by_id ∙ ap holds (sym w.in-Some.ensures.value) ∙ ap (λ b. cond b (Some w.in-Some.entry.now) None) (sym w.if-is_unexpired.ensures))
      | in_default-via-in_default w ↦ sym (by_id ∙ ap holds (sym w.in_default.ensures.value))
    ]
