use Rattle.std.proofs.Common.{Bool, List, ap, ◌∙◌, sym, drop, ◌||◌}
use Rattle.std.specs.List.{list_any}
use Rattle.iogr_reference.specs.declared.references.GroupRef.{GroupRef as AReference}
use Rattle.script_clients.specs.Clients.{is_of}
use Rattle.script_clients.proofs.Parts.{any_from}
use Rattle.script_clients.proofs.references.has_any_from.Goals as goal

pub returns-else-has_any : goal.returns-else-has_any
returns-else-has_any c =
    let p : AReference → Bool = λ r. is_of c.args.group r in
    let front : List AReference = c.as_slices.result.0.now in
    let back : List AReference = c.as_slices.result.1.now in
    c.has_any-else-has_any.ensures
    ∙ ap (list_any p) c.behind-else-has_any.ensures
    ∙ ap (λ b. b || list_any p (drop c.saturating_sub.result back)) (sym c.if-has_any.false ∙ c.has_any.ensures ∙ ap (list_any p) c.behind.ensures)
    ∙ any_from p c.args.place c.saturating_sub.result front back c.saturating_sub.ensures
    ∙ ap (λ (l : List AReference). list_any p (drop c.args.place l)) c.as_slices.ensures.items
