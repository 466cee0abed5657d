use Rattle.std.proofs.Common.{◌≡◌, ℕ, List, [], ◌∷◌, ◌++◌, codes, decimal, refl, ap, subst, ◌∙◌}
use Rattle.std.specs.Prelude.{OnOk}
use Rattle.ft_report.specs.Report.{outcome_text}
use Rattle.ft_report.proofs.Joined.{parts_line}
use Rattle.ft_report.proofs.rendering.reply_line.Goals as goal

-- four words, each with what stands behind it, a space, and what the request came to
pub returns : goal.returns
returns c =
    let text = c.args.text.now.items in
    let message = codes "msg " ++ decimal c.args.message in
    let host = λ (number : ℕ). codes " host " ++ decimal number in
    let client = codes " to client " ++ c.args.client.now in
    let id = λ (number : ℕ). codes " reply " ++ decimal number in
    let shown = outcome_text c.args.shown.now in
    subst (λ (said : List ℕ). OnOk c.end_line.result (c.end_line.new.text.items ≡ said))
    (ap (λ (said : List ℕ). said ++ 10 ∷ [])
    (c.in_ok-push_outcome.ensures ∙ ap (λ (said : List ℕ). said ++ shown)
    (c.in_ok-push.ensures.items ∙ ap (λ (said : List ℕ). said ++ 32 ∷ [])
    (c.in_ok-push_numbered-3.ensures ∙ ap (λ (said : List ℕ). said ++ id c.from-2.result)
    (c.in_ok-push_named.ensures ∙ ap (λ (said : List ℕ). said ++ client)
    (c.in_ok-push_numbered-2.ensures ∙ ap (λ (said : List ℕ). said ++ host c.from.result) c.in_ok-push_numbered.ensures))
    ∙ ap (λ (number : ℕ). (((text ++ message) ++ host number) ++ client) ++ id c.from-2.result) c.from.ensures
    ∙ ap (λ (number : ℕ). (((text ++ message) ++ host c.args.host.0) ++ client) ++ id number) c.from-2.ensures)))
    ∙ parts_line text (message ∷ host c.args.host.0 ∷ client ∷ id c.args.id ∷ (32 ∷ []) ∷ shown ∷ [])
    (codes "msg" ∷ decimal c.args.message ∷ codes "host" ∷ decimal c.args.host.0 ∷ codes "to client" ∷ c.args.client.now ∷ codes "reply" ∷ decimal c.args.id ∷ shown ∷ [])
    refl)
    c.end_line.ensures
