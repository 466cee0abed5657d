use Rattle.std.proofs.Common.{◌≡◌, ℕ, List, [], ◌∷◌, ◌++◌, codes, decimal, refl, ap, subst, ◌∙◌}
use Rattle.std.specs.Prelude.{OnOk}
use Rattle.ft_report.specs.Report.{end_text}
use Rattle.ft_report.proofs.Joined.{parts_line}
use Rattle.ft_report.proofs.rendering.done_line.Goals as goal

-- a word with the client, the invocation's number, a space, and how the invocation ended
pub returns : goal.returns
returns c =
    let text = c.args.text.now.items in
    let client = codes "done " ++ c.args.client.now in
    let call = λ (number : ℕ). codes " " ++ decimal number in
    let ended = end_text c.args.end.now in
    subst (λ (said : List ℕ). OnOk c.end_line.result (c.end_line.new.text.items ≡ said))
    (ap (λ (said : List ℕ). said ++ 10 ∷ [])
    (c.in_ok-push_end.ensures ∙ ap (λ (said : List ℕ). said ++ ended)
    (c.in_ok-push.ensures.items ∙ ap (λ (said : List ℕ). said ++ 32 ∷ [])
    (c.in_ok-push_numbered.ensures ∙ ap (λ (said : List ℕ). said ++ call c.from.result) c.in_ok-push_named.ensures
    ∙ ap (λ (number : ℕ). (text ++ client) ++ call number) c.from.ensures)))
    ∙ parts_line text (client ∷ call c.args.call ∷ (32 ∷ []) ∷ ended ∷ [])
    (codes "done" ∷ c.args.client.now ∷ decimal c.args.call ∷ ended ∷ []) refl)
    c.end_line.ensures
