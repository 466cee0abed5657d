use Rattle.std.proofs.Common.{◌≡◌, ℕ, List, [], ◌∷◌, ◌++◌, codes, decimal, refl, ap, subst, ◌∙◌}
use Rattle.std.specs.Prelude.{OnOk}
use Rattle.ft_report.specs.Report.{decision_text}
use Rattle.ft_report.proofs.Joined.{parts_line}
use Rattle.ft_report.proofs.rendering.at_line.Goals as goal

-- a word with the host, the group, a space, and what the host made of the request
pub returns : goal.returns
returns c =
    let text = c.args.text.now.items in
    let host = λ (number : ℕ). codes "at " ++ decimal number in
    let group = codes " " ++ c.args.group.now in
    let decision = decision_text c.args.decision in
    subst (λ (said : List ℕ). OnOk c.end_line.result (c.end_line.new.text.items ≡ said))
    (ap (λ (said : List ℕ). said ++ 10 ∷ [])
    (c.in_ok-push_decision.ensures ∙ ap (λ (said : List ℕ). said ++ decision)
    (c.in_ok-push.ensures.items ∙ ap (λ (said : List ℕ). said ++ 32 ∷ [])
    (c.in_ok-push_named.ensures ∙ ap (λ (said : List ℕ). said ++ group)
    (c.in_ok-push_numbered.ensures ∙ ap (λ (number : ℕ). text ++ host number) c.from.ensures))))
    ∙ parts_line text (host c.args.host.0 ∷ group ∷ (32 ∷ []) ∷ decision ∷ [])
    (codes "at" ∷ decimal c.args.host.0 ∷ c.args.group.now ∷ decision ∷ []) refl)
    c.end_line.ensures
