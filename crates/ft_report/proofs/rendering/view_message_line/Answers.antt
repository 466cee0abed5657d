use Rattle.std.proofs.Common.{◌≡◌, ℕ, List, [], ◌∷◌, ◌++◌, codes, decimal, subst}
use Rattle.std.specs.Prelude.{OnOk}
use Rattle.report_words.specs.Words.{line}
use Rattle.ft_report.proofs.rendering.view_message_line.Goals as goal

-- what is told ends in the words of the view
pub returns : goal.returns
returns c =
    subst (λ (told : List ℕ). OnOk c.told_line.result (c.told_line.new.text.items ≡ c.args.text.now.items ++ line (codes "msg" ∷ decimal c.args.message ∷ codes "manager to host" ∷ decimal c.args.host.0 ∷ told ∷ [])))
    c.in_ok-view.ensures c.told_line.ensures
