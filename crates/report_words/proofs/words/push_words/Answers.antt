use Rattle.std.proofs.Common.{ℕ, ◌++◌, ◌∷◌, List, ap, append_assoc, ◌∙◌}
use Rattle.std.specs.List.{flat_map}
use Rattle.report_words.proofs.Joined.{joined_words}
use Rattle.report_words.specs.Words.{word_text}
use Rattle.report_words.proofs.words.push_words.Goals as goal

pub returns-in_ok-push_each : goal.returns-in_ok-push_each
returns-in_ok-push_each c =
    let first = c.in-Some.first.now in
    let behind = flat_map (λ word. c.args.separator ∷ word_text word) c.in-Some.rest.now in
    c.in_ok-push_each.ensures
    ∙ ap (λ (t : List ℕ). t ++ behind) c.in_ok-push_word.ensures
    ∙ append_assoc c.args.text.now.items (word_text first) behind
    ∙ ap (λ (t : List ℕ). c.args.text.now.items ++ t) (joined_words _ _ _ _ c.in-Some.ensures.cases)
