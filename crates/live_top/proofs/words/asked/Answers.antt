use Rattle.std.proofs.Common.{◌≡◌, ◌↔◌, List, Some, sym, subst}
use Rattle.std.specs.Prelude.{IfOk, string_bytes}
use Rattle.live_words.specs.Words.{Text}
use Rattle.live_words.specs.declared.asking.LiveWords.{LiveWords}
use Rattle.live_top.specs.Headline.{AsksFor}
use Rattle.live_top.proofs.Asked.{asked_can, asked_for, words_front}
use Rattle.live_top.proofs.words.asked.Goals as goal

pub returns-in-len1-up-clause-can : goal.returns-in-len1-up-clause-can
returns-in-len1-up-clause-can c = asked_can _ c.read_live.result c.read_live.ensures

pub returns-in-len1-up-clause-asked : goal.returns-in-len1-up-clause-asked
returns-in-len1-up-clause-asked c =
    let front = words_front c.args.words.now c.first-item.result _ c.in-len1-up.len_at_least c.first-item.is in
    let first = c.is_live_word.ensures.0 c.if-is_live_word.true in
    subst (λ (words : List Text). IfOk c.read_live.result (λ asked. (live : LiveWords) → (asked ≡ Some live) ↔ AsksFor words live)) (sym front)
    (asked_for (string_bytes c.first-item.result) _ c.read_live.result first c.read_live.ensures)
