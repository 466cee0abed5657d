use Rattle.std.proofs.Common.{◌∙◌, List, ap, subst, sym, IsTrue, codes, ◌↔◌, ℕ}
use Rattle.std.specs.Str.{bytes_eq}
use Rattle.std.specs.Prelude.{String, string_bytes}
use Rattle.std.specs.declared.alloc.Global.{Global}
use Rattle.run_top.specs.Words.{IsRun}
use Rattle.run_top.proofs.WordLemmas.{one_word, same_text}
use Rattle.run_top.proofs.words.is_run.Goals as goal

pub returns-in-len1 : goal.returns-in-len1
returns-in-len1 c =
    subst (λ (words : List (String Global)). IsTrue c.eq.result ↔ IsRun words)
    (sym (one_word c.args.words.now c.word-item.result c.in-len1.len_at_least c.in-len1.len_below c.word-item.is))
    (same_text (string_bytes c.word-item.result) (codes "run") c.eq.result
    (c.eq.ensures ∙ ap (λ (t : List ℕ). bytes_eq t (codes "run")) c.as_str.ensures.value))
