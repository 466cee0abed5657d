-- An overlong line is refused, however it goes on.
use Rattle.std.specs.Prelude.{◌≡◌, ℕ, ◌<◌, ◌≤◌, nat_lt, List, length, take, Err}
use Rattle.std.proofs.Common.{sym, ap, ◌∙◌, ⊎_elim, arith}
use Rattle.std.proofs.lemmas.List.{take_all, length-take}
use Rattle.std.proofs.lemmas.Bool.{cases_lt, cond-true, lt-ltb}
use Rattle.fault_script.specs.Forms.{parse, parse_words}
use Rattle.fault_script.specs.Words.{words}
use Rattle.fault_script.specs.declared.lines.LimitName.TheVariants as limits
use Rattle.fault_script.specs.declared.lines.LineFault.TheVariants.{Limit}
use Rattle.script_world.specs.World.{World}
use Rattle.run_top.specs.Playing.{effect_of, rules}

pub long : (text : List ℕ) → 4096 < length text → parse text ≡ Err (Limit limits.Line)
long text h = cond-true (nat_lt 4096 (length text)) (Err (Limit limits.Line)) (parse_words (words text)) (lt-ltb 4096 (length text) h)

pub alike : (w : World) (text : List ℕ) → rules.effect w text ≡ rules.effect w (take 4097 text)
alike w text =
    ⊎_elim
    (λ (h : 4096 < length text). ap (effect_of w) (long text h ∙ sym (long (take 4097 text) (omega (arith, length-take 4097 text)))))
    (λ (h : length text ≤ 4096). sym (ap (λ (xs : List ℕ). rules.effect w xs) (take_all 4097 text (omega arith))))
    (cases_lt 4096 (length text))
