-- What a call answered that answers as the table says.
use Rattle.std.proofs.Common.{◌≡◌, ℕ, ◌≤◌, ◌∙◌, Bool, true, false, List, length, Option, Some, None, Result, Ok, Err, nat_lt, subst, cond}
use Rattle.std.specs.Prelude.{IfOk, IfSome}
use Rattle.fault_script.specs.Words.{words}
use Rattle.fault_script.specs.Faults.{IsAnswer}
use Rattle.fault_script.specs.Forms.{parse_words, parse}
use Rattle.fault_script.specs.Grammar.{Spells}
use Rattle.fault_script.proofs.GrammarLemmas.{read_is_spelled, spelled_is_read}
use Rattle.fault_script.proofs.ReadingLemmas.{parse-short}
use Rattle.fault_script.specs.declared.lines.Line.{Line}
use Rattle.fault_script.specs.declared.lines.LineFault.{LineFault}
use Rattle.fault_script.specs.declared.lines.LineFault.TheVariants.{Limit}
use Rattle.fault_script.specs.declared.lines.LimitName.TheVariants as limits

not_long : (b : Bool) (read : Result (Option Line) LineFault) (line : Line) → cond b (Err (Limit limits.Line)) read ≡ Ok (Some line) → read ≡ Ok (Some line)
not_long true read line e = cc
not_long false read line e = e

some_spelled : (text : List ℕ) (read : Option Line) → parse text ≡ Ok read → IfSome read (Spells (words text))
some_spelled text None e = tt
some_spelled text (Some line) e =
    read_is_spelled (words text) line (not_long (nat_lt 4096 (length text)) (parse_words (words text)) line e)

pub answer_spelled : (text : List ℕ) (answer : Result (Option Line) LineFault) → IsAnswer answer (parse text) → IfOk answer (λ read. IfSome read (Spells (words text)))
answer_spelled text (Ok read) e = some_spelled text read e
answer_spelled text (Err fault) e = tt

pub spelled_answer : (text : List ℕ) (answer : Result (Option Line) LineFault) → IsAnswer answer (parse text)
    → (line : Line) → length text ≤ 4096 → Spells (words text) line → IsAnswer answer (Ok (Some line))
spelled_answer text answer e line short spelled =
    subst (λ (wanted : Result (Option Line) LineFault). IsAnswer answer wanted)
    (parse-short text short ∙ spelled_is_read (words text) line spelled) e
