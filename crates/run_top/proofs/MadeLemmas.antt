-- A script that is made runs as its text does, but for what its lines print.
use Rattle.std.proofs.Common.{◌≡◌, ℕ, ◌+◌, ◌≤◌, arith, Bool, true, false, List, [], ◌∷◌, length, refl, sym, ap, subst, ◌∙◌, if◌then◌else◌, nat_lt, Option, None}
use Rattle.std.proofs.lemmas.Bool.Decides.{nat_tests}
use Rattle.std.proofs.lemmas.List.Sums.{sum_by-cons}
use Rattle.std.specs.Prelude.{sum_by}
use Rattle.fault_script.specs.declared.lines.Line.{Line}
use Rattle.fault_script.specs.declared.lines.LineFault.{LineFault}
use Rattle.made_lines.specs.Made.{made_lines}
use Rattle.made_lines.specs.Reading.{MadeTextsRead, ReadAs}
use Rattle.made_scripts.specs.Scripts.{script_text}
use Rattle.made_worlds.specs.Going.{AllGo, LeadsTo, MadeLinesGo}
use Rattle.script_pieces.specs.Feeds.{IsGain}
use Rattle.script_pieces.specs.Runs.{LineEffect, Goes, Stops, RunEffect, lines_of, onward, run, run_of_lines, refusal, script_limit, text_of}
use Rattle.script_world.specs.World.{World, empty}
use Rattle.world_turns.specs.Turns.{Turn}
use Rattle.world_turns.specs.Turns as turns
use Rattle.ft_world.specs.Acts.{act}
use Rattle.run_ends.specs.Ends.{IsPrefixGain}
use Rattle.run_top.specs.Headline.{error_text, status_of}
use Rattle.run_top.specs.Laws.{MadeRunsAreRuns, MadeRunsAreWhole}
use Rattle.run_top.specs.Making.{Tally, counted, fresh, tallied}
use Rattle.run_top.specs.Making as making
use Rattle.run_top.specs.Playing as script
use Rattle.run_top.proofs.EndLemmas.{whole_is_prefix}

-- two runs refuse the same line, and call servants as often
record IsLike (a b : RunEffect LineFault) : Type 0 where
  refused : a.refused ≡ b.refused
  calls : a.calls ≡ b.calls

on_like : (t : Tally) (text : List ℕ) (number : ℕ) (made : Tally → RunEffect LineFault) (ran : World → RunEffect LineFault) (e : LineEffect World LineFault)
    → ((next : Tally) → IsLike (made next) (ran next.world))
    → IsLike (onward (tallied t text e) number made) (onward e number ran)
on_like t text number made ran (Goes next out calls) like =
    let rest = like (counted t next calls) in
    record { refused = rest.refused; calls = ap (λ (n : ℕ). calls + n) rest.calls }
on_like t text number made ran (Stops why calls) like = record { refused = refl; calls = refl }

by_limit : (is_past : Bool) (past a b : RunEffect LineFault) → IsLike a b
    → IsLike (if is_past then past else a) (if is_past then past else b)
by_limit true past a b like = record { refused = refl; calls = refl }
by_limit false past a b like = like

lines_like : (t : Tally) (number before : ℕ) (lines : List (List ℕ))
    → IsLike (run_of_lines making.rules t number before lines) (run_of_lines script.rules t.world number before lines)
unfolding run_of_lines
lines_like t number before [] = record { refused = refl; calls = refl }
lines_like t number before (line ∷ lines) =
    by_limit (nat_lt script_limit (before + length line)) (refusal number making.rules.past 0)
    (onward (making.rules.effect t (text_of line)) number (λ next. run_of_lines making.rules next (number + 1) (before + length line) lines))
    (onward (script.rules.effect t.world (text_of line)) number (λ next. run_of_lines script.rules next (number + 1) (before + length line) lines))
    (on_like t (text_of line) number
    (λ next. run_of_lines making.rules next (number + 1) (before + length line) lines)
    (λ next. run_of_lines script.rules next (number + 1) (before + length line) lines)
    (script.rules.effect t.world (text_of line))
    (λ next. lines_like next (number + 1) (before + length line) lines))

pub made_runs_are_runs : MadeRunsAreRuns
made_runs_are_runs rounds =
    let like = lines_like (fresh rounds) 1 0 (lines_of (script_text rounds)) in
    record {
      status = ap (λ (refused : Option (ℕ × LineFault)). status_of refused) like.refused;
      err = ap (λ (refused : Option (ℕ × LineFault)). error_text refused) like.refused;
      calls = like.calls;
    }

-- all of the output of a made script is a prefix of it
pub all_is_prefix : (t : Tally) (rounds : ℕ) (text : List ℕ) (before holds : Option (List ℕ)) → t ≡ fresh rounds → text ≡ script_text rounds
    → IsGain before holds (run making.rules t text).out
    → IsPrefixGain before holds (run making.rules (fresh rounds) (script_text rounds)).out
all_is_prefix t rounds text before holds is_fresh is_text gain =
    let fresh_gain = subst (λ (u : Tally). IsGain before holds (run making.rules u text).out) is_fresh gain in
    whole_is_prefix before holds _ (subst (λ (xs : List ℕ). IsGain before holds (run making.rules (fresh rounds) xs).out) is_text fresh_gain)

-- ---- no line of it is refused

abbrev IsWhole : RunEffect LineFault → Type 0
IsWhole run = run.refused ≡ None

within_whole : (is_past : Bool) (past a : RunEffect LineFault) → is_past ≡ false → IsWhole a → IsWhole (if is_past then past else a)
within_whole true past a within whole = absurd cc
within_whole false past a within whole = whole

turn_whole : (t : Turn) (number : ℕ) (rest : World → RunEffect LineFault) (lines : List Line) → ((next : World) → AllGo next lines → IsWhole (rest next)) →
    LeadsTo t (λ next. AllGo next lines) → IsWhole (onward (script.printed_effect t) number rest)
turn_whole (turns.Goes next report calls) number rest lines on goes = on next goes
turn_whole (turns.Refused why calls) number rest lines on goes = absurd goes

-- texts that read as lines that all go on, and aren't past the limit
lines_whole : (w : World) (number before : ℕ) (texts : List (List ℕ)) (lines : List Line) → ReadAs texts lines → AllGo w lines →
    before + sum_by length texts ≤ script_limit → IsWhole (run_of_lines script.rules w number before texts)
unfolding run_of_lines AllGo
lines_whole w number before [] lines read go fits = refl
lines_whole w number before (text ∷ texts) [] read go fits = absurd read
lines_whole w number before (text ∷ texts) (line ∷ lines) read go fits =
    let long = sum_by-cons length text texts in
    let within : nat_lt script_limit (before + length text) ≡ false = grind (arith, nat_tests, long, fits) in
    let rest = λ (next : World). run_of_lines script.rules next (number + 1) (before + length text) texts in
    within_whole (nat_lt script_limit (before + length text)) (refusal number script.rules.past 0) (onward (script.rules.effect w (text_of text)) number rest) within
    (subst (λ r. IsWhole (onward (script.effect_of w r) number rest)) (sym read.0)
    (turn_whole (act w line) number rest lines (λ next goes. lines_whole next (number + 1) (before + length text) texts lines read.1 goes (omega (arith, long, fits))) go))

from_nought : (n limit : ℕ) → n ≤ limit → 0 + n ≤ limit
from_nought n limit le = omega (arith, le)

pub made_runs_are_whole : MadeTextsRead → MadeLinesGo → MadeRunsAreWhole
made_runs_are_whole read go rounds few =
    let is = read rounds few in
    let whole = lines_whole empty 1 0 (lines_of (script_text rounds)) (made_lines rounds) is.lines (go rounds few)
    (from_nought (sum_by length (lines_of (script_text rounds))) script_limit is.fits) in
    ap (λ (refused : Option (ℕ × LineFault)). status_of refused) ((lines_like (fresh rounds) 1 0 (lines_of (script_text rounds))).refused ∙ whole)
