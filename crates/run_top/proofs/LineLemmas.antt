-- A script's run is the run of its lines.
use Rattle.std.proofs.Common.{◌≡◌, ℕ, suc, zero, ◌+◌, Bool, true, false, List, [], ◌∷◌, ◌++◌, length, take, refl, sym, ap, ◌∙◌, arith, if◌then◌else◌, nat_lt, Option, Some, None, Result, Ok, Err}
use Rattle.std.proofs.lemmas.Grind.{flat_map-append}
use Rattle.std.specs.Prelude.{flat_map}
use Rattle.fault_script.specs.Forms.{parse}
use Rattle.fault_script.specs.declared.lines.Line.{Line}
use Rattle.fault_script.specs.declared.lines.LineFault.{LineFault}
use Rattle.ft_report.specs.Report.{report_text}
use Rattle.ft_report.specs.declared.reports.ReportLine.{ReportLine}
use Rattle.ft_world.specs.Acts.{act, act_first}
use Rattle.ft_world.specs.Laws.{AllLater, KeepsEntries, ScriptsAcceptOnce, ScriptsKeepEntries, ServantsAreCalled, calls_from, or_end, worked, world_after}
use Rattle.ft_world.specs.Leading.{DeliveriesAppendAtLeaders}
use Rattle.ft_world.specs.LinkTelling.{InjectionsAppendAtLeaders, InjectionsTellOnce}
use Rattle.ft_world.specs.Messages.{ScriptsReplyOnce}
use Rattle.ft_world.specs.Replying.{DeliveriesTellOnce}
use Rattle.run_top.specs.Lines.{RunsAcceptOnce, RunsAppendAtLeaders, RunsAppendAtLeadersOnLinks, RunsAreOfLines, RunsCallServants, RunsKeepEntries, RunsReplyOnce, RunsTellOnce, RunsTellOnceOnLinks, in_front_read, lines_read, report_of, reports_from, script_lines, world_at}
use Rattle.run_top.specs.Playing.{effect_of, printed_effect, rules}
use Rattle.script_pieces.specs.Runs.{RunEffect, lines_of, onward, refusal, run_of_lines, script_limit, text_of}
use Rattle.script_world.specs.World.{World, empty}
use Rattle.world_turns.specs.Answers.{calls_of}
use Rattle.world_turns.specs.Turns.{Turn, Goes, Refused, first_cause, judged, total_causes, totals_of, unless}

record IsOf (run : RunEffect LineFault) (w : World) (lines : List Line) : Type 0 where
  out : run.out ≡ flat_map report_text (reports_from w lines)
  calls : run.calls ≡ calls_from w lines

by_limit : (is_past : Bool) (past run : RunEffect LineFault) (w : World) (lines : List Line) → IsOf past w [] → IsOf run w lines →
    IsOf (if is_past then past else run) w (if is_past then [] else lines)
by_limit true past run w lines none is = none
by_limit false past run w lines none is = is

refused_is : (number : ℕ) (why : LineFault) (w : World) → IsOf (refusal number why 0) w []
unfolding reports_from calls_from
refused_is number why w = record { out = refl; calls = refl }

-- a run of a line's turn, and of lines behind it in the next world
record IsOn (run : RunEffect LineFault) (t : Turn) (next : World) (lines : List Line) : Type 0 where
  out : run.out ≡ flat_map report_text (report_of t ++ or_end t (reports_from next lines) [])
  calls : run.calls ≡ calls_of t + or_end t (calls_from next lines) 0

module _ (number : ℕ) (run : World → RunEffect LineFault) (lines : List Line) (on : (next : World) → IsOf (run next) next lines) where
  unless_is : (o : Option LineFault) (next : World) (report : List ReportLine) (calls : ℕ) →
      let t = unless o calls (Goes next report calls) in IsOn (onward (printed_effect t) number run) t next lines
  unless_is None next report calls =
      let rest = on next in record {
        out = ap (λ (xs : List ℕ). flat_map report_text report ++ xs) rest.out ∙ sym (flat_map-append report_text report (reports_from next lines));
        calls = ap (λ (n : ℕ). calls + n) rest.calls;
      }
  unless_is (Some why) next report calls = record { out = refl; calls = omega arith }

  judged_is : (w : World) (t : Turn) → IsOn (onward (printed_effect (judged t)) number run) (judged t) (worked w t) lines
  judged_is w (Goes next report calls) = unless_is (first_cause (total_causes (totals_of next))) next report calls
  judged_is w (Refused why calls) = record { out = refl; calls = omega arith }

  read_is : (w : World) (read : Result (Option Line) LineFault) → IsOf (onward (effect_of w read) number run) w (in_front_read read lines)
  unfolding reports_from calls_from
  read_is w (Err why) = refused_is number why w
  read_is w (Ok None) = let rest = on w in let same = rest.calls in record { out = rest.out; calls = omega (arith, same) }
  read_is w (Ok (Some line)) = let is = judged_is w (act_first w line) in record { out = is.out; calls = is.calls }

lines_are : (w : World) (number before : ℕ) (texts : List (List ℕ)) → IsOf (run_of_lines rules w number before texts) w (lines_read before texts)
unfolding run_of_lines lines_read reports_from calls_from
lines_are w number before [] = record { out = refl; calls = refl }
lines_are w number before (text ∷ texts) =
    let rest = λ (next : World). run_of_lines rules next (number + 1) (before + length text) texts in
    by_limit (nat_lt script_limit (before + length text)) (refusal number rules.past 0) (onward (rules.effect w (text_of text)) number rest)
    w (in_front_read (parse (text_of text)) (lines_read (before + length text) texts))
    (refused_is number rules.past w)
    (read_is number rest (lines_read (before + length text) texts) (λ next. lines_are next (number + 1) (before + length text) texts) w (parse (text_of text)))

pub runs_are_of_lines : RunsAreOfLines
runs_are_of_lines bytes = let is = lines_are empty 1 0 (lines_of bytes) in record { out = is.out; calls = is.calls }

pub runs_accept_once : ScriptsAcceptOnce → RunsAcceptOnce
runs_accept_once law bytes count = law (take count (script_lines bytes))

module _ (law : ScriptsKeepEntries) where
  same : (w : World) → AllLater KeepsEntries w.groups w.groups
  unfolding world_after
  same w = law w []

  either_keeps : (t : Turn) (some all end : World) → AllLater KeepsEntries some.groups all.groups →
      AllLater KeepsEntries (or_end t some end).groups (or_end t all end).groups
  either_keeps (Goes next report calls) some all end on = on
  either_keeps (Refused why calls) some all end on = same end

  some_keep : (w : World) (count : ℕ) (lines : List Line) → AllLater KeepsEntries (world_after w (take count lines)).groups (world_after w lines).groups
  unfolding world_after
  some_keep w zero lines = law w lines
  some_keep w (suc count) [] = same w
  some_keep w (suc count) (line ∷ lines) =
      let next = worked w (act_first w line) in
      either_keeps (act w line) (world_after next (take count lines)) (world_after next lines) next (some_keep next count lines)

  pub runs_keep_entries : RunsKeepEntries
  runs_keep_entries bytes count = some_keep empty count (script_lines bytes)

pub runs_call_servants : ServantsAreCalled → RunsCallServants
runs_call_servants law bytes = (runs_are_of_lines bytes).calls ∙ law (script_lines bytes)

pub runs_tell_once : DeliveriesTellOnce → RunsTellOnce
runs_tell_once law bytes count k stop = law (world_at bytes count) k stop

pub runs_tell_once_on_links : InjectionsTellOnce → RunsTellOnceOnLinks
runs_tell_once_on_links law bytes count host link = law (world_at bytes count) host link

pub runs_reply_once : ScriptsReplyOnce → RunsReplyOnce
runs_reply_once law bytes count = law (take count (script_lines bytes))

pub runs_append_at_leaders : DeliveriesAppendAtLeaders → RunsAppendAtLeaders
runs_append_at_leaders law bytes count k stop = law (take count (script_lines bytes)) k stop

pub runs_append_at_leaders_on_links : InjectionsAppendAtLeaders → RunsAppendAtLeadersOnLinks
runs_append_at_leaders_on_links law bytes count host link = law (take count (script_lines bytes)) host link
