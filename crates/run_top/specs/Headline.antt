-- The whole run of a script: its output, status, error text and servant calls.
use Rattle.std.specs.Prelude.{◌≡◌, ◌≢◌, ℕ, ◌+◌, ◌≤◌, ◌↔◌, ◌⊎◌, ◌++◌, List, [], ◌∷◌, codes, decimal, Option, Some, None, IfSome}
use Rattle.std.specs.declared.alloc.Global.{Global}
use Rattle.std.specs.declared.string.String.{String}
use Rattle.ft_outside.specs.Outside.{next_count}
use Rattle.run_ends.specs.Ends.{IfFault, IsPrefixGain, IsTold}
use Rattle.fault_script.specs.Faults.{fault_text}
use Rattle.fault_script.specs.declared.lines.LineFault.{LineFault}
use Rattle.made_scripts.specs.Scripts.{script_text}
use Rattle.script_world.specs.World.{empty}
use Rattle.script_pieces.specs.Feeds.{IsGain}
use Rattle.script_pieces.specs.Runs.{RunEffect, run, whole_run}
use Rattle.script_pieces.specs.Scripts.{IsAtEnd, bytes_read}
use Rattle.run_top.specs.Making as making
use Rattle.run_top.specs.Playing.{rules}
use Rattle.run_top.specs.Words.{IfMake, IsMake, IsRun}

-- the run of the program: its output, its status, its text of errors, and its servant calls
pub record Run : Type 0 where
  pub out : List ℕ
  pub status : ℕ
  pub err : List ℕ
  pub calls : ℕ

-- 0, or 3 where a line was refused
abbrev pub status_of : Option (ℕ × LineFault) → ℕ
status_of None = 0
status_of (Some refused) = 3

-- `ftc: line N: WHY`
abbrev pub refusal_text : ℕ → LineFault → List ℕ
refusal_text number why = codes "ftc: line " ++ decimal number ++ codes ": " ++ fault_text why ++ 10 ∷ []

-- the text of errors: none where no line was refused
abbrev pub error_text : Option (ℕ × LineFault) → List ℕ
error_text None = []
error_text (Some refused) = refusal_text refused.0 refused.1

-- the program's run, of what its script does
abbrev pub run_of : RunEffect LineFault → Run
run_of effect = record {
  out = effect.out;
  status = status_of effect.refused;
  err = error_text effect.refused;
  calls = effect.calls;
}

-- the run of a script's bytes, from the empty world, up to the first line that is refused
abbrev pub script_run : List ℕ → Run
script_run bytes = run_of (run rules empty bytes)

-- the run of a script that is made, of so many rounds: of its output, what its `show` prints, behind a line of counts
abbrev pub made_run : ℕ → Run
made_run rounds = run_of (run making.rules (making.fresh rounds) (script_text rounds))

-- the outside of a run at one moment: what is left to read, where the source tells that, what the two sinks hold, how
-- many calls of each of the three failed, and how often servants were called
pub record Outside : Type 0 where
  pub left : Option (List ℕ)
  pub read_faults : ℕ
  pub out : Option (List ℕ)
  pub write_faults : ℕ
  pub err : Option (List ℕ)
  pub error_faults : ℕ
  pub calls : ℕ

-- the same of a run that reads nothing
abbrev pub sinks : Option (List ℕ) → ℕ → Option (List ℕ) → ℕ → ℕ → Outside
sinks out write_faults err error_faults calls = record {
  left = None;
  read_faults = 0;
  out = out;
  write_faults = write_faults;
  err = err;
  error_faults = error_faults;
  calls = calls;
}

-- the sink of errors was told a text
abbrev pub Tells : Outside → Outside → List ℕ → Type 0
Tells before after text = IsTold before.err after.err before.error_faults after.error_faults text

-- a run was done to its end: its status is answered, all its output is out, its text is told, and its servant calls are made
pub record IsDone (status : ℕ) (run : Run) (before after : Outside) : Type 0 where
  pub answer : status ≡ run.status
  pub output : IsGain before.out after.out run.out
  pub errors : Tells before after run.err
  pub calls : after.calls ≡ before.calls + run.calls

-- a run was broken off: a prefix of its output is out, and no more servant calls are made than it has
pub record IsBroken (run : Run) (before after : Outside) : Type 0 where
  pub output : IsPrefixGain before.out after.out run.out
  pub calls : after.calls ≤ before.calls + run.calls

-- what was read of a source that tells what it has left
abbrev pub input : Outside → Outside → List ℕ
input before after = bytes_read before.left after.left

-- the run of those lines of a script that have their LF
abbrev pub run_of_whole_lines : List ℕ → RunEffect LineFault
run_of_whole_lines bytes = whole_run rules empty bytes

-- a read failed: what the lines that were read whole print is out, none of them was refused, and their servant calls are made
pub record IsUnread (bytes : List ℕ) (before after : Outside) : Type 0 where
  pub output : IsGain before.out after.out (run_of_whole_lines bytes).out
  pub calls : after.calls ≡ before.calls + (run_of_whole_lines bytes).calls
  pub unrefused : (run_of_whole_lines bytes).refused ≡ None

-- a run stays as it is whatever follows what was read, or nothing is left
abbrev pub IsFinal : List ℕ → Option (List ℕ) → Type 0
IsFinal bytes left = ((more : List ℕ) → script_run (bytes ++ more) ≡ script_run bytes) ⊎ IsAtEnd left

-- what holds at status 0 or 3
abbrev pub IfEnded : ℕ → Type 0 → Type 0
IfEnded status P = (status ≡ 0) ⊎ (status ≡ 3) → P

-- what holds where the run stopped for a write or for memory
abbrev pub IfBroken : ℕ → Type 0 → Type 0
IfBroken status P = (status ≡ 5) ⊎ (status ≡ 6) → P

-- what holds where the source tells what it has left
abbrev pub WhereTold : Outside → Type 0 → Type 0
WhereTold before P = IfSome before.left (λ _. P)

-- `ftc run`: at status 0 or 3 the run of what was read was done; at 0 the source is at its end, and at 3 the refusal stands
-- whatever follows; at 4 the lines that were read whole were run; at 5 or 6 the run was broken off
pub record IsScriptEnd (status : ℕ) (before after : Outside) : Type 0 where
  pub done : IfEnded status (WhereTold before (IsDone status (script_run (input before after)) before after))
  pub at_end : status ≡ 0 → IsAtEnd after.left
  pub settled : status ≡ 3 → WhereTold before (IsFinal (input before after) after.left)
  pub unread : status ≡ 4 → WhereTold before (IsUnread (input before after) before after)
  pub broken : IfBroken status (WhereTold before (IsBroken (script_run (input before after)) before after))

-- `ftc run --make N`: the same of the script of N rounds, of which no line is refused; and nothing is read
pub record IsMadeEnd (status rounds : ℕ) (before after : Outside) : Type 0 where
  pub unrefused : status ≢ 3
  pub done : status ≡ 0 → IsDone status (made_run rounds) before after
  pub broken : IfBroken status (IsBroken (made_run rounds) before after)
  pub unread : after.left ≡ before.left

-- nothing was read, written or called
pub record IsUntouched (before after : Outside) : Type 0 where
  pub left : after.left ≡ before.left
  pub output : after.out ≡ before.out
  pub calls : after.calls ≡ before.calls

-- a fault is answered exactly where a call of its object failed, once, with its text; words of no form do nothing else
pub record IsFaultEnd (status : ℕ) (before after : Outside) : Type 0 where
  pub read_fault : status ≡ 4 → after.read_faults ≡ next_count before.read_faults
  pub no_read_fault : status ≢ 4 → after.read_faults ≡ before.read_faults
  pub write_fault : status ≡ 5 → after.write_faults ≡ next_count before.write_faults
  pub no_write_fault : status ≢ 5 → after.write_faults ≡ before.write_faults
  pub text : IfFault status (λ text. Tells before after text)
  pub untouched : status ≡ 2 → IsUntouched before after

-- the statuses of the program
abbrev pub IsStatus : ℕ → Type 0
IsStatus status = (status ≡ 0) ⊎ ((status ≡ 2) ⊎ ((status ≡ 3) ⊎ ((status ≡ 4) ⊎ ((status ≡ 5) ⊎ (status ≡ 6)))))

-- The run of the program over the words behind its name, by its status and by what stood outside before and after it.
pub record IsProgramRun (words : List (String Global)) (status : ℕ) (before after : Outside) : Type 0 where
  pub statuses : IsStatus status
  pub usage : (status ≡ 2) ↔ ((¬ IsRun words) × (¬ IsMake words))
  pub script : IsRun words → IsScriptEnd status before after
  pub made : IfMake words (λ rounds. IsMadeEnd status rounds before after)
  pub faults : IsFaultEnd status before after
