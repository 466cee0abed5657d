-- A run of a script from a source to a sink.
use Rattle.std.specs.Prelude.{◌≡◌, ℕ, ◌-◌, ◌⊎◌, List, [], ◌++◌, length, take, Option, Some, None, option_map}
use Rattle.ft_outside.specs.Outside.{next_count}
use Rattle.script_pieces.specs.Runs.{Rules, behind, run, whole_run}
use Rattle.script_pieces.specs.Feeds.{Point, run_from, part_of, Trace, IsAdded, IsDone}
use Rattle.script_pieces.specs.declared.feeding.FeedResult.TheVariants as feds
use Rattle.script_pieces.specs.declared.running.RunEnd.{RunEnd}
use Rattle.script_pieces.specs.declared.running.RunEnd.TheVariants as ends

-- the bytes that were read from a source that tells what it has left
abbrev pub bytes_read : Option (List ℕ) → Option (List ℕ) → List ℕ
bytes_read (Some before) (Some left) = take (length before - length left) before
bytes_read (Some before) None = []
bytes_read None left = []

-- the same, also where the source tells nothing
abbrev pub WasRead : Option (List ℕ) → Option (List ℕ) → List ℕ → Type 0
WasRead before left bytes = before ≡ option_map (λ rest. bytes ++ rest) left

-- what stands outside a run: what its source has left, where it tells that, the source's number of
-- faults, and what the run has left in its sink
pub record Outside : Type 0 where
  pub left : Option (List ℕ)
  pub faults : ℕ
  pub trace : Trace

abbrev pub outside : Option (List ℕ) → ℕ → Trace → Outside
outside left faults trace = record { left = left; faults = faults; trace = trace }

-- where a source tells what it has left, that is nothing
abbrev pub IsAtEnd : Option (List ℕ) → Type 0
IsAtEnd left = left ≡ option_map (λ _. []) left

-- the run of these bytes stays as it is, whatever follows them
abbrev pub IsSettled : {World Why : Type 0} → Rules World Why → World → List ℕ → Type 0
IsSettled rules world bytes = (more : List ℕ) → run rules world (bytes ++ more) ≡ run rules world bytes

-- A read failed behind these bytes: what is out is the output of the lines that were read whole, none of
-- them was refused, and whatever follows, the run goes on behind it.
pub record IsUnread {World Why : Type 0} (rules : Rules World Why) (world : World) (bytes : List ℕ) (before after : Trace) : Type 0 where
  pub added : IsAdded before after (part_of (whole_run rules world bytes))
  pub unrefused : (whole_run rules world bytes).refused ≡ None
  pub next : Point World
  pub goes_on : (more : List ℕ) → run rules world (bytes ++ more)
      ≡ behind (whole_run rules world bytes).out (whole_run rules world bytes).calls (run_from rules next more)

-- the end of a run of which these bytes were read: it was done, with the source at its end; a line was
-- refused, whatever follows it or at the source's end; a read failed; a write failed; memory was wanted
abbrev pub IsEnded : {World Why : Type 0} → Rules World Why → World → List ℕ → Outside → Outside → RunEnd Why → Type 0
IsEnded rules world bytes old new ends.Done =
    IsDone (run rules world bytes) old.trace new.trace feds.On × (new.faults ≡ old.faults) × IsAtEnd new.left
IsEnded rules world bytes old new (ends.Refused number why) =
    IsDone (run rules world bytes) old.trace new.trace (feds.Refused number why) × (new.faults ≡ old.faults)
    × (IsSettled rules world bytes ⊎ IsAtEnd new.left)
IsEnded rules world bytes old new ends.ReadFailed =
    IsUnread rules world bytes old.trace new.trace × (new.faults ≡ next_count old.faults)
IsEnded rules world bytes old new ends.WriteFailed =
    IsDone (run rules world bytes) old.trace new.trace feds.WriteFailed × (new.faults ≡ old.faults)
IsEnded rules world bytes old new ends.NoMemory =
    IsDone (run rules world bytes) old.trace new.trace feds.NoMemory × (new.faults ≡ old.faults)

-- the end of a run, of the bytes that were read
abbrev pub IsOver : {World Why : Type 0} → Rules World Why → World → Outside → Outside → RunEnd Why → Type 0
IsOver rules world old new ended =
    (bytes : List ℕ) × WasRead old.left new.left bytes × IsEnded rules world bytes old new ended
