-- A whole live run: its output, its status and its text of errors.
use Rattle.std.specs.Prelude.{◌≡◌, ◌≢◌, ◌↔◌, ℕ, ◌⊎◌, List, [], ◌∷◌, map, codes, Option, string_bytes}
use Rattle.std.specs.declared.alloc.Global.{Global}
use Rattle.std.specs.declared.string.String.{String}
use Rattle.ft_outside.specs.Outside.{next_count}
use Rattle.ft_outside.specs.declared.wholes.WholeWrite.{WholeWrite}
use Rattle.ft_outside.specs.declared.wholes.WholeWrite.TheVariants as writes
use Rattle.script_pieces.specs.Feeds.{IsGain}
use Rattle.group_core.specs.Cores.{CorePicture}
use Rattle.client_calls.specs.declared.answers.Told.{Told}
use Rattle.live_words.specs.Words.{Asks}
use Rattle.live_words.specs.declared.asking.LiveWords.{LiveWords}
use Rattle.live_run.specs.Runs.{IsRun, Network, account}
use Rattle.run_ends.specs.Ends.{IfFault, IsPrefixGain, IsTold}
use Rattle.live_top.specs.Texts.{live_text}

-- ---- the words

-- the first word is `live`
abbrev pub IsLive : List (List ℕ) → Type 0
IsLive [] = ⊥
IsLive (first ∷ rest) = first ≡ codes "live"

-- `live`, and behind it words that ask for this run
abbrev pub AsksFor : List (List ℕ) → LiveWords → Type 0
AsksFor [] live = ⊥
AsksFor (first ∷ rest) live = (first ≡ codes "live") × Asks rest live

-- the words ask for no run
abbrev pub AreOfNoForm : List (List ℕ) → Type 0
AreOfNoForm words = (live : LiveWords) → ¬ (AsksFor words live)

-- ---- the outside

-- The outside of a run at one moment: what the two sinks hold, where they tell that; what the network tells of its callers; and
-- how many calls of each failed. `broken` counts the faults of callers that came back.
pub record Outside : Type 0 where
  pub out : Option (List ℕ)
  pub write_faults : ℕ
  pub err : Option (List ℕ)
  pub error_faults : ℕ
  pub callers : Option (List (List (List ℕ)))
  pub broken : ℕ
  pub bind_faults : ℕ
  pub start_faults : ℕ

abbrev pub network : Outside → Network
network o = record { callers = o.callers; broken = o.broken }

-- ---- a run that came to its end

-- This text is that of a run that the words ask for: what its clients were told, and its group in the end.
pub record IsRunText (live : LiveWords) (before after : Network) (text : List ℕ) : Type 0 where
  pub tolds : List Told
  pub core : CorePicture
  pub run : IsRun live before after tolds core
  pub is : text ≡ live_text (account run.group.last.common.kind) run.group.last tolds

-- A text was written whole and flushed, or that failed behind a prefix of it.
abbrev pub IsPutOut : Option (List ℕ) → Option (List ℕ) → ℕ → ℕ → List ℕ → WholeWrite → Type 0
IsPutOut before holds count now text writes.All = IsGain before holds text × (now ≡ count)
IsPutOut before holds count now text writes.Failed = IsPrefixGain before holds text × (now ≡ next_count count)

-- The text of such a run was written, whole or not.
pub record IsPrinted (words : List (List ℕ)) (before after : Outside) (written : WholeWrite) : Type 0 where
  pub live : LiveWords
  pub asked : AsksFor words live
  pub text : List ℕ
  pub of_run : IsRunText live (network before) (network after) text
  pub output : IsPutOut before.out after.out before.write_faults after.write_faults text written

-- ---- ends

-- the statuses of a live run
abbrev pub IsStatus : ℕ → Type 0
IsStatus status = (status ≡ 0) ⊎ ((status ≡ 2) ⊎ ((status ≡ 5) ⊎ ((status ≡ 6) ⊎ ((status ≡ 7) ⊎ (status ≡ 8)))))

-- those at which nothing was written yet
abbrev pub IsEarly : ℕ → Type 0
IsEarly status = (status ≡ 2) ⊎ ((status ≡ 6) ⊎ ((status ≡ 7) ⊎ (status ≡ 8)))

-- A fault is answered exactly where a call of its object failed, once.
pub record AreCounted (status : ℕ) (before after : Outside) : Type 0 where
  pub write_fault : status ≡ 5 → after.write_faults ≡ next_count before.write_faults
  pub no_write_fault : status ≢ 5 → after.write_faults ≡ before.write_faults
  pub bind_fault : status ≡ 7 → after.bind_faults ≡ next_count before.bind_faults
  pub no_bind_fault : status ≢ 7 → after.bind_faults ≡ before.bind_faults
  pub start_fault : status ≡ 8 → after.start_faults ≡ next_count before.start_faults
  pub no_start_fault : status ≢ 8 → after.start_faults ≡ before.start_faults

-- nothing was told of an error
pub record IsSilent (before after : Outside) : Type 0 where
  pub err : after.err ≡ before.err
  pub faults : after.error_faults ≡ before.error_faults

-- The live run of the words behind the program's name, by its status and by what stood outside before and after it. Words are
-- refused exactly where they are of no form; only the memory for reading them may not be there.
pub record IsLiveRun (words : List (String Global)) (status : ℕ) (before after : Outside) : Type 0 where
  pub statuses : IsStatus status
  pub usage : status ≢ 6 → (status ≡ 2) ↔ AreOfNoForm (map string_bytes words)
  pub printed : status ≡ 0 → IsPrinted (map string_bytes words) before after writes.All
  pub cut : status ≡ 5 → IsPrinted (map string_bytes words) before after writes.Failed
  pub early : IsEarly status → after.out ≡ before.out
  pub unused : status ≡ 2 → network after ≡ network before
  pub counts : AreCounted status before after
  pub told : IfFault status (IsTold before.err after.err before.error_faults after.error_faults)
  pub silent : status ≡ 0 → IsSilent before after
