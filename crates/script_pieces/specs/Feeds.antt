-- A run of a script that comes in pieces: what still comes of it from some point on, and what a part
-- of it did.
use Rattle.std.specs.Prelude.{◌≡◌, ℕ, ◌+◌, ◌==◌, ◌≤◌, ◌⊎◌, nat_lt, if◌then◌else◌, false, List, [], ◌∷◌, ◌++◌, length, take, Option, Some, None, option_map}
use Rattle.ft_outside.specs.Outside.{next_count}
use Rattle.script_pieces.specs.Runs.{LineEffect, Goes, Stops, calls_of, Rules, RunEffect, script_limit, lines_of, text_of, no_effect, refusal, behind, onward, run_of_lines, whole_lines}
use Rattle.script_pieces.specs.declared.actors.LineResult.{LineResult}
use Rattle.script_pieces.specs.declared.actors.LineResult.TheVariants as results
use Rattle.script_pieces.specs.declared.feeding.FeedResult.{FeedResult}
use Rattle.script_pieces.specs.declared.feeding.FeedResult.TheVariants as feds

-- a place in a script: the number of the line that is begun or comes next, the bytes of the script so
-- far, and the text of the begun line, as far as its first 4,097 bytes
pub record Place : Type 0 where
  pub number : ℕ
  pub read : ℕ
  pub begun : List ℕ

-- the start of a script
abbrev pub start : Place
start = record { number = 1; read = 0; begun = [] }

-- the most bytes that are kept of a begun line: one more than a line can have
abbrev pub kept_limit : ℕ
kept_limit = 4097

-- after a line of so many bytes
abbrev pub place_after_line : Place → ℕ → Place
place_after_line p n = record { number = p.number + 1; read = p.read + n; begun = [] }

-- after some bytes that end no line
abbrev pub place_in_line : Place → List ℕ → Place
place_in_line p text = record { number = p.number; read = p.read + length text; begun = take kept_limit (p.begun ++ text) }

-- no byte ends a line
abbrev pub IsInLine : List ℕ → Type 0
IsInLine [] = Unit {0}
IsInLine (b ∷ bytes) = ((b == 10) ≡ false) × IsInLine bytes

-- what still comes of a run, where these are the lines of the bytes that come; the first of them
-- ends the begun line
abbrev pub resume : {World Why : Type 0} → Rules World Why → World → Place → List (List ℕ) → RunEffect Why
resume rules world p [] =
    if length p.begun == 0 then no_effect else onward (rules.effect world p.begun) p.number (λ _. no_effect)
resume rules world p (line ∷ lines) =
    if nat_lt script_limit (p.read + length line) then refusal p.number rules.past 0
    else onward (rules.effect world (p.begun ++ text_of line)) p.number
    (λ next. run_of_lines rules next (p.number + 1) (p.read + length line) lines)

-- a point of a run: the world, the place in the script, and the bytes at hand that are still to come
pub record Point (World : Type 0) : Type 0 where
  pub world : World
  pub place : Place
  pub rest : List ℕ

abbrev pub point : {World : Type 0} → World → Place → List ℕ → Point World
point world place rest = record { world = world; place = place; rest = rest }

-- what still comes of a run from a point, with more bytes behind those at hand
abbrev pub run_from : {World Why : Type 0} → Rules World Why → Point World → List ℕ → RunEffect Why
run_from rules p more = resume rules p.world p.place (lines_of (p.rest ++ more))

-- what a part of a run did: its output, and its servant calls
pub record PartEffect : Type 0 where
  pub out : List ℕ
  pub calls : ℕ

abbrev pub part : List ℕ → ℕ → PartEffect
part out calls = record { out = out; calls = calls }

-- the same of a whole run
abbrev pub part_of : {Why : Type 0} → RunEffect Why → PartEffect
part_of run = part run.out run.calls

-- a run begins with this output, and has at least so many calls
abbrev pub IsFront : {Why : Type 0} → PartEffect → RunEffect Why → Type 0
IsFront part run = ((tail : List ℕ) × (run.out ≡ part.out ++ tail)) × (part.calls ≤ run.calls)

-- what a line's text did, by what is answered; where memory was wanted, at most its servant calls
abbrev pub IsActed : {World Why : Type 0} → LineEffect World Why → World → ℕ → ℕ → LineResult Why → Type 0
IsActed effect after before steps (results.Goes printed) =
    (calls : ℕ) × (effect ≡ Goes after printed calls) × (steps ≡ before + calls)
IsActed effect after before steps (results.Stops why) =
    (calls : ℕ) × (effect ≡ Stops why calls) × (steps ≡ before + calls)
IsActed effect after before steps results.NoMemory = steps ≤ before + calls_of effect

-- a fact where the line went on
abbrev pub IfGoes : {Why : Type 0} → LineResult Why → Type 0 → Type 0
IfGoes (results.Goes printed) P = P
IfGoes (results.Stops why) P = Unit {0}
IfGoes results.NoMemory P = Unit {0}

-- Whatever follows: the run from a point is this part, and then the run from another point.
pub record Leads {World Why : Type 0} (rules : Rules World Why) (from : Point World) (part : PartEffect) (to : Point World) : Type 0 where
  pub on : (more : List ℕ) → run_from rules from more ≡ behind part.out part.calls (run_from rules to more)

-- whatever follows, the run from a point is this part and then this refusal
pub record Refuses {World Why : Type 0} (rules : Rules World Why) (from : Point World) (part : PartEffect) (number : ℕ) (why : Why) : Type 0 where
  pub on : (more : List ℕ)
      → run_from rules from more ≡ record { out = part.out; refused = Some (number, why); calls = part.calls }

-- whatever follows, the run from a point begins with this part
pub record Begins {World Why : Type 0} (rules : Rules World Why) (from : Point World) (part : PartEffect) : Type 0 where
  pub on : (more : List ℕ) → IsFront part (run_from rules from more)

-- what a run has left outside so far: what its sink holds, where it tells that, the sink's number of
-- faults, and the count of servant calls
pub record Trace : Type 0 where
  pub holds : Option (List ℕ)
  pub faults : ℕ
  pub calls : ℕ

abbrev pub trace : Option (List ℕ) → ℕ → ℕ → Trace
trace holds faults calls = record { holds = holds; faults = faults; calls = calls }

-- a sink that tells what it holds gained this
abbrev pub IsGain : Option (List ℕ) → Option (List ℕ) → List ℕ → Type 0
IsGain before holds out = holds ≡ option_map (λ held. held ++ out) before

-- this part was left outside, with no fault
abbrev pub IsAdded : Trace → Trace → PartEffect → Type 0
IsAdded before after part =
    IsGain before.holds after.holds part.out × (after.faults ≡ before.faults) × (after.calls ≡ before.calls + part.calls)

-- this part was left outside, with no fault, and at most its servant calls
abbrev pub IsAddedWithin : Trace → Trace → PartEffect → Type 0
IsAddedWithin before after part =
    IsGain before.holds after.holds part.out × (after.faults ≡ before.faults) × (after.calls ≤ before.calls + part.calls)

-- this part was left outside, and then one write failed
abbrev pub IsAddedAtFault : Trace → Trace → PartEffect → Type 0
IsAddedAtFault before after part =
    IsGain before.holds after.holds part.out × (after.faults ≡ next_count before.faults) × (after.calls ≡ before.calls + part.calls)

-- how many lines of some bytes have their LF
abbrev pub line_ends : List ℕ → ℕ
line_ends bytes = length (whole_lines bytes)

-- all bytes between two points are counted, and all lines that end there
abbrev pub IsCounted : {World : Type 0} → Point World → Point World → Type 0
IsCounted from to =
    (to.place.read + length to.rest ≡ from.place.read + length from.rest)
    × (to.place.number + line_ends to.rest ≡ from.place.number + line_ends from.rest)

-- what feeding the bytes at hand did, by what is answered: it went on to another point; a line was
-- refused; a write failed; memory was wanted
abbrev pub IsFed : {World Why : Type 0} → Rules World Why → Point World → Trace → Point World → Trace → FeedResult Why → Type 0
IsFed rules from before to after feds.On =
    (part : PartEffect) × Leads rules from part to × IsAdded before after part × IsCounted from to
IsFed rules from before to after (feds.Refused number why) =
    (part : PartEffect) × Refuses rules from part number why × IsAdded before after part
IsFed rules from before to after feds.WriteFailed =
    (part : PartEffect) × Begins rules from part × IsAddedAtFault before after part
IsFed rules from before to after feds.NoMemory =
    (part : PartEffect) × Begins rules from part × IsAddedWithin before after part

-- a fact where it went on
abbrev pub IfOn : {Why : Type 0} → FeedResult Why → Type 0 → Type 0
IfOn feds.On P = P
IfOn (feds.Refused number why) P = Unit {0}
IfOn feds.WriteFailed P = Unit {0}
IfOn feds.NoMemory P = Unit {0}

-- the end of a run that still had this to come, by what is answered: it was done, or its refusal;
-- where a write failed or memory was wanted, a front of it
abbrev pub IsDone : {Why : Type 0} → RunEffect Why → Trace → Trace → FeedResult Why → Type 0
IsDone run before after feds.On = (run.refused ≡ None) × IsAdded before after (part_of run)
IsDone run before after (feds.Refused number why) =
    (run.refused ≡ Some (number, why)) × IsAdded before after (part_of run)
IsDone run before after feds.WriteFailed = (part : PartEffect) × IsFront part run × IsAddedAtFault before after part
IsDone run before after feds.NoMemory = (part : PartEffect) × IsFront part run × IsAddedWithin before after part

-- it went on, or a line was refused
abbrev pub IsUnbroken : {Why : Type 0} → FeedResult Why → Type 0
IsUnbroken feds.On = Unit {0}
IsUnbroken (feds.Refused number why) = Unit {0}
IsUnbroken feds.WriteFailed = ⊥
IsUnbroken feds.NoMemory = ⊥

-- the output of what was fed was handed on, and nothing else changed; or that failed, as one fault
abbrev pub IsHandedOn : {Why : Type 0} → FeedResult Why → Option (List ℕ) → Option (List ℕ) → ℕ → ℕ → FeedResult Why → Type 0
IsHandedOn fed before holds count now result =
    ((result ≡ fed) × (holds ≡ before) × (now ≡ count))
    ⊎ (IsUnbroken fed × (result ≡ feds.WriteFailed) × (holds ≡ before) × (now ≡ next_count count))
