-- What a script line reads as: its event, nothing, or the first of the refusals `limit line` and `syntax` that applies.
use Rattle.std.specs.Prelude.{◌≡◌, ◌⊎◌, ℕ, Bool, nat_lt, if◌then◌else◌, List, [], ◌∷◌, length, codes, Option, Some, None, Result, Ok, Err, MatchResult}
use Rattle.fault_script.specs.Words.{words, is_comment}
use Rattle.fault_script.specs.Arguments.{or_syntax}
use Rattle.fault_script.specs.Parts.{by_word}
use Rattle.fault_script.specs.Grammar.{Form, verb_word, form, form_line}
use Rattle.fault_script.specs.declared.lines.MemberChange.TheVariants as changes
use Rattle.fault_script.specs.declared.lines.Line.{Line}
use Rattle.fault_script.specs.declared.lines.LimitName.TheVariants as limits
use Rattle.fault_script.specs.declared.lines.LineFault.{LineFault}
use Rattle.fault_script.specs.declared.lines.LineFault.TheVariants.{Limit, NoMemory, Syntax}
use Rattle.fault_script.specs.declared.verbs.NameVerb.TheVariants as names
use Rattle.fault_script.specs.declared.verbs.Verb.{Verb}
use Rattle.fault_script.specs.declared.verbs.Verb.TheVariants as verbs

-- the first words of lines that change a group's members
abbrev pub change_verbs : List Verb
change_verbs = verbs.Change changes.Add ∷ verbs.Change changes.Remove ∷ verbs.Change changes.Primary ∷ verbs.Change changes.Report ∷ []

-- those of lines about faults, states, updates and logs, and the former
abbrev pub fault_verbs : List Verb
fault_verbs =
    verbs.Name names.Poll ∷ verbs.Name names.Sweep ∷ verbs.Subscribe ∷ verbs.Name names.Unsubscribe ∷ verbs.Name names.Pull
    ∷ verbs.Name names.Checkpoint ∷ verbs.Name names.Update ∷ verbs.Name names.LogFail ∷ change_verbs

-- those of lines about groups and their properties, and the former
abbrev pub group_verbs : List Verb
group_verbs = verbs.Create ∷ verbs.Set ∷ verbs.Unset ∷ verbs.Get ∷ verbs.Grow ∷ verbs.Name names.Delete ∷ fault_verbs

-- those of all lines
abbrev pub all_verbs : List Verb
all_verbs =
    verbs.Hosts ∷ verbs.Group ∷ verbs.Name names.Client ∷ verbs.Call ∷ verbs.Bind ∷ verbs.Name names.Timeout ∷ verbs.Deliver ∷ verbs.Tick
    ∷ verbs.Name names.Show ∷ verbs.Name names.Locations ∷ verbs.Name names.Id ∷ verbs.Name names.Ref ∷ verbs.MemberRef ∷ verbs.Inject
    ∷ verbs.Crash ∷ verbs.Restart ∷ group_verbs

-- the line that a first word begins
abbrev pub verb : List ℕ → Option Verb
verb first = by_word verb_word all_verbs first

-- what words read as behind a first word of this form
abbrev pub read_form : Form → List (List ℕ) → Result Line LineFault
read_form behind words = or_syntax (form_line behind words)

-- what the words behind a first word read as
abbrev pub line_of_verb : Option Verb → List (List ℕ) → Result Line LineFault
line_of_verb None rest = Err Syntax
line_of_verb (Some verb) rest = read_form (form verb) rest

-- the line of a first word and the words behind it
abbrev pub line_of : List ℕ → List (List ℕ) → Result Line LineFault
line_of first rest = line_of_verb (verb first) rest

-- the line of some words
abbrev pub form_of : List (List ℕ) → Result Line LineFault
form_of [] = Err Syntax
form_of (first ∷ rest) = line_of first rest

-- a line that is there
abbrev pub as_some : Result Line LineFault → Result (Option Line) LineFault
as_some (Ok line) = Ok (Some line)
as_some (Err fault) = Err fault

-- the table of script lines: no words are no line, and neither is a comment
abbrev pub parse_words : List (List ℕ) → Result (Option Line) LineFault
parse_words [] = Ok None
parse_words (first ∷ rest) = if is_comment first then Ok None else as_some (line_of first rest)

-- a line has at most 4,096 bytes, without its end
abbrev pub parse : List ℕ → Result (Option Line) LineFault
parse text = if nat_lt 4096 (length text) then Err (Limit limits.Line) else parse_words (words text)

-- what a text reads as, where it was told whether a line stands in it, and these are its words
abbrev pub IsSplit : Result Bool LineFault → List ℕ → List (List ℕ) → Type 0
IsSplit answer text found =
    MatchResult answer
    (λ there. parse text ≡ if there then as_some (form_of found) else Ok None)
    (λ fault. (fault ≡ NoMemory) ⊎ (parse text ≡ Err fault))
