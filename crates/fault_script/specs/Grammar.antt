-- The table of script lines: the first word of each, and what stands behind it, one row for each line.
use Rattle.std.specs.Prelude.{◌≡◌, ℕ, List, [], ◌∷◌, codes, Option, Some, None, option_map, option_and_then}
use Rattle.std.specs.List.{AllZip}
use Rattle.ft_base.specs.declared.decisions.Stop.TheVariants.{Never}
use Rattle.property_manager.specs.declared.settings.Property.{Property}
use Rattle.fault_script.specs.Words.{each}
use Rattle.fault_script.specs.Properties.{property}
use Rattle.fault_script.specs.Parts.{Part, a_name, an_identifier, a_text, a_host, a_positive, some_ticks, some_octets, a_kind, a_style, a_criterion, a_crash, a_stop, a_scope, Value, word_value, SpellsValue}
use Rattle.fault_script.specs.declared.lines.Level.{Level}
use Rattle.fault_script.specs.declared.lines.Level.TheVariants as levels
use Rattle.fault_script.specs.declared.keywords.Scope.{Scope}
use Rattle.fault_script.specs.declared.keywords.Scope.TheVariants as scopes
use Rattle.fault_script.specs.declared.lines.MemberChange.TheVariants as changes
use Rattle.fault_script.specs.declared.lines.Line.{Line}
use Rattle.fault_script.specs.declared.lines.Line.TheVariants as lines
use Rattle.fault_script.specs.declared.verbs.NameVerb.{NameVerb}
use Rattle.fault_script.specs.declared.verbs.NameVerb.TheVariants as names
use Rattle.fault_script.specs.declared.verbs.Verb.{Verb}
use Rattle.fault_script.specs.declared.verbs.Verb.TheVariants as verbs

-- which words stand behind a first word, and the line that they are with it
pub data Form : Type 0 where
  -- no words
  ends : Line → Form
  -- a word of this part, and behind it words of a form that may depend on its value
  word : (part : Part) → (Value part → Form) → Form
  -- any number of words, each of this part
  all_words : (part : Part) → (List (Value part) → Line) → Form
  -- any words
  any_words : (List (List ℕ) → Line) → Form
  -- no words, which are this line, or words of this form
  optional : Line → Form → Form
  -- no words are of this form
  no_form : Form

-- ---- the table

-- the first word of each line
abbrev pub verb_word : Verb → List ℕ
verb_word verbs.Hosts = codes "hosts"
verb_word verbs.Group = codes "group"
verb_word verbs.Call = codes "call"
verb_word verbs.Bind = codes "bind"
verb_word verbs.Deliver = codes "deliver"
verb_word verbs.Tick = codes "tick"
verb_word verbs.MemberRef = codes "member"
verb_word verbs.Inject = codes "inject"
verb_word verbs.Crash = codes "crash"
verb_word verbs.Restart = codes "restart"
verb_word verbs.Create = codes "create"
verb_word verbs.Set = codes "set"
verb_word verbs.Unset = codes "unset"
verb_word verbs.Get = codes "get"
verb_word verbs.Grow = codes "grow"
verb_word verbs.Subscribe = codes "subscribe"
verb_word (verbs.Change changes.Add) = codes "add"
verb_word (verbs.Change changes.Remove) = codes "remove"
verb_word (verbs.Change changes.Primary) = codes "primary"
verb_word (verbs.Change changes.Report) = codes "report"
verb_word (verbs.Name names.Client) = codes "client"
verb_word (verbs.Name names.Timeout) = codes "timeout"
verb_word (verbs.Name names.Show) = codes "show"
verb_word (verbs.Name names.Locations) = codes "locations"
verb_word (verbs.Name names.Id) = codes "id"
verb_word (verbs.Name names.Ref) = codes "ref"
verb_word (verbs.Name names.Delete) = codes "delete"
verb_word (verbs.Name names.Poll) = codes "poll"
verb_word (verbs.Name names.Sweep) = codes "sweep"
verb_word (verbs.Name names.Unsubscribe) = codes "unsubscribe"
verb_word (verbs.Name names.Pull) = codes "pull"
verb_word (verbs.Name names.Checkpoint) = codes "checkpoint"
verb_word (verbs.Name names.Update) = codes "update"
verb_word (verbs.Name names.LogFail) = codes "logfail"

-- the line about a group, a client or a subscriber that says nothing but its name
abbrev pub name_line : NameVerb → List ℕ → Line
name_line names.Client name = lines.Client name
name_line names.Timeout name = lines.Timeout name
name_line names.Show name = lines.Show name
name_line names.Locations name = lines.Locations name
name_line names.Id name = lines.Id name
name_line names.Ref name = lines.Ref name
name_line names.Delete name = lines.Delete name
name_line names.Poll name = lines.Poll name
name_line names.Sweep name = lines.Sweep name
name_line names.Unsubscribe name = lines.Unsubscribe name
name_line names.Pull name = lines.Pull name
name_line names.Checkpoint name = lines.Checkpoint name
name_line names.Update name = lines.Update name
name_line names.LogFail name = lines.LogFail name

-- behind a scope: a level (`default` or `type KIND`) and what follows it, or what follows `group`
abbrev pub level_form : (Level → Form) → Form → Scope → Form
level_form level group scopes.Default = level levels.Default
level_form level group scopes.Type = word a_kind (λ kind. level (levels.Type kind))
level_form level group scopes.Group = group

-- `P V`
abbrev pub property_form : (Property → Line) → Form
property_form line = word an_identifier (λ name. word a_text (λ value. ends (line (property name value))))

-- `P`
abbrev pub property_name_form : (List ℕ → Line) → Form
property_name_form line = word an_identifier (λ name. ends (line name))

-- what stands behind the first word
abbrev pub form : Verb → Form
form verbs.Hosts = word a_positive (λ count. ends (lines.Hosts count))
form verbs.Group = word a_name (λ name. word a_kind (λ kind. word a_style (λ style. all_words a_host (λ members. lines.Group name kind style members))))
form verbs.Call = word a_name (λ client. word a_name (λ group. word an_identifier (λ op. any_words (λ words. lines.Call client group op words))))
form verbs.Bind = word a_name (λ client. word a_name (λ group. ends (lines.Bind client group)))
form verbs.Deliver = word a_positive (λ message. optional (lines.Deliver message Never)
    (word a_crash (λ _. word a_stop (λ stop. ends (lines.Deliver message stop)))))
form verbs.Tick = word some_ticks (λ ticks. ends (lines.Tick ticks))
form verbs.MemberRef = word a_name (λ group. word a_host (λ host. ends (lines.MemberRef group host)))
form verbs.Inject = word a_host (λ host. word some_octets (λ bytes. ends (lines.Inject host bytes)))
form verbs.Crash = word a_host (λ host. ends (lines.Crash host))
form verbs.Restart = word a_host (λ host. ends (lines.Restart host))
form verbs.Create = word a_name (λ name. word a_kind (λ kind. all_words a_criterion (λ criteria. lines.Create name kind criteria)))
form verbs.Set = word a_scope (level_form (λ level. property_form (λ property. lines.Set level property))
    (word a_name (λ group. property_form (λ property. lines.SetGroup group property))))
form verbs.Unset = word a_scope (level_form (λ level. property_name_form (λ name. lines.Unset level name)) no_form)
form verbs.Get = word a_scope (level_form (λ level. property_name_form (λ name. lines.Get level name))
    (word a_name (λ group. property_name_form (λ name. lines.GetGroup group name))))
form verbs.Grow = word a_name (λ group. word a_host (λ host. ends (lines.Grow group host)))
form verbs.Subscribe = word a_name (λ subscriber. word a_text (λ filter. ends (lines.Subscribe subscriber filter)))
form (verbs.Change change) = word a_name (λ group. word a_host (λ host. ends (lines.Change change group host)))
form (verbs.Name verb) = word a_name (λ name. ends (name_line verb name))

-- ---- which words spell which line

-- words are of a form, and are this line
abbrev pub HasForm : Form → List (List ℕ) → Line → Type 0
HasForm (ends line) words found = (words ≡ []) × (found ≡ line)
HasForm (word part next) words found =
    (first : List ℕ) × (rest : List (List ℕ)) × (value : Value part)
    × (words ≡ first ∷ rest) × SpellsValue part first value × HasForm (next value) rest found
HasForm (all_words part line) words found = (values : List (Value part)) × AllZip (SpellsValue part) words values × (found ≡ line values)
HasForm (any_words line) words found = found ≡ line words
HasForm (optional line next) [] found = found ≡ line
HasForm (optional line next) (first ∷ rest) found = HasForm next (first ∷ rest) found
HasForm no_form words found = ⊥

-- words spell a line: its first word, and behind it words of its form
abbrev pub Spells : List (List ℕ) → Line → Type 0
Spells words line = (verb : Verb) × (rest : List (List ℕ)) × (words ≡ verb_word verb ∷ rest) × HasForm (form verb) rest line

-- ---- which line some words are

-- the value of the first word, if it is of this part, and the words behind it
abbrev pub first_word : (part : Part) → List (List ℕ) → Option (Value part × List (List ℕ))
first_word part [] = None
first_word part (first ∷ rest) = option_map (λ value. (value, rest)) (word_value part first)

-- whether no word is left
abbrev pub no_words : List (List ℕ) → Option (Unit {0})
no_words [] = Some tt
no_words (first ∷ rest) = None

-- the line that words are, if they are of this form
abbrev pub form_line : Form → List (List ℕ) → Option Line
form_line (ends line) words = option_map (λ _. line) (no_words words)
form_line (word part next) words = option_and_then (λ t. form_line (next t.0) t.1) (first_word part words)
form_line (all_words part line) words = option_map line (each (word_value part) words)
form_line (any_words line) words = Some (line words)
form_line (optional line next) [] = Some line
form_line (optional line next) (first ∷ rest) = form_line next (first ∷ rest)
form_line no_form words = None
