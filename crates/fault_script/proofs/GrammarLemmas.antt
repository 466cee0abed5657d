-- The reader of a form and its relation are the same, by induction over forms; and so for each line.
use Rattle.std.proofs.Common.{◌≡◌, ℕ, ◌∙◌, Bool, true, false, List, [], ◌∷◌, Option, Some, None, Result, Ok, Err, sym, ap, cond, refl}
use Rattle.std.specs.Prelude.{option_map, option_and_then}
use Rattle.fault_script.specs.Words.{each, is_comment}
use Rattle.fault_script.specs.Arguments.{or_syntax}
use Rattle.fault_script.specs.Parts.{Part, Value, word_value, SpellsValue}
use Rattle.fault_script.specs.Grammar.{Form, ends, word, all_words, any_words, optional, no_form, verb_word, form, HasForm, Spells, first_word, no_words, form_line}
use Rattle.fault_script.specs.Forms.{all_verbs, verb, read_form, line_of_verb, line_of, as_some, parse_words}
use Rattle.fault_script.proofs.StepLemmas.{map_value, chain_value}
use Rattle.fault_script.proofs.EachLemmas.{each_apart, each_read}
use Rattle.fault_script.proofs.PartLemmas.{by_word_found, part_found, part_read}
use Rattle.fault_script.specs.declared.lines.MemberChange.TheVariants as changes
use Rattle.fault_script.specs.declared.lines.Line.{Line}
use Rattle.fault_script.specs.declared.lines.LineFault.{LineFault}
use Rattle.fault_script.specs.declared.verbs.NameVerb.TheVariants as names
use Rattle.fault_script.specs.declared.verbs.Verb.{Verb}
use Rattle.fault_script.specs.declared.verbs.Verb.TheVariants as verbs

-- ---- one word, and the end

first_word_found : (part : Part) (words rest : List (List ℕ)) (value : Value part) → first_word part words ≡ Some (value, rest)
    → (first : List ℕ) × (words ≡ first ∷ rest) × SpellsValue part first value
first_word_found part [] rest value e = cc
first_word_found part (first ∷ behind) rest value e =
    let t = map_value (λ v. (v, behind)) (word_value part first) (value, rest) e in
    let same : t.0 ≡ value = ap (λ p. p.0) t.2 in
    let rests : behind ≡ rest = ap (λ p. p.1) t.2 in
    (first, ap (λ (ws : List (List ℕ)). first ∷ ws) rests, part_found part first value (t.1 ∙ ap Some same))

no_words_found : (words : List (List ℕ)) (end : Unit {0}) → no_words words ≡ Some end → words ≡ []
no_words_found [] end e = refl
no_words_found (first ∷ rest) end e = cc

-- ---- every form

pub form_found : (form : Form) (words : List (List ℕ)) (found : Line) → form_line form words ≡ Some found → HasForm form words found
form_found (ends line) words found e =
    let end = map_value (λ _. line) (no_words words) found e in
    (no_words_found words end.0 end.1, sym end.2)
form_found (word part next) words found e =
    let t = chain_value (λ t. form_line (next t.0) t.1) (first_word part words) found e in
    let one = first_word_found part words t.0.1 t.0.0 t.1 in
    (one.0, t.0.1, t.0.0, one.1, one.2, form_found (next t.0.0) t.0.1 found t.2)
form_found (all_words part line) words found e =
    let values = map_value line (each (word_value part) words) found e in
    (values.0, each_apart (word_value part) (SpellsValue part) (part_found part) words values.0 values.1, sym values.2)
form_found (any_words line) words found e = cc
form_found (optional line next) [] found e = cc
form_found (optional line next) (first ∷ rest) found e = form_found next (first ∷ rest) found e
form_found no_form words found e = cc

pub form_read : (form : Form) (words : List (List ℕ)) (found : Line) → HasForm form words found → form_line form words ≡ Some found
form_read (ends line) words found s = rw s.0 (ap Some (sym s.1))
form_read (word part next) words found s =
    ap (form_line (word part next)) s.3
    ∙ ap (λ (value : Option (Value part)). option_and_then (λ (t : Value part × List (List ℕ)). form_line (next t.0) t.1) (option_map (λ v. (v, s.1)) value))
    (part_read part s.0 s.2 s.4)
    ∙ form_read (next s.2) s.1 found s.5
form_read (all_words part line) words found s =
    ap (option_map line) (each_read (word_value part) (SpellsValue part) (part_read part) words s.0 s.1) ∙ ap Some (sym s.2)
form_read (any_words line) words found s = ap Some (sym s)
form_read (optional line next) [] found s = ap Some (sym s)
form_read (optional line next) (first ∷ rest) found s = form_read next (first ∷ rest) found s
form_read no_form words found s = absurd s

-- ---- the table

-- each first word begins its line
begins : (v : Verb) (rest : List (List ℕ)) → parse_words (verb_word v ∷ rest) ≡ as_some (read_form (form v) rest)
begins verbs.Hosts rest = refl
begins verbs.Group rest = refl
begins verbs.Call rest = refl
begins verbs.Bind rest = refl
begins verbs.Deliver rest = refl
begins verbs.Tick rest = refl
begins verbs.MemberRef rest = refl
begins verbs.Inject rest = refl
begins verbs.Crash rest = refl
begins verbs.Restart rest = refl
begins verbs.Create rest = refl
begins verbs.Set rest = refl
begins verbs.Unset rest = refl
begins verbs.Get rest = refl
begins verbs.Grow rest = refl
begins verbs.Subscribe rest = refl
begins (verbs.Change changes.Add) rest = refl
begins (verbs.Change changes.Remove) rest = refl
begins (verbs.Change changes.Primary) rest = refl
begins (verbs.Change changes.Report) rest = refl
begins (verbs.Name names.Client) rest = refl
begins (verbs.Name names.Timeout) rest = refl
begins (verbs.Name names.Show) rest = refl
begins (verbs.Name names.Locations) rest = refl
begins (verbs.Name names.Id) rest = refl
begins (verbs.Name names.Ref) rest = refl
begins (verbs.Name names.Delete) rest = refl
begins (verbs.Name names.Poll) rest = refl
begins (verbs.Name names.Sweep) rest = refl
begins (verbs.Name names.Unsubscribe) rest = refl
begins (verbs.Name names.Pull) rest = refl
begins (verbs.Name names.Checkpoint) rest = refl
begins (verbs.Name names.Update) rest = refl
begins (verbs.Name names.LogFail) rest = refl

syntax_some : (read : Option Line) (line : Line) → or_syntax read ≡ Ok line → read ≡ Some line
syntax_some None line e = cc
syntax_some (Some other) line e = cc

verb_found : (v : Option Verb) (first : List ℕ) (rest : List (List ℕ)) (line : Line) → verb first ≡ v → line_of_verb v rest ≡ Ok line → Spells (first ∷ rest) line
verb_found None first rest line is e = cc
verb_found (Some v) first rest line is e =
    (v, rest, ap (λ (w : List ℕ). w ∷ rest) (by_word_found verb_word all_verbs first v is), form_found (form v) rest line (syntax_some (form_line (form v) rest) line e))

as_some_line : (read : Result Line LineFault) (line : Line) → as_some read ≡ Ok (Some line) → read ≡ Ok line
as_some_line (Ok other) line e = cc
as_some_line (Err fault) line e = cc

not_comment : (b : Bool) (read : Result (Option Line) LineFault) (line : Line) → cond b (Ok None) read ≡ Ok (Some line) → read ≡ Ok (Some line)
not_comment true read line e = cc
not_comment false read line e = e

-- what is read is of its form
pub read_is_spelled : (ws : List (List ℕ)) (line : Line) → parse_words ws ≡ Ok (Some line) → Spells ws line
read_is_spelled [] line e = cc
read_is_spelled (first ∷ rest) line e =
    let read = as_some_line (line_of first rest) line (not_comment (is_comment first) (as_some (line_of first rest)) line e) in
    verb_found (verb first) first rest line refl read

-- what is of a form is read
pub spelled_is_read : (ws : List (List ℕ)) (line : Line) → Spells ws line → parse_words ws ≡ Ok (Some line)
spelled_is_read ws line s =
    ap parse_words s.2 ∙ begins s.0 s.1 ∙ ap (λ (read : Option Line). as_some (or_syntax read)) (form_read (form s.0) s.1 line s.3)
