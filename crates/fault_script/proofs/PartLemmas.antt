-- The value that is read of a word is the one that the word spells, and the other way round.
use Rattle.std.proofs.Common.{◌≡◌, ℕ, ◌<◌, ◌≤◌, ◌^◌, ◌==◌, ◌∙◌, Bool, true, false, List, [], ◌∷◌, length, Option, Some, None, nat_lt, arith, sym, ap, subst, cond, refl}
use Rattle.std.specs.Prelude.{codes, option_map, option_and_then}
use Rattle.std.specs.Str.{bytes_eq}
use Rattle.std.proofs.lemmas.Bool.{ltb-true}
use Rattle.std.proofs.lemmas.Bool.Decides.{nat_tests}
use Rattle.ft_base.specs.declared.decisions.Stop.{Stop}
use Rattle.ft_base.specs.declared.decisions.Stop.TheVariants as stops
use Rattle.ft_base.specs.declared.views.Style.TheVariants as styles
use Rattle.fault_script.specs.Words.{is_script_name, is_identifier}
use Rattle.fault_script.specs.Numbers.{number, capped, from_one, positive_number, below}
use Rattle.fault_script.specs.Parts.{by_word, kind_word, all_kinds, style_word, all_styles, stop_word, crash_stops, scope_word, all_scopes, IsNumber, Part, a_name, an_identifier, a_text, a_host, a_positive, some_ticks, some_octets, a_kind, a_style, a_criterion, a_crash, a_stop, a_scope, Value, word_value, SpellsValue}
use Rattle.fault_script.proofs.StepLemmas.{same_text, map_value, chain_value, if_value}
use Rattle.fault_script.proofs.CriterionLemmas.{criterion_spelled, criterion_read}
use Rattle.fault_script.specs.declared.lines.KindWord.TheVariants as kinds
use Rattle.fault_script.specs.declared.keywords.Scope.TheVariants as scopes

by_word_case : {A : Type 0} (b : Bool) (spelled : A → List ℕ) (word : List ℕ) (here found : A) (others : Option A) → bytes_eq word (spelled here) ≡ b
    → (others ≡ Some found → word ≡ spelled found) → cond b (Some here) others ≡ Some found → word ≡ spelled found
by_word_case true spelled word here found others test more e =
    let same : here ≡ found = cc in
    same_text word (spelled here) test ∙ ap spelled same
by_word_case false spelled word here found others test more e = more e

-- a value that is found among some has this word
pub by_word_found : {A : Type 0} (spelled : A → List ℕ) (values : List A) (word : List ℕ) (found : A) → by_word spelled values word ≡ Some found → word ≡ spelled found
by_word_found spelled [] word found e = cc
by_word_found spelled (value ∷ values) word found e =
    by_word_case (bytes_eq word (spelled value)) spelled word value found (by_word spelled values word) refl (by_word_found spelled values word found) e

-- numbers
from_one_case : (b : Bool) (word : List ℕ) (kept value : ℕ) → (value == 0) ≡ b → number word ≡ Some value → cond b None (Some (capped value)) ≡ Some kept → IsNumber word kept × (1 ≤ kept)
from_one_case true word kept value zero e f = cc
from_one_case false word kept value zero e f =
    let same : capped value ≡ kept = cc in
    let filled : 1 ≤ value = grind (arith, nat_tests) in
    let bound : 1 ≤ capped value = omega arith in
    ((value, e, sym same), rw same at bound)

count_found : (word : List ℕ) (kept : ℕ) → positive_number word ≡ Some kept → IsNumber word kept × (1 ≤ kept)
count_found word kept e =
    let value = chain_value from_one (number word) kept e in
    from_one_case (value.0 == 0) word kept value.0 refl value.1 value.2

count_read : (word : List ℕ) (kept : ℕ) → IsNumber word kept → 1 ≤ kept → positive_number word ≡ Some kept
count_read word kept is_kept from =
    let filled : 1 ≤ capped is_kept.0 = rw is_kept.2 at from in
    let above : 1 ≤ is_kept.0 = omega arith in
    let not_zero : (is_kept.0 == 0) ≡ false = grind (arith, nat_tests) in
    ap (option_and_then from_one) is_kept.1 ∙ rw not_zero (ap Some (sym is_kept.2))

stop_case : (stop : Stop) → 1 ≤ length (stop_word stop) → by_word stop_word crash_stops (stop_word stop) ≡ Some stop
stop_case stops.Never h = absurd (omega arith)
stop_case stops.AfterAppend h = refl
stop_case stops.AfterExecute h = refl

stop_filled : (b c : Bool) (word : List ℕ) (stop : Stop) → bytes_eq word (codes "append") ≡ b → bytes_eq word (codes "execute") ≡ c
    → cond b (Some stops.AfterAppend) (cond c (Some stops.AfterExecute) None) ≡ Some stop → 1 ≤ length word
stop_filled true c word stop s t e = let is = same_text word (codes "append") s in rw is (omega arith)
stop_filled false true word stop s t e = let is = same_text word (codes "execute") t in rw is (omega arith)
stop_filled false false word stop s t e = cc

pub part_found : (part : Part) (word : List ℕ) (value : Value part) → word_value part word ≡ Some value → SpellsValue part word value
part_found a_name word value e = let is = if_value (is_script_name word) word value e in (is.1, subst (λ (w : List ℕ). is_script_name w ≡ true) is.1 is.0)
part_found an_identifier word value e = let is = if_value (is_identifier word) word value e in (is.1, subst (λ (w : List ℕ). is_identifier w ≡ true) is.1 is.0)
part_found a_text word value e = cc
part_found a_host word value e = let is = map_value capped (number word) value e in (is.0, is.1, sym is.2)
part_found a_positive word value e = count_found word value e
part_found some_ticks word value e =
    let read = chain_value (below (2 ^ 32)) (number word) value e in
    let small = if_value (nat_lt read.0 (2 ^ 32)) read.0 value read.2 in
    (read.1 ∙ ap Some small.1, subst (λ (n : ℕ). n < 2 ^ 32) small.1 (ltb-true read.0 (2 ^ 32) small.0))
part_found some_octets word value e = e
part_found a_kind word value e = by_word_found kind_word all_kinds word value e
part_found a_style word value e = by_word_found style_word all_styles word value e
part_found a_criterion word value e = criterion_spelled word value e
part_found a_crash word value e = same_text word (codes "crash") (if_value (bytes_eq word (codes "crash")) tt value e).0
part_found a_stop word value e =
    (by_word_found stop_word crash_stops word value e, stop_filled (bytes_eq word (codes "append")) (bytes_eq word (codes "execute")) word value refl refl e)
part_found a_scope word value e = by_word_found scope_word all_scopes word value e

kind_read : (kind : _) → by_word kind_word all_kinds (kind_word kind) ≡ Some kind
kind_read kinds.Account = refl
kind_read kinds.Store = refl
kind_read kinds.Queue = refl

style_read : (style : _) → by_word style_word all_styles (style_word style) ≡ Some style
style_read styles.Cold = refl
style_read styles.Warm = refl
style_read styles.Active = refl

scope_read : (place : _) → by_word scope_word all_scopes (scope_word place) ≡ Some place
scope_read scopes.Default = refl
scope_read scopes.Type = refl
scope_read scopes.Group = refl

pub part_read : (part : Part) (word : List ℕ) (value : Value part) → SpellsValue part word value → word_value part word ≡ Some value
part_read a_name word value s = rw s.0 (rw s.1 refl)
part_read an_identifier word value s = rw s.0 (rw s.1 refl)
part_read a_text word value s = ap Some s
part_read a_host word value s = ap (option_map capped) s.1 ∙ ap Some (sym s.2)
part_read a_positive word value s = count_read word value s.0 s.1
part_read some_ticks word value s =
    let test : nat_lt value (2 ^ 32) ≡ true = grind (arith, nat_tests) in
    ap (option_and_then (below (2 ^ 32))) s.0 ∙ rw test refl
part_read some_octets word value s = s
part_read a_kind word value s = ap (by_word kind_word all_kinds) s ∙ kind_read value
part_read a_style word value s = ap (by_word style_word all_styles) s ∙ style_read value
part_read a_criterion word value s = criterion_read word value s
part_read a_crash word value s = rw s refl
part_read a_stop word value s = rw s.0 (stop_case value (rw s.0 at s.1))
part_read a_scope word value s = ap (by_word scope_word all_scopes) s ∙ scope_read value
