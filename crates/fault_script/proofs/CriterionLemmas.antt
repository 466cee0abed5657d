-- `P=V`: what is read of it is so, and what is so is read.
use Rattle.std.proofs.Common.{◌≡◌, ℕ, ◌+◌, ◌==◌, ◌∙◌, Bool, true, false, suc, List, [], ◌∷◌, ◌++◌, length, take, drop, nat_lt, Option, Some, None, arith, sym, ap, subst, cond, refl}
use Rattle.std.specs.Prelude.{codes, option_map}
use Rattle.std.specs.List.{position_or_len}
use Rattle.std.proofs.lemmas.Bool.{eqb-true}
use Rattle.std.proofs.lemmas.Bool.Decides.{nat_tests}
use Rattle.std.proofs.Math.Seq.{take-append_seam, drop-append-add}
use Rattle.property_manager.specs.declared.settings.Property.{Property}
use Rattle.fault_script.specs.Properties.{property, property_of, equals_place, divided_at, criterion}
use Rattle.fault_script.specs.Words.{is_identifier}
use Rattle.fault_script.specs.Parts.{IsCriterion}
use Rattle.fault_script.proofs.StepLemmas.{map_value, if_value}

-- the first `=`
equals_first : (b : Bool) → b ≡ true → cond {A = Option ℕ} b (Some 0) None ≡ Some 0
equals_first b e = rw e refl

equals_here : (byte : ℕ) (word : List ℕ) → (byte == 61) ≡ true → equals_place (byte ∷ word) ≡ Some 0
equals_here byte word e = rw e (equals_first (nat_lt 0 (suc (length word))) (grind (arith, nat_tests)))

later_case : (b : Bool) (n m : ℕ) → nat_lt n m ≡ b → cond (nat_lt (1 + n) (suc m)) (Some (1 + n)) None ≡ option_map suc (cond b (Some n) None)
later_case true n m e =
    let test : nat_lt (1 + n) (suc m) ≡ true = grind (arith, nat_tests) in
    let one : 1 + n ≡ suc n = omega arith in
    rw test (ap Some one)
later_case false n m e = let test : nat_lt (1 + n) (suc m) ≡ false = grind (arith, nat_tests) in rw test refl

equals_later : (byte : ℕ) (word : List ℕ) → (byte == 61) ≡ false → equals_place (byte ∷ word) ≡ option_map suc (equals_place word)
equals_later byte word e =
    rw e (later_case (nat_lt (position_or_len (λ b. b == 61) word) (length word)) (position_or_len (λ b. b == 61) word) (length word) refl)

not_later : (place : Option ℕ) → option_map suc place ≡ None → place ≡ None
not_later None e = refl
not_later (Some place) e = cc

abbrev IsDivided : List ℕ → ℕ → Type 0
IsDivided word place = (word ≡ take place word ++ (codes "=" ++ drop (place + 1) word)) × (equals_place (take place word) ≡ None)

divided_case : (b : Bool) (byte : ℕ) (word : List ℕ) (place : ℕ) → (byte == 61) ≡ b → ((before : ℕ) → equals_place word ≡ Some before → IsDivided word before)
    → equals_place (byte ∷ word) ≡ Some place → IsDivided (byte ∷ word) place
divided_case true byte word place test more e =
    let here = equals_here byte word test in
    let first : 0 ≡ place = cc in
    subst (λ (n : ℕ). IsDivided (byte ∷ word) n) first (ap (λ (b : ℕ). b ∷ word) (eqb-true byte 61 test), refl)
divided_case false byte word place test more e =
    let behind = map_value suc (equals_place word) place (sym (equals_later byte word test) ∙ e) in
    let rest = more behind.0 behind.1 in
    let shift : suc behind.0 + 1 ≡ suc (behind.0 + 1) = omega arith in
    subst (λ (n : ℕ). IsDivided (byte ∷ word) n) behind.2
    (ap (λ (w : List ℕ). byte ∷ w) rest.0 ∙ ap (λ (m : ℕ). byte ∷ take behind.0 word ++ (codes "=" ++ drop m (byte ∷ word))) (sym shift), equals_later byte (take behind.0 word) test ∙ ap (option_map suc) rest.1)

divided : (word : List ℕ) (place : ℕ) → equals_place word ≡ Some place → IsDivided word place
divided [] place e = cc
divided (byte ∷ word) place e = divided_case (byte == 61) byte word place refl (divided word) e

place_case : (b : Bool) (byte : ℕ) (name value : List ℕ) → (byte == 61) ≡ b → (equals_place name ≡ None → equals_place (name ++ (codes "=" ++ value)) ≡ Some (length name))
    → equals_place (byte ∷ name) ≡ None → equals_place (byte ∷ name ++ (codes "=" ++ value)) ≡ Some (length (byte ∷ name))
place_case true byte name value test more none = let here = equals_here byte name test in cc
place_case false byte name value test more none =
    equals_later byte (name ++ (codes "=" ++ value)) test
    ∙ ap (option_map suc) (more (not_later (equals_place name) (sym (equals_later byte name test) ∙ none)))

place_behind : (name value : List ℕ) → equals_place name ≡ None → equals_place (name ++ (codes "=" ++ value)) ≡ Some (length name)
place_behind [] value none = equals_here 61 value refl
place_behind (byte ∷ name) value none = place_case (byte == 61) byte name value refl (place_behind name value) none

-- a property by its name and its value
property_is : (name value : List ℕ) (found : Property) → property_of name value ≡ Some found
    → (found.name ≡ name) × (found.value.0 ≡ value) × (is_identifier found.name ≡ true)
property_is name value found e =
    let read = if_value (is_identifier name) (property name value) found e in
    subst (λ (p : Property). (p.name ≡ name) × (p.value.0 ≡ value) × (is_identifier p.name ≡ true)) read.1 (refl, refl, read.0)

property_read : (property : Property) → is_identifier property.name ≡ true → property_of property.name property.value.0 ≡ Some property
property_read property named = rw named refl

-- a criterion
criterion_case : (word : List ℕ) (property : Property) (place : Option ℕ) → equals_place word ≡ place → divided_at word place ≡ Some property → IsCriterion word property
criterion_case word property None a e = cc
criterion_case word property (Some place) a e =
    let parts = divided word place a in
    let made = property_is (take place word) (drop (place + 1) word) property e in (
      parts.0 ∙ ap (λ (n : List ℕ). n ++ (codes "=" ++ drop (place + 1) word)) (sym made.0)
          ∙ ap (λ (v : List ℕ). property.name ++ (codes "=" ++ v)) (sym made.1),
      made.2,
      ap equals_place made.0 ∙ parts.1,
    )

pub criterion_spelled : (word : List ℕ) (property : Property) → criterion word ≡ Some property → IsCriterion word property
criterion_spelled word property e = criterion_case word property (equals_place word) refl e

pub criterion_read : (word : List ℕ) (property : Property) → IsCriterion word property → criterion word ≡ Some property
criterion_read word property is =
    let name = property.name in
    let value = property.value.0 in
    let joined = name ++ (codes "=" ++ value) in
    ap criterion is.0 ∙ ap (divided_at joined) (place_behind name value is.2)
    ∙ ap (λ (n : List ℕ). property_of n (drop (length name + 1) joined)) (take-append_seam name (codes "=" ++ value))
    ∙ ap (property_of name) (drop-append-add name (codes "=" ++ value) 1)
    ∙ property_read property is.1
