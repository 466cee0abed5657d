-- What an option's word looks like to `clap`.
use Rattle.std.proofs.Common.{◌≡◌, ◌∙◌, ◌+◌, ◌||◌, ℕ, Bool, cond, codes, true, false, not, suc, refl, sym, ap, subst, arith, List, [], ◌∷◌, ◌++◌, take, drop, Option, Some, None, true≢false}
use Rattle.std.specs.Prelude.{◌==◌, is_some, option_and_then}
use Rattle.std.specs.List.{before_first, after_first, position_or_len}
use Rattle.std.specs.Str.{bytes_eq}
use Rattle.std.proofs.lemmas.Bool.{eqb-true}
use Rattle.clap.specs.Lexer.{has_byte, long_of, long_of_rest, name_and_value, short_of, strip_byte}

pub never : {P : Type 0} → true ≡ false → P
never e = absurd (true≢false e)

pub none_is_some : {A P : Type 0} {x : A} → None ≡ Some x → P
none_is_some e = never (sym (ap (λ o. is_some o) e))

abbrev Held : {A : Type 0} → A → Option A → Type 0
Held x None = Unit {0}
Held x (Some y) = x ≡ y

pub same_some : {A : Type 0} (x y : A) → Some x ≡ Some y → x ≡ y
same_some x y e = subst (Held x) e refl

pub neither : (a b : Bool) → (a || b) ≡ false → (a ≡ false) × (b ≡ false)
neither true b e = never e
neither false b e = (refl, e)

pub or_false : (b : Bool) → (b || false) ≡ b
or_false true = refl
or_false false = refl

pub or_assoc : (a b c : Bool) → ((a || b) || c) ≡ (a || (b || c))
or_assoc true b c = refl
or_assoc false b c = refl

pub or_true : (b : Bool) → (b || true) ≡ true
or_true true = refl
or_true false = refl

-- ---- the first `=`

abbrev is_equals : ℕ → Bool
is_equals x = x == 61

at_equals : (x : ℕ) (xs : List ℕ) → is_equals x ≡ true → position_or_len is_equals (x ∷ xs) ≡ 0
at_equals x xs is = rw is refl

past_other : (x : ℕ) (xs : List ℕ) → is_equals x ≡ false → position_or_len is_equals (x ∷ xs) ≡ suc (position_or_len is_equals xs)
past_other x xs differs = rw differs (omega arith)

before_other : (x : ℕ) (xs : List ℕ) → is_equals x ≡ false → before_first is_equals (x ∷ xs) ≡ x ∷ before_first is_equals xs
before_other x xs differs = ap (λ n. take n (x ∷ xs)) (past_other x xs differs)

after_other : (x : ℕ) (xs : List ℕ) → is_equals x ≡ false → after_first is_equals (x ∷ xs) ≡ after_first is_equals xs
after_other x xs differs =
    let on : position_or_len is_equals (x ∷ xs) + 1 ≡ suc (position_or_len is_equals xs + 1) = omega (arith, past_other x xs differs) in
    ap (λ n. drop n (x ∷ xs)) on

before_all : (text : List ℕ) → has_byte 61 text ≡ false → before_first is_equals text ≡ text
before_all [] none = refl
before_all (x ∷ xs) none =
    let differs = neither (is_equals x) (has_byte 61 xs) none in
    before_other x xs differs.0 ∙ ap (λ r. x ∷ r) (before_all xs differs.1)

pub alone : (name : List ℕ) → has_byte 61 name ≡ false → name_and_value name ≡ (name, None)
alone name none =
    let value : cond (has_byte 61 name) (Some (after_first is_equals name)) None ≡ None = rw none refl in
    λ i. (before_all name none i, value i)

before_joined : (name value : List ℕ) → has_byte 61 name ≡ false → before_first is_equals (name ++ 61 ∷ value) ≡ name
before_joined [] value none = refl
before_joined (x ∷ xs) value none =
    let differs = neither (is_equals x) (has_byte 61 xs) none in
    before_other x (xs ++ 61 ∷ value) differs.0 ∙ ap (λ r. x ∷ r) (before_joined xs value differs.1)

after_joined : (name value : List ℕ) → has_byte 61 name ≡ false → after_first is_equals (name ++ 61 ∷ value) ≡ value
after_joined [] value none = refl
after_joined (x ∷ xs) value none =
    let differs = neither (is_equals x) (has_byte 61 xs) none in
    after_other x (xs ++ 61 ∷ value) differs.0 ∙ after_joined xs value differs.1

has_joined : (name value : List ℕ) → has_byte 61 (name ++ 61 ∷ value) ≡ true
has_joined [] value = refl
has_joined (x ∷ xs) value = ap (λ b. is_equals x || b) (has_joined xs value) ∙ or_true (is_equals x)

pub joined : (name value : List ℕ) → has_byte 61 name ≡ false → name_and_value (name ++ 61 ∷ value) ≡ (name, Some value)
joined name value none =
    let given : cond (has_byte 61 (name ++ 61 ∷ value)) (Some (after_first is_equals (name ++ 61 ∷ value))) None ≡ Some value =
    rw (has_joined name value) (ap Some (after_joined name value none)) in
    λ i. (before_joined name value none i, given i)

-- a text with a `=` is cut at the first one
cut_there : (x : ℕ) (xs : List ℕ) → is_equals x ≡ true → (x ∷ xs) ≡ before_first is_equals (x ∷ xs) ++ 61 ∷ after_first is_equals (x ∷ xs)
cut_there x xs is = rw (at_equals x xs is) (ap (λ y. y ∷ xs) (eqb-true x 61 is))

cut : (text : List ℕ) → has_byte 61 text ≡ true → text ≡ before_first is_equals text ++ 61 ∷ after_first is_equals text
cut [] has = never (sym has)
cut (x ∷ xs) has = go (is_equals x) refl (cut xs)
  where
    go : (b : Bool) → is_equals x ≡ b → (has_byte 61 xs ≡ true → xs ≡ before_first is_equals xs ++ 61 ∷ after_first is_equals xs)
        → (x ∷ xs) ≡ before_first is_equals (x ∷ xs) ++ 61 ∷ after_first is_equals (x ∷ xs)
    go true is more = cut_there x xs is
    go false differs more =
        let later : has_byte 61 xs ≡ true = sym (ap (λ b. b || has_byte 61 xs) differs) ∙ has in
        rw (before_other x xs differs, after_other x xs differs) (ap (λ r. x ∷ r) (more later))

pub apart : (text name : List ℕ) → name_and_value text ≡ (name, None) → text ≡ name
apart text name is = go (has_byte 61 text) refl
  where
    go : (b : Bool) → has_byte 61 text ≡ b → text ≡ name
    go true has =
        let value : cond (has_byte 61 text) (Some (after_first is_equals text)) None ≡ Some (after_first is_equals text) = rw has refl in
        none_is_some (sym (ap (λ p. p.1) is) ∙ value)
    go false none = sym (before_all text none) ∙ ap (λ p. p.0) is

pub put_together : (text name value : List ℕ) → name_and_value text ≡ (name, Some value) → text ≡ name ++ 61 ∷ value
put_together text name value is = go (has_byte 61 text) refl
  where
    go : (b : Bool) → has_byte 61 text ≡ b → text ≡ name ++ 61 ∷ value
    go true has =
        let given : cond (has_byte 61 text) (Some (after_first is_equals text)) None ≡ Some (after_first is_equals text) = rw has refl in
        let after : after_first is_equals text ≡ value = same_some _ _ (sym given ∙ ap (λ p. p.1) is) in
        let before : before_first is_equals text ≡ name = ap (λ p. p.0) is in
        cut text has ∙ (λ i. before i ++ 61 ∷ after i)
    go false none =
        let given : cond (has_byte 61 text) (Some (after_first is_equals text)) None ≡ None = rw none refl in
        none_is_some (sym given ∙ ap (λ p. p.1) is)

-- ---- two hyphens

abbrev Long : List ℕ → List ℕ × Option (List ℕ) → Type 0
Long word p = (rest : List ℕ) × (word ≡ 45 ∷ 45 ∷ rest) × (name_and_value rest ≡ p)

long_rest : (rest : List ℕ) (p : List ℕ × Option (List ℕ)) → long_of_rest rest ≡ Some p → name_and_value rest ≡ p
long_rest [] p is = none_is_some is
long_rest (x ∷ xs) p is = same_some _ _ is

pub long_word : (word : List ℕ) (p : List ℕ × Option (List ℕ)) → long_of word ≡ Some p → Long word p
long_word [] p is = none_is_some is
long_word (x ∷ xs) p is = first (x == 45) refl xs is
  where
    second : x ≡ 45 → (y : ℕ) (ys : List ℕ) (b : Bool) → (y == 45) ≡ b → option_and_then long_of_rest (strip_byte 45 (y ∷ ys)) ≡ Some p → Long (x ∷ y ∷ ys) p
    second same y ys true e h =
        let there : option_and_then long_of_rest (strip_byte 45 (y ∷ ys)) ≡ long_of_rest ys = rw e refl in
        let hyphen = eqb-true y 45 e in
        (ys, (λ i. same i ∷ hyphen i ∷ ys), long_rest ys p (sym there ∙ h))
    second same y ys false e h =
        let there : option_and_then long_of_rest (strip_byte 45 (y ∷ ys)) ≡ None = rw e refl in
        none_is_some (sym there ∙ h)

    next : x ≡ 45 → (ys : List ℕ) → option_and_then long_of_rest (strip_byte 45 ys) ≡ Some p → Long (x ∷ ys) p
    next same [] h = none_is_some h
    next same (y ∷ ys) h = second same y ys (y == 45) refl h

    first : (b : Bool) → (x == 45) ≡ b → (ys : List ℕ) → long_of (x ∷ ys) ≡ Some p → Long (x ∷ ys) p
    first true e ys h =
        let there : long_of (x ∷ ys) ≡ option_and_then long_of_rest (strip_byte 45 ys) = rw e refl in
        next (eqb-true x 45 e) ys (sym there ∙ h)
    first false e ys h =
        let there : long_of (x ∷ ys) ≡ None = rw e refl in
        none_is_some (sym there ∙ h)

-- the two ways to write an option, and back

pub alone_word : (word name : List ℕ) → long_of word ≡ Some (name, None) → word ≡ codes "--" ++ name
alone_word word name is =
    let long = long_word word (name, None) is in
    long.1 ∙ ap (λ (r : List ℕ). 45 ∷ 45 ∷ r) (apart long.0 name long.2)

pub joined_word : (word name value : List ℕ) → long_of word ≡ Some (name, Some value) → word ≡ codes "--" ++ (name ++ (codes "=" ++ value))
joined_word word name value is =
    let long = long_word word (name, Some value) is in
    long.1 ∙ ap (λ (r : List ℕ). 45 ∷ 45 ∷ r) (put_together long.0 name value long.2)

-- a name of an option: some bytes, and no `=` among them
abbrev pub is_plain_name : List ℕ → Bool
is_plain_name [] = false
is_plain_name (x ∷ xs) = not (has_byte 61 (x ∷ xs))

not_true : (b : Bool) → not b ≡ true → b ≡ false
not_true true e = never (sym e)
not_true false e = refl

pub read_alone : (name : List ℕ) → is_plain_name name ≡ true → long_of (codes "--" ++ name) ≡ Some (name, None)
read_alone [] plain = never (sym plain)
read_alone (x ∷ xs) plain = ap Some (alone (x ∷ xs) (not_true _ plain))

pub read_joined : (name value : List ℕ) → is_plain_name name ≡ true → long_of (codes "--" ++ (name ++ (codes "=" ++ value))) ≡ Some (name, Some value)
read_joined [] value plain = never (sym plain)
read_joined (x ∷ xs) value plain = ap Some (joined (x ∷ xs) value (not_true _ plain))

pub alone_goes_on : (name : List ℕ) → is_plain_name name ≡ true → bytes_eq (codes "--" ++ name) (codes "--") ≡ false
alone_goes_on [] plain = never (sym plain)
alone_goes_on (x ∷ xs) plain = refl

pub joined_goes_on : (name value : List ℕ) → bytes_eq (codes "--" ++ (name ++ (codes "=" ++ value))) (codes "--") ≡ false
joined_goes_on [] value = refl
joined_goes_on (x ∷ xs) value = refl

-- a word that is neither an option nor flags
pub record IsWord (word : List ℕ) : Type 0 where
  pub goes : bytes_eq word (codes "--") ≡ false
  pub long : long_of word ≡ None
  pub short : short_of word ≡ None
