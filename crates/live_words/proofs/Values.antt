-- The values that are asked for begin with no hyphen, so each may stand in a word of its own.
use Rattle.std.proofs.Common.{◌≡◌, ◌∙◌, ◌≤◌, ◌&&◌, ◌⊎◌, ℕ, Bool, codes, true, false, refl, sym, ap, subst, arith, List, [], ◌∷◌, length, Option, Some, None, inl, inr}
use Rattle.std.specs.Prelude.{◌==◌, nat_le, option_and_then}
use Rattle.std.specs.List.{list_all, list_any}
use Rattle.std.specs.Char.{is_ascii_digit}
use Rattle.std.specs.Str.{bytes_eq}
use Rattle.std.proofs.lemmas.Bool.{and_parts, eqb-true, leb-true, or_cases}
use Rattle.std.proofs.lemmas.Slice.Eq.{bytes_eq-Decides}
use Rattle.decimal_numbers.specs.Numbers.{is_number}
use Rattle.ft_base.specs.declared.views.Style.{Style}
use Rattle.live_words.specs.declared.asking.LiveWords.{LiveWords}
use Rattle.live_words.specs.Words.{AreOnce, Given, IsAsked, Text, after_of, is_name, kill_of, names, number_in, style_of, value_of}
use Rattle.live_words.proofs.Texts.{IsWord, is_plain_name, neither, never, none_is_some}
use Rattle.live_words.proofs.Walks.{AreSpoken}

same_text : (a b : Text) → bytes_eq a b ≡ true → a ≡ b
same_text a b e = (bytes_eq-Decides a b).0 e

itself : (a : Text) → bytes_eq a a ≡ true
itself a = (bytes_eq-Decides a a).1 refl

-- ---- words

no_hyphen : (x : ℕ) (xs : Text) → (x == 45) ≡ false → IsWord (x ∷ xs)
no_hyphen x xs differs = record { goes = rw differs refl; long = rw differs refl; short = rw differs refl }

digit_differs : (x : ℕ) → is_ascii_digit x ≡ true → (x == 45) ≡ false
digit_differs x digit = go (x == 45) refl
  where
    go : (b : Bool) → (x == 45) ≡ b → (x == 45) ≡ false
    go false e = e
    go true e =
        let at : x ≡ 45 = eqb-true x 45 e in
        let low : 48 ≤ x = leb-true 48 x (and_parts (nat_le 48 x) (nat_le x 57) digit).0 in
        absurd (omega (arith, at, low))

number_word : (word : Text) → is_number word ≡ true → IsWord word
number_word [] is = never (sym is)
number_word (x ∷ xs) is =
    let digits = (and_parts (nat_le 1 (length (x ∷ xs)) && nat_le (length (x ∷ xs)) 20) (list_all is_ascii_digit (x ∷ xs)) is).1 in
    no_hyphen x xs (digit_differs x (and_parts (is_ascii_digit x) (list_all is_ascii_digit xs) digits).0)

number_in_word : (low high : ℕ) (word : Text) (n : ℕ) → number_in low high word ≡ Some n → IsWord word
number_in_word low high word n is = go (is_number word) refl
  where
    go : (b : Bool) → is_number word ≡ b → IsWord word
    go true e = number_word word e
    go false e =
        let there : number_in low high word ≡ None = rw e refl in
        none_is_some (sym there ∙ is)

style_word : (word : Text) (style : Style) → style_of word ≡ Some style → IsWord word
style_word word style is = go (bytes_eq word (codes "cold")) (bytes_eq word (codes "warm")) (bytes_eq word (codes "active")) refl refl refl
  where
    fixed : (text : Text) → bytes_eq word text ≡ true → IsWord text → IsWord word
    fixed text e is_word = subst IsWord (sym (same_text word text e)) is_word

    go : (a b c : Bool) → bytes_eq word (codes "cold") ≡ a → bytes_eq word (codes "warm") ≡ b → bytes_eq word (codes "active") ≡ c → IsWord word
    go true b c ea eb ec = fixed (codes "cold") ea (record { goes = refl; long = refl; short = refl })
    go false true c ea eb ec = fixed (codes "warm") eb (record { goes = refl; long = refl; short = refl })
    go false false true ea eb ec = fixed (codes "active") ec (record { goes = refl; long = refl; short = refl })
    go false false false ea eb ec =
        let there : style_of word ≡ None = rw (ea, eb, ec) refl in
        none_is_some (sym there ∙ is)

kill_word : (hosts : ℕ) (word : Text) (killed : _) → kill_of hosts (Some word) ≡ Some killed → IsWord word
kill_word hosts word killed is = go (is_number word) refl
  where
    go : (b : Bool) → is_number word ≡ b → IsWord word
    go true e = number_word word e
    go false e =
        let there : kill_of hosts (Some word) ≡ None = rw e refl in
        none_is_some (sym there ∙ is)

-- ---- what each option is

abbrev AllNames : (Text → Type 0) → List Text → Type 0
AllNames P [] = Unit {0}
AllNames P (n ∷ ns) = P n × AllNames P ns

of_all : (P : Text → Type 0) (ns : List Text) (name : Text) → AllNames P ns → is_name ns name ≡ true → P name
of_all P [] name all known = never (sym known)
of_all P (n ∷ ns) name all known = go (or_cases (bytes_eq n name) (is_name ns name) known) (of_all P ns name all.1)
  where
    go : (bytes_eq n name ≡ true) ⊎ (is_name ns name ≡ true) → (is_name ns name ≡ true → P name) → P name
    go (inl e) more = subst P (same_text n name e) all.0
    go (inr e) more = more e

plain_names : (name : Text) → is_name names name ≡ true → is_plain_name name ≡ true
plain_names name known = of_all (λ n. is_plain_name n ≡ true) names name (refl, (refl, (refl, (refl, (refl, (refl, tt)))))) known

module _ (value : Text → Option Text) (live : LiveWords) (asked : IsAsked value live) where
  given_to : {A : Type 0} (f : Option Text → Option A) (name v : Text) (x : A) → f (value name) ≡ Some x → value name ≡ Some v → f (Some v) ≡ Some x
  given_to f name v x is there = sym (ap f there) ∙ is

  word_of : (name : Text) → is_name names name ≡ true → (v : Text) → value name ≡ Some v → IsWord v
  word_of name known = of_all (λ n. (v : Text) → value n ≡ Some v → IsWord v) names name (
    (λ v is. number_in_word 1 16 v live.hosts (given_to (option_and_then (number_in 1 16)) (codes "hosts") v live.hosts asked.hosts is)),
    (
      (λ v is. number_in_word 1 64 v live.clients (given_to (option_and_then (number_in 1 64)) (codes "clients") v live.clients asked.clients is)),
      (
        (λ v is. number_in_word 1 1000 v live.calls (given_to (option_and_then (number_in 1 1000)) (codes "calls") v live.calls asked.calls is)),
        (
          (λ v is. style_word v live.style (given_to (option_and_then style_of) (codes "style") v live.style asked.style is)),
          (
            (λ v is. kill_word live.hosts v live.kill (given_to (kill_of live.hosts) (codes "kill") v live.kill asked.kill is)),
            ((λ v is. number_in_word 1 64000 v live.after (given_to after_of (codes "after") v live.after asked.after is)), tt),
          ),
        ),
      ),
    ),
  ) known

-- ---- options that are given once

abbrev HasValues : (Text → Option Text) → List Given → Type 0
HasValues value [] = Unit {0}
HasValues value (g ∷ gs) = (value g.name ≡ Some g.value) × HasValues value gs

behind_another : (g : Given) (gs hs : List Given) → list_any (λ h. bytes_eq g.name h.name) hs ≡ false → HasValues (value_of gs) hs → HasValues (value_of (g ∷ gs)) hs
behind_another g gs [] none has = tt
behind_another g gs (h ∷ hs) none has =
    let here = neither (bytes_eq g.name h.name) (list_any (λ x. bytes_eq g.name x.name) hs) none in
    let still : value_of (g ∷ gs) h.name ≡ value_of gs h.name = rw here.0 refl in
    (still ∙ has.0, behind_another g gs hs here.1 has.1)

own_values : (gs : List Given) → AreOnce gs → HasValues (value_of gs) gs
own_values [] once = tt
own_values (g ∷ gs) once =
    let first : value_of (g ∷ gs) g.name ≡ Some g.value = rw (itself g.name) refl in
    (first, behind_another g gs gs once.0 (own_values gs once.1))

spoken_by : (value : Text → Option Text) (live : LiveWords) → IsAsked value live → (gs : List Given) → list_all (λ g. is_name names g.name) gs ≡ true → HasValues value gs → AreSpoken names gs
spoken_by value live asked [] known has = tt
spoken_by value live asked (g ∷ gs) known has =
    let here = and_parts (is_name names g.name) (list_all (λ h. is_name names h.name) gs) known in
    (plain_names g.name here.0, here.0, word_of value live asked g.name here.0 g.value has.0, spoken_by value live asked gs here.1 has.1)

-- the options of a form can be spoken
pub spoken : (gs : List Given) (live : LiveWords) → list_all (λ g. is_name names g.name) gs ≡ true → AreOnce gs → IsAsked (value_of gs) live → AreSpoken names gs
spoken gs live known once asked = spoken_by (value_of gs) live asked gs known (own_values gs once)
