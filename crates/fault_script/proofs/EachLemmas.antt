-- What each of some words is: with one word more, where a word is nothing, and one by one.
use Rattle.std.proofs.Common.{◌≡◌, ℕ, ◌<◌, ◌+◌, zero, suc, List, [], ◌∷◌, ◌++◌, length, get_or, take, Option, Some, None, Bor, arith, ap, subst, ◌∙◌, refl}
use Rattle.std.specs.Prelude.{option_map, option_and_then}
use Rattle.std.specs.List.{AllZip}
use Rattle.std.proofs.lemmas.List.{take_more, map-append}
use Rattle.fault_script.specs.Words.{texts, each}

-- the values, and behind them the one of the last word
abbrev behind : {X : Type 0} → Option X → Option (List X) → Option (List X)
behind last values = option_and_then (λ vs. option_map (λ v. vs ++ v ∷ []) last) values

joined : {X : Type 0} (first : Option X) (values : Option (List X)) (last : Option X) → option_and_then (λ v. option_map (λ vs. v ∷ vs) (behind last values)) first
    ≡ behind last (option_and_then (λ v. option_map (λ vs. v ∷ vs) values) first)
joined None values last = refl
joined (Some value) None last = refl
joined (Some value) (Some values) None = refl
joined (Some value) (Some values) (Some other) = refl

alone : {X : Type 0} (last : Option X) → option_and_then (λ v. option_map (λ vs. v ∷ vs) (Some [])) last ≡ behind last (Some [])
alone None = refl
alone (Some value) = refl

each-append : {X : Type 0} (what : List ℕ → Option X) (words : List (List ℕ)) (word : List ℕ) → each what (words ++ word ∷ []) ≡ behind (what word) (each what words)
each-append what [] word = alone (what word)
each-append {X} what (first ∷ words) word =
    ap (λ (values : Option (List X)). option_and_then (λ v. option_map (λ vs. v ∷ vs) values) (what first)) (each-append what words word)
    ∙ joined (what first) (each what words) (what word)

each-push : {X : Type 0} (what : List ℕ → Option X) (words : List (List ℕ)) (word : List ℕ) (values : List X) (value : X) → each what words ≡ Some values
    → what word ≡ Some value → each what (words ++ word ∷ []) ≡ Some (values ++ value ∷ [])
each-push {X} what words word values value before here =
    each-append what words word ∙ ap (behind (what word)) before ∙ ap (λ (last : Option X). behind last (Some values)) here

-- the word at a place is something
pub each-more : {X : Type 0} (what : List ℕ → Option X) (words : List (Bor (List ℕ))) (i : ℕ) (d : Bor (List ℕ)) (values : List X) (value : X) → i < length words
    → each what (texts (take i words)) ≡ Some values → what (get_or words i d).now ≡ Some value
    → each what (texts (take (i + 1) words)) ≡ Some (values ++ value ∷ [])
each-more what words i d values value inside before here =
    let one_more : texts (take (i + 1) words) ≡ texts (take i words) ++ (get_or words i d).now ∷ [] =
    ap texts (take_more words i d inside) ∙ map-append (λ (w : Bor (List ℕ)). w.now) (take i words) (get_or words i d ∷ []) in
    ap (each what) one_more ∙ each-push what (texts (take i words)) (get_or words i d).now values value before here

no_rest : {X : Type 0} (first : Option X) → option_and_then (λ v. option_map (λ vs. v ∷ vs) None) first ≡ None
no_rest None = refl
no_rest (Some value) = refl

-- the word at a place is nothing
pub each-stop : {X : Type 0} (what : List ℕ → Option X) (words : List (Bor (List ℕ))) (i : ℕ) (d : Bor (List ℕ)) → i < length words
    → what (get_or words i d).now ≡ None → each what (texts words) ≡ None
each-stop what [] i d inside here = absurd (omega arith)
each-stop what (first ∷ words) zero d inside here =
    ap (option_and_then (λ v. option_map (λ vs. v ∷ vs) (each what (texts words)))) here
each-stop {X} what (first ∷ words) (suc i) d inside here =
    ap (λ (values : Option (List X)). option_and_then (λ v. option_map (λ vs. v ∷ vs) values) (what first.now))
    (each-stop what words i d (omega arith) here)
    ∙ no_rest (what first.now)

apart_case : {X : Type 0} (Is : List ℕ → X → Type 0) (word : List ℕ) (words : List (List ℕ)) (values : List X) (value : Option X) (others : Option (List X))
    → ((x : X) → value ≡ Some x → Is word x) → ((xs : List X) → others ≡ Some xs → AllZip Is words xs)
    → option_and_then (λ v. option_map (λ vs. v ∷ vs) others) value ≡ Some values → AllZip Is (word ∷ words) values
apart_case Is word words values None others here more e = cc
apart_case Is word words values (Some value) None here more e = cc
apart_case {X} Is word words values (Some value) (Some others) here more e =
    let same : value ∷ others ≡ values = cc in
    subst (λ (vs : List X). AllZip Is (word ∷ words) vs) same (here value refl, more others refl)

-- one by one
pub each_apart : {X : Type 0} (what : List ℕ → Option X) (Is : List ℕ → X → Type 0) → ((word : List ℕ) (x : X) → what word ≡ Some x → Is word x)
    → (words : List (List ℕ)) (values : List X) → each what words ≡ Some values → AllZip Is words values
each_apart {X} what Is is [] values e = let same : [] ≡ values = cc in subst (λ (vs : List X). AllZip Is [] vs) same tt
each_apart what Is is (word ∷ words) values e =
    apart_case Is word words values (what word) (each what words) (is word) (each_apart what Is is words) e

pub each_read : {X : Type 0} (what : List ℕ → Option X) (Is : List ℕ → X → Type 0) → ((word : List ℕ) (x : X) → Is word x → what word ≡ Some x)
    → (words : List (List ℕ)) (values : List X) → AllZip Is words values → each what words ≡ Some values
each_read what Is read [] [] all = refl
each_read what Is read [] (value ∷ values) all = absurd all
each_read what Is read (word ∷ words) [] all = absurd all
each_read what Is read (word ∷ words) (value ∷ values) all =
    ap (option_and_then (λ v. option_map (λ vs. v ∷ vs) (each what words))) (read word value all.0)
    ∙ ap (option_map (λ vs. value ∷ vs)) (each_read what Is read words values all.1)
