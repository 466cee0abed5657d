-- The words behind `live`: a list of options, each of which is given at most once, and what they ask for.
use Rattle.std.specs.Prelude.{◌≡◌, ℕ, ◌-◌, ◌&&◌, Bool, true, false, nat_le, if◌then◌else◌, List, [], ◌∷◌, ◌++◌, codes, Option, Some, None, option_map, option_and_then, find}
use Rattle.std.specs.List.{list_all, list_any}
use Rattle.std.specs.Str.{bytes_eq}
use Rattle.decimal_numbers.specs.Numbers.{number}
use Rattle.ft_base.specs.declared.numbers.HostNo.{HostNo}
use Rattle.ft_base.specs.declared.views.Style.{Style}
use Rattle.ft_base.specs.declared.views.Style.TheVariants as styles
use Rattle.live_words.specs.declared.asking.LiveWords.{LiveWords}

abbrev pub Text : Type 0
Text = List ℕ

-- ---- options

abbrev pub names : List Text
names = codes "hosts" ∷ codes "clients" ∷ codes "calls" ∷ codes "style" ∷ codes "kill" ∷ codes "after" ∷ []

-- An option as it is given. Its value follows `=` in the same word, or it is the next word.
pub record Given : Type 0 where
  pub name : Text
  pub value : Text
  pub is_joined : Bool

abbrev pub spelled : Given → List Text
spelled g = if g.is_joined then (codes "--" ++ (g.name ++ (codes "=" ++ g.value))) ∷ [] else (codes "--" ++ g.name) ∷ g.value ∷ []

abbrev pub spelled_all : List Given → List Text
spelled_all [] = []
spelled_all (g ∷ gs) = spelled g ++ spelled_all gs

abbrev pub is_name : List Text → Text → Bool
is_name ns name = list_any (λ n. bytes_eq n name) ns

-- no two have one name
abbrev pub AreOnce : List Given → Type 0
AreOnce [] = Unit {0}
AreOnce (g ∷ gs) = (list_any (λ h. bytes_eq g.name h.name) gs ≡ false) × AreOnce gs

-- the value of an option, where it is given
abbrev pub value_of : List Given → Text → Option Text
value_of gs name = option_map (λ g. g.value) (find (λ g. bytes_eq g.name name) gs)

-- ---- values

-- a number within these bounds
abbrev pub number_in : ℕ → ℕ → Text → Option ℕ
number_in low high word = option_and_then (λ n. if nat_le low n && nat_le n high then Some n else None) (number word)

abbrev pub style_of : Text → Option Style
style_of word =
    if bytes_eq word (codes "cold") then Some styles.Cold
    else (if bytes_eq word (codes "warm") then Some styles.Warm
    else (if bytes_eq word (codes "active") then Some styles.Active else None))

-- one of so many hosts, where a word names one
abbrev pub kill_of : ℕ → Option Text → Option (Option HostNo)
kill_of hosts None = Some None
kill_of hosts (Some word) = option_map (λ n. Some (record { 0 = n })) (number_in 0 (hosts - 1) word)

-- at least one request
abbrev pub after_of : Option Text → Option ℕ
after_of None = Some 1
after_of (Some word) = number_in 1 64000 word

-- What the values of options ask for.
pub record IsAsked (value : Text → Option Text) (live : LiveWords) : Type 0 where
  pub hosts : option_and_then (number_in 1 16) (value (codes "hosts")) ≡ Some live.hosts
  pub clients : option_and_then (number_in 1 64) (value (codes "clients")) ≡ Some live.clients
  pub calls : option_and_then (number_in 1 1000) (value (codes "calls")) ≡ Some live.calls
  pub style : option_and_then style_of (value (codes "style")) ≡ Some live.style
  pub kill : kill_of live.hosts (value (codes "kill")) ≡ Some live.kill
  pub after : after_of (value (codes "after")) ≡ Some live.after

-- ---- the form

-- the word `--`, which no form has
abbrev pub is_end : Text → Bool
is_end word = bytes_eq word (codes "--")

-- The words are those of a list of options, each with a name that `live` has and at most once, whose values ask for this.
pub record Asks (words : List Text) (live : LiveWords) : Type 0 where
  pub given : List Given
  pub spelled : words ≡ spelled_all given
  pub known : list_all (λ g. is_name names g.name) given ≡ true
  pub once : AreOnce given
  pub asked : IsAsked (value_of given) live
