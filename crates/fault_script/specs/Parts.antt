-- What one word of a line can be: its value, and which words spell a value.
use Rattle.std.specs.Prelude.{◌≡◌, ℕ, ◌<◌, ◌≤◌, ◌^◌, true, if◌then◌else◌, List, [], ◌∷◌, ◌++◌, length, codes, Option, Some, None}
use Rattle.std.specs.Str.{bytes_eq}
use Rattle.ft_base.specs.declared.decisions.Stop.{Stop}
use Rattle.ft_base.specs.declared.decisions.Stop.TheVariants as stops
use Rattle.ft_base.specs.declared.views.Style.{Style}
use Rattle.ft_base.specs.declared.views.Style.TheVariants as styles
use Rattle.fault_script.specs.Words.{is_script_name, is_identifier}
use Rattle.fault_script.specs.Numbers.{number, capped, host_number, positive_number, unsigned_32}
use Rattle.fault_script.specs.Arguments.{octets_of}
use Rattle.fault_script.specs.Properties.{equals_place, criterion}
use Rattle.property_manager.specs.declared.settings.Property.{Property}
use Rattle.fault_script.specs.declared.lines.KindWord.{KindWord}
use Rattle.fault_script.specs.declared.lines.KindWord.TheVariants as kinds
use Rattle.fault_script.specs.declared.keywords.Scope.{Scope}
use Rattle.fault_script.specs.declared.keywords.Scope.TheVariants as scopes

-- ---- keywords

-- the first of some values that has this word
abbrev pub by_word : {A : Type 0} → (A → List ℕ) → List A → List ℕ → Option A
by_word word_of [] word = None
by_word word_of (value ∷ values) word = if bytes_eq word (word_of value) then Some value else by_word word_of values word

-- the word of a kind
abbrev pub kind_word : KindWord → List ℕ
kind_word kinds.Account = codes "account"
kind_word kinds.Store = codes "store"
kind_word kinds.Queue = codes "queue"

abbrev pub all_kinds : List KindWord
all_kinds = kinds.Account ∷ kinds.Store ∷ kinds.Queue ∷ []

-- the word of a style
abbrev pub style_word : Style → List ℕ
style_word styles.Cold = codes "cold"
style_word styles.Warm = codes "warm"
style_word styles.Active = codes "active"

abbrev pub all_styles : List Style
all_styles = styles.Cold ∷ styles.Warm ∷ styles.Active ∷ []

-- the word of a stop, behind `crash`
abbrev pub stop_word : Stop → List ℕ
stop_word stops.Never = []
stop_word stops.AfterAppend = codes "append"
stop_word stops.AfterExecute = codes "execute"

-- the stops that have a word
abbrev pub crash_stops : List Stop
crash_stops = stops.AfterAppend ∷ stops.AfterExecute ∷ []

-- the word that says whose property is set or read
abbrev pub scope_word : Scope → List ℕ
scope_word scopes.Default = codes "default"
scope_word scopes.Type = codes "type"
scope_word scopes.Group = codes "group"

abbrev pub all_scopes : List Scope
all_scopes = scopes.Default ∷ scopes.Type ∷ scopes.Group ∷ []

-- ---- parts

pub data Part : Type 0 where
  -- the name of a group, a client or a subscriber
  a_name : Part
  -- an operation, or the name of a property
  an_identifier : Part
  -- any word
  a_text : Part
  -- a host's number
  a_host : Part
  -- a number from 1
  a_positive : Part
  -- a number of 32 bits
  some_ticks : Part
  -- hexadecimal, or `-` for none
  some_octets : Part
  a_kind : Part
  a_style : Part
  -- `P=V`
  a_criterion : Part
  -- the word `crash`
  a_crash : Part
  a_stop : Part
  a_scope : Part

abbrev pub Value : Part → Type 0
Value a_name = List ℕ
Value an_identifier = List ℕ
Value a_text = List ℕ
Value a_host = ℕ
Value a_positive = ℕ
Value some_ticks = ℕ
Value some_octets = List ℕ
Value a_kind = KindWord
Value a_style = Style
Value a_criterion = Property
Value a_crash = Unit {0}
Value a_stop = Stop
Value a_scope = Scope

-- the value of a word, if it is of this part
abbrev pub word_value : (part : Part) → List ℕ → Option (Value part)
word_value a_name word = if is_script_name word then Some word else None
word_value an_identifier word = if is_identifier word then Some word else None
word_value a_text word = Some word
word_value a_host word = host_number word
word_value a_positive word = positive_number word
word_value some_ticks word = unsigned_32 word
word_value some_octets word = octets_of word
word_value a_kind word = by_word kind_word all_kinds word
word_value a_style word = by_word style_word all_styles word
word_value a_criterion word = criterion word
word_value a_crash word = if bytes_eq word (codes "crash") then Some tt else None
word_value a_stop word = by_word stop_word crash_stops word
word_value a_scope word = by_word scope_word all_scopes word

-- a word is a number, which no more than 64 bits keep
abbrev pub IsNumber : List ℕ → ℕ → Type 0
IsNumber word kept = (value : ℕ) × (number word ≡ Some value) × (kept ≡ capped value)

-- a word is `P=V`, with no `=` in P
abbrev pub IsCriterion : List ℕ → Property → Type 0
IsCriterion word property =
    (word ≡ property.name ++ (codes "=" ++ property.value.0))
    × (is_identifier property.name ≡ true) × (equals_place property.name ≡ None)

-- a word of this part spells a value
abbrev pub SpellsValue : (part : Part) → List ℕ → Value part → Type 0
SpellsValue a_name word name = (word ≡ name) × (is_script_name name ≡ true)
SpellsValue an_identifier word name = (word ≡ name) × (is_identifier name ≡ true)
SpellsValue a_text word text = word ≡ text
SpellsValue a_host word host = IsNumber word host
SpellsValue a_positive word value = IsNumber word value × (1 ≤ value)
SpellsValue some_ticks word ticks = (number word ≡ Some ticks) × (ticks < 2 ^ 32)
SpellsValue some_octets word octets = octets_of word ≡ Some octets
SpellsValue a_kind word kind = word ≡ kind_word kind
SpellsValue a_style word style = word ≡ style_word style
SpellsValue a_criterion word property = IsCriterion word property
SpellsValue a_crash word _ = word ≡ codes "crash"
SpellsValue a_stop word stop = (word ≡ stop_word stop) × (1 ≤ length word)
SpellsValue a_scope word scope = word ≡ scope_word scope
