-- The words after the operation of a call: its arguments by position, then options.
use Rattle.std.specs.Prelude.{◌≡◌, ℕ, ◌+◌, ◌^◌, ◌&&◌, nat_lt, if◌then◌else◌, List, [], ◌∷◌, ◌++◌, length, codes, Option, Some, None, is_none, option_map, option_and_then, Result, Ok, Err, MatchResult, ◌⊎◌}
use Rattle.std.specs.Result.{result_ok}
use Rattle.std.specs.Str.{bytes_eq}
use Rattle.hex.specs.Hex.{decode_of}
use Rattle.ft_base.specs.Text.{zero_place}
use Rattle.ft_base.specs.Canonical.{one_of, values_at}
use Rattle.ft_base.specs.declared.requests.Par.{Par}
use Rattle.ft_base.specs.declared.requests.Par.TheVariants.{I64, U32, Bool, Text, Octets}
use Rattle.ft_base.specs.declared.requests.Signature.{Signature}
use Rattle.ft_base.specs.declared.values.Value.{Value}
use Rattle.ft_base.specs.declared.values.Value.TheVariants as values
use Rattle.fault_script.specs.Numbers.{signed_64, unsigned_32}
use Rattle.fault_script.specs.Options.{options_of}
use Rattle.fault_script.specs.declared.options.Options.{Options}
use Rattle.fault_script.specs.declared.arguments.CallWords.{CallWords}
use Rattle.fault_script.specs.declared.lines.LineFault.{LineFault}
use Rattle.fault_script.specs.declared.lines.LineFault.TheVariants as faults

-- a text that its length field can count, with its NUL
abbrev pub text_of : List ℕ → Option (List ℕ)
text_of word = if nat_lt (length word + 1) (2 ^ 32) && is_none (zero_place word) then Some word else None

-- octets that their length field can count
abbrev pub countable : List ℕ → Option (List ℕ)
countable octets = if nat_lt (length octets) (2 ^ 32) then Some octets else None

-- `-` for none, else hexadecimal
abbrev pub octets_of : List ℕ → Option (List ℕ)
octets_of word = if bytes_eq word (codes "-") then Some [] else option_and_then countable (result_ok (decode_of word))

-- the value of this type that a word is, if its type reads the word
abbrev pub argument : Par → List ℕ → Option Value
argument I64 word = option_map (λ number. values.I64 number) (signed_64 word)
argument U32 word = option_map (λ number. values.U32 number) (unsigned_32 word)
argument Bool word = None
argument Text word = option_map (λ text. values.Text text) (text_of word)
argument Octets word = option_map (λ octets. values.Octets octets) (octets_of word)

-- the arguments so far, and the words that are left
pub record ArgumentState : Type 0 where
  pub values : List Value
  pub rest : List (List ℕ)

-- one argument more, from the next word
abbrev pub argument_from : Par → List Value → List (List ℕ) → Option ArgumentState
argument_from par values [] = None
argument_from par values (word ∷ rest) =
    option_map (λ value. record { values = values ++ value ∷ []; rest = rest }) (argument par word)

-- all of them, in order
abbrev pub arguments : List Par → ArgumentState → Option ArgumentState
arguments [] given = Some given
arguments (par ∷ pars) given = option_and_then (arguments pars) (argument_from par given.values given.rest)

-- the types of an operation's parameters; an operation without a signature has none
abbrev pub parameters : Option Signature → List Par
parameters None = []
parameters (Some signature) = one_of signature.first ++ one_of signature.second

-- the arguments in canonical form, and the words behind them
pub record SpelledArguments : Type 0 where
  pub args : List ℕ
  pub rest : List (List ℕ)

abbrev pub spelled : ArgumentState → SpelledArguments
spelled given = record { args = values_at 0 given.values; rest = given.rest }

-- without a signature there are no arguments
abbrev pub spelled_arguments : Option Signature → List (List ℕ) → Option SpelledArguments
spelled_arguments signature words = option_map spelled (arguments (parameters signature) (record { values = []; rest = words }))

-- the words of a call, of its arguments and its options
abbrev pub with_options : List ℕ → Options → CallWords
with_options args options =
    record { args = args; retention = options.retention; expiration = options.expiration; versioned = options.versioned }

-- the same, where the words behind the arguments are options
abbrev pub call_words_from : SpelledArguments → Option CallWords
call_words_from given = option_map (with_options given.args) (options_of given.rest)

-- what isn't there is a syntax fault
abbrev pub or_syntax : {X : Type 0} → Option X → Result X LineFault
or_syntax None = Err faults.Syntax
or_syntax (Some value) = Ok value

-- what the words after the operation say
abbrev pub call_words_of : Option Signature → List (List ℕ) → Result CallWords LineFault
call_words_of signature words = or_syntax (option_and_then call_words_from (spelled_arguments signature words))

-- What is found is this, seen by view, or there is no memory; where there is nothing to find it is a syntax fault
abbrev pub IsFound : {X Y : Type 0} → (X → Y) → Result X LineFault → Option Y → Type 0
IsFound view found wanted =
    MatchResult found (λ value. wanted ≡ Some (view value))
    (λ fault. (fault ≡ faults.NoMemory) ⊎ (fault ≡ faults.Syntax) × (wanted ≡ None))
