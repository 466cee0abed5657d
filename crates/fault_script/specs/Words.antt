-- The words of a line, and what a word can be beside a number.
use Rattle.std.specs.Prelude.{ℕ, ◌==◌, ◌&&◌, ◌||◌, not, Bool, nat_le, List, [], ◌∷◌, length, map, filter, slice_index, Option, Some, is_none, option_map, option_and_then}
use Rattle.std.specs.List.{slice_split, list_all}
use Rattle.std.specs.Char.{is_ascii_alphabetic, is_ascii_alphanumeric}
use Rattle.std.specs.Borrow.{Bor}
use Rattle.ft_base.specs.Text.{name_refusal}

-- space, tab and carriage return divide words, and nothing else does
abbrev pub is_blank : ℕ → Bool
is_blank byte = (byte == 32) || (byte == 9) || (byte == 13)

-- two blanks side by side have no word between them
abbrev pub is_filled : List ℕ → Bool
is_filled word = not (length word == 0)

-- the words of a line, in order
abbrev pub words : List ℕ → List (List ℕ)
words line = filter is_filled (slice_split is_blank line)

-- a line whose first word begins with `#` is a comment
abbrev pub is_comment : List ℕ → Bool
is_comment word = slice_index word 0 == 35

-- a letter, a digit, `_`, `-` or `.`
abbrev pub is_name_byte : ℕ → Bool
is_name_byte byte = is_ascii_alphanumeric byte || (byte == 95) || (byte == 45) || (byte == 46)

-- the name of a group, a client or a subscriber: 1 to 64 such bytes, of which the first is a letter
abbrev pub is_script_name : List ℕ → Bool
is_script_name word = nat_le 1 (length word) && nat_le (length word) 64
    && is_ascii_alphabetic (slice_index word 0) && list_all is_name_byte word

-- an operation, or the name of a property: 1 to 255 bytes, none of them 0
abbrev pub is_identifier : List ℕ → Bool
is_identifier word = is_none (name_refusal word)

-- the texts of borrowed words
abbrev pub texts : List (Bor (List ℕ)) → List (List ℕ)
texts words = map (λ word. word.now) words

-- what each of some words is, in order, if each of them is something
abbrev pub each : {X : Type 0} → (List ℕ → Option X) → List (List ℕ) → Option (List X)
each what [] = Some []
each what (word ∷ words) = option_and_then (λ value. option_map (λ values. value ∷ values) (each what words)) (what word)
