-- Names: texts of 1 to 255 bytes, none of them 0.
use Rattle.std.specs.Prelude.{◌≡◌, ℕ, ◌<◌, ◌≤◌, ◌==◌, nat_lt, if◌then◌else◌, List, length, position, Option, Some, None, option_map}
use Rattle.ft_base.specs.declared.text.NameFault.{NameFault}
use Rattle.ft_base.specs.declared.text.NameFault.TheVariants as faults

-- the place of the first zero byte
abbrev pub zero_place : List ℕ → Option ℕ
zero_place text = position (λ b. b == 0) text

-- the first cause for which a text is no name: empty, over 255 bytes, a zero byte
abbrev pub name_refusal : List ℕ → Option NameFault
name_refusal text =
    if length text == 0 then Some faults.Empty
    else (if nat_lt 255 (length text) then Some (faults.Long (length text)) else option_map faults.Zero (zero_place text))

-- the text, if it is a name
abbrev pub unless_refused : List ℕ → Option NameFault → Option (List ℕ)
unless_refused text None = Some text
unless_refused text (Some fault) = None

abbrev pub name_of : List ℕ → Option (List ℕ)
name_of text = unless_refused text (name_refusal text)

pub record IsName (text : List ℕ) : Type 0 where
  pub filled : 0 < length text
  pub short : length text ≤ 255
  pub no_zero : zero_place text ≡ None
