-- Words, and how a line is made of them.
use Rattle.std.specs.Prelude.{ℕ, ◌==◌, if◌then◌else◌, List, [], ◌∷◌, ◌++◌, length, map, Option, Some, None, codes, decimal}
use Rattle.std.specs.List.{flat_map}
use Rattle.hex.specs.Hex.{encode_lower}
use Rattle.ft_base.specs.declared.numbers.HostNo.{HostNo}
use Rattle.report_words.specs.declared.words.Word.{Word}
use Rattle.report_words.specs.declared.words.Word.TheVariants.{Fixed, Text, Made, Number, Host, Location}

-- texts, with a byte between each two
abbrev pub joined_text : ℕ → List (List ℕ) → List ℕ
joined_text separator [] = []
joined_text separator (text ∷ texts) = text ++ flat_map (λ next. separator ∷ next) texts

-- words, with a space between each two
abbrev pub phrase_text : List (List ℕ) → List ℕ
phrase_text words = joined_text 32 words

-- a line of these words, with its LF
abbrev pub line : List (List ℕ) → List ℕ
line words = phrase_text words ++ 10 ∷ []

-- host numbers, with a comma between each two; `-` for none
abbrev pub hosts_text : List ℕ → List ℕ
hosts_text hosts = if length hosts == 0 then codes "-" else joined_text 44 (map decimal hosts)

-- octets in hexadecimal; `-` for none
abbrev pub octets_text : List ℕ → List ℕ
octets_text octets = if length octets == 0 then codes "-" else encode_lower octets

-- a host's number; `-` for none
abbrev pub host_text : Option HostNo → List ℕ
host_text None = codes "-"
host_text (Some host) = decimal host.0

-- where a host's objects are: `h`, and its number directly behind it
abbrev pub location_text : HostNo → List ℕ
location_text host = codes "h" ++ decimal host.0

-- a word's text
abbrev pub word_text : Word → List ℕ
word_text (Fixed text) = text.now
word_text (Text text) = text.now
word_text (Made text) = text.now
word_text (Number number) = decimal number
word_text (Host host) = host_text host
word_text (Location host) = location_text host
