-- The text of a script's lines, each as its words.
use Rattle.std.specs.Prelude.{ℕ, List, ◌++◌, codes, decimal}
use Rattle.std.specs.List.{flat_map}
use Rattle.report_words.specs.Words.{line}

-- the text of lines
abbrev pub text_of : List (List (List ℕ)) → List ℕ
text_of lines = flat_map line lines

-- the name of a client by its number
abbrev pub client : ℕ → List ℕ
client number = codes "c" ++ decimal number
