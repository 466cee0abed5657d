-- The options of a call: `ret=N`, `exp=N` and `nover`, in any order, each at most once.
use Rattle.std.specs.Prelude.{ℕ, ℤ, true, false, if◌then◌else◌, List, [], ◌∷◌, take, drop, codes, Option, Some, None, is_none, option_and_then}
use Rattle.std.specs.Str.{bytes_eq}
use Rattle.fault_script.specs.Numbers.{signed_32, unsigned_64}
use Rattle.fault_script.specs.declared.options.Options.{Options}

-- a call without options carries the version of the group's reference
abbrev pub no_options : Options
no_options = record { retention = None; expiration = None; versioned = true }

-- `ret=N`, if it was not given before
abbrev pub with_retention : Options → ℤ → Option Options
with_retention options id =
    if is_none options.retention then Some (record options { retention = Some (record { 0 = id }) }) else None

-- `exp=N`, if it was not given before
abbrev pub with_expiration : Options → ℕ → Option Options
with_expiration options tick =
    if is_none options.expiration then Some (record options { expiration = Some (record { 0 = tick }) }) else None

-- `nover`, if it was not given before
abbrev pub without_version : Options → Option Options
without_version options = if options.versioned then Some (record options { versioned = false }) else None

-- the options with this word's, if it is one and was not given before
abbrev pub with_option : List ℕ → Options → Option Options
with_option word options =
    if bytes_eq word (codes "nover") then without_version options
    else (if bytes_eq (take 4 word) (codes "ret=") then option_and_then (with_retention options) (signed_32 (drop 4 word))
    else (if bytes_eq (take 4 word) (codes "exp=") then option_and_then (with_expiration options) (unsigned_64 (drop 4 word))
    else None))

-- the options with those of all these words, in order
abbrev pub with_options : List (List ℕ) → Option Options → Option Options
with_options [] options = options
with_options (word ∷ words) options = with_options words (option_and_then (with_option word) options)

-- what these words say, if each of them is an option
abbrev pub options_of : List (List ℕ) → Option Options
options_of words = with_options words (Some no_options)
