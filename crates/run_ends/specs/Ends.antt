-- How a run of the program ends where its work isn't done: the status, and what the sink of errors is told.
use Rattle.std.specs.Prelude.{◌≡◌, ℕ, ◌<◌, ◌⊎◌, ◌++◌, List, length, take, codes, Option, option_map}
use Rattle.ft_outside.specs.Outside.{next_count}
use Rattle.script_pieces.specs.Feeds.{IsGain}
use Rattle.run_ends.specs.declared.ends.ProgramFault.{ProgramFault}
use Rattle.run_ends.specs.declared.ends.ProgramFault.TheVariants as faults

abbrev pub end_status : ProgramFault → ℕ
end_status faults.Usage = 2
end_status faults.Read = 4
end_status faults.Write = 5
end_status faults.NoMemory = 6
end_status faults.Bind = 7
end_status faults.Thread = 8

abbrev pub end_text : ProgramFault → List ℕ
end_text faults.Usage = codes "ftc: usage: ftc run [--make N] | live --hosts H --clients C --calls K --style S [--kill X] [--after N]\n"
end_text faults.Read = codes "ftc: read fault\n"
end_text faults.Write = codes "ftc: write fault\n"
end_text faults.NoMemory = codes "ftc: no memory\n"
end_text faults.Bind = codes "ftc: bind fault\n"
end_text faults.Thread = codes "ftc: thread fault\n"

-- what holds of the text of a status, where it is that of a fault
pub record IfFault (status : ℕ) (P : List ℕ → Type 0) : Type 0 where
  pub usage : status ≡ 2 → P (end_text faults.Usage)
  pub read : status ≡ 4 → P (end_text faults.Read)
  pub written : status ≡ 5 → P (end_text faults.Write)
  pub memory : status ≡ 6 → P (end_text faults.NoMemory)
  pub bound : status ≡ 7 → P (end_text faults.Bind)
  pub started : status ≡ 8 → P (end_text faults.Thread)

-- a text was written whole, or one write of it failed and the sink holds a prefix of the text
abbrev pub IsTold : Option (List ℕ) → Option (List ℕ) → ℕ → ℕ → List ℕ → Type 0
IsTold before holds faults count text =
    ((holds ≡ option_map (λ held. held ++ text) before) × (count ≡ faults))
    ⊎ ((n : ℕ) × (n < length text) × (holds ≡ option_map (λ held. held ++ take n text) before) × (count ≡ next_count faults))

-- a sink that tells what it holds gained a prefix of this output
abbrev pub IsPrefixGain : Option (List ℕ) → Option (List ℕ) → List ℕ → Type 0
IsPrefixGain before holds out = (prefix : List ℕ) × (tail : List ℕ) × (out ≡ prefix ++ tail) × IsGain before holds prefix
