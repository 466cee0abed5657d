-- What a call that takes memory answers.
use Rattle.std.specs.Prelude.{◌≡◌, ◌⊎◌, ℕ, List, ◌++◌, codes, Result, Ok, Err, MatchResult}
use Rattle.fault_script.specs.declared.lines.LimitName.{LimitName}
use Rattle.fault_script.specs.declared.lines.LimitName.TheVariants as limits
use Rattle.fault_script.specs.declared.lines.LineFault.{LineFault}
use Rattle.fault_script.specs.declared.lines.LineFault.TheVariants as faults

-- a call that takes memory answers what is wanted, or that there is no memory
abbrev pub IsAnswer : {X : Type 0} → Result X LineFault → Result X LineFault → Type 0
IsAnswer answer wanted =
    MatchResult answer (λ value. wanted ≡ Ok value) (λ fault. (fault ≡ faults.NoMemory) ⊎ (wanted ≡ Err fault))

-- a call that takes memory leaves what is wanted at a place, or answers why it is refused, or that there is no memory
abbrev pub IsLeft : {X Y : Type 0} → Result Y LineFault → X → Result X LineFault → Type 0
IsLeft answer left wanted =
    MatchResult answer (λ _. wanted ≡ Ok left) (λ fault. (fault ≡ faults.NoMemory) ⊎ (wanted ≡ Err fault))

-- what is printed of a limit
abbrev pub limit_text : LimitName → List ℕ
limit_text limits.Script = codes "script"
limit_text limits.Line = codes "line"
limit_text limits.Hosts = codes "hosts"
limit_text limits.Groups = codes "groups"
limit_text limits.Members = codes "members"
limit_text limits.Clients = codes "clients"
limit_text limits.Entries = codes "entries"
limit_text limits.Messages = codes "messages"
limit_text limits.Bytes = codes "bytes"
limit_text limits.Faults = codes "faults"

-- what is printed of a fault
abbrev pub fault_text : LineFault → List ℕ
fault_text faults.Syntax = codes "syntax"
fault_text faults.Unknown = codes "unknown"
fault_text faults.Again = codes "again"
fault_text (faults.Limit name) = codes "limit " ++ limit_text name
fault_text faults.NoMemory = codes "no memory"
