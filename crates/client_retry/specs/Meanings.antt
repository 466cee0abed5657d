-- What a reply means to the invocation that waits for it.
use Rattle.std.specs.Prelude.{ℕ, Bool, true, false, nat_lt, ◌||◌, if◌then◌else◌}
use Rattle.ft_base.specs.declared.numbers.Tick.{Tick}
use Rattle.iogr_reference.specs.declared.references.GroupRef.{GroupRef}
use Rattle.sys_faults.specs.declared.faults.SysKind.{SysKind}
use Rattle.sys_faults.specs.declared.faults.SysKind.TheVariants.{CommFailure, Transient, NoResponse, ObjAdapter}
use Rattle.client_retry.specs.declared.answers.End.TheVariants as ends
use Rattle.client_retry.specs.declared.answers.Heard.{Heard}
use Rattle.client_retry.specs.declared.answers.Heard.TheVariants.{Outcome, System, Forward, Unreadable}
use Rattle.client_retry.specs.declared.meanings.Meaning.{Meaning}
use Rattle.client_retry.specs.declared.meanings.Meaning.TheVariants.{Unheard, Fault, Newer, Final}

-- the exceptions to which another member might answer otherwise (chapter 23, "Extensions to CORBA Failover Semantics")
abbrev pub is_failure : SysKind → Bool
is_failure CommFailure = true
is_failure Transient = true
is_failure NoResponse = true
is_failure ObjAdapter = true
is_failure _ = false

-- what a reply that comes at this moment says to an invocation over a reference
abbrev pub said : GroupRef → Tick → Heard → Meaning
said reference now (Outcome outcome) = Final (ends.Outcome outcome)
said reference now (System fault) = if is_failure fault.kind then Fault now else Final (ends.System fault)
said reference now (Forward other) = if nat_lt reference.version.0 other.version.0 then Newer other else Fault now
said reference now Unreadable = Fault now

-- a fault of an earlier attempt doesn't count; an end and a newer reference do
abbrev pub said_late : Meaning → Meaning
said_late Unheard = Unheard
said_late (Fault now) = Unheard
said_late (Newer reference) = Newer reference
said_late (Final end) = Final end

-- by the ids of the invocation's first attempt, of its last, and of the reply
abbrev pub replied : ℕ → ℕ → ℕ → Meaning → Meaning
replied first last id meaning =
    if nat_lt id first || nat_lt last id then Unheard else if nat_lt id last then said_late meaning else meaning
