-- Why a run doesn't come to its end, and what the outside counts then.
use Rattle.std.specs.Prelude.{ℕ, Bool, true, false, Option, Some, None, Result, Ok, Err}
use Rattle.ft_base.specs.declared.memory.NoMemory.{NoMemory}
use Rattle.ft_outside.specs.Outside.{next_count}
use Rattle.live_hosts.specs.declared.starts.StartFault.{StartFault}
use Rattle.live_hosts.specs.declared.starts.StartFault.TheVariants as starts
use Rattle.live_run.specs.declared.runs.RunFault.{RunFault}
use Rattle.live_run.specs.declared.runs.RunFault.TheVariants as faults

-- why there is no result
abbrev pub fault_in : {A : Type 0} → Result A RunFault → Option RunFault
fault_in (Ok value) = None
fault_in (Err fault) = Some fault

-- of a host that wasn't started
abbrev pub host_fault : StartFault → RunFault
host_fault starts.Refused = faults.Thread
host_fault starts.NoMemory = faults.NoMemory

-- of clients of whom not all were started
abbrev pub client_fault : Result Bool NoMemory → Option RunFault
client_fault (Ok true) = None
client_fault (Ok false) = Some faults.Thread
client_fault (Err fault) = Some faults.NoMemory

-- a door that is refused is one fault of the network
abbrev pub after_binds : Option RunFault → ℕ → ℕ
after_binds (Some faults.Bind) count = next_count count
after_binds other count = count

-- a start that is refused is one fault of the crew
abbrev pub after_starts : Option RunFault → ℕ → ℕ
after_starts (Some faults.Thread) count = next_count count
after_starts other count = count
