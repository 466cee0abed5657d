-- The doors of a run's hosts.
use Rattle.std.specs.Prelude.{ℕ, ◌-◌, List, ◌++◌, length, replicate, Result, Ok, Err}
use Rattle.ft_base.specs.declared.limits.TheConstants.{HOST_LIMIT}
use Rattle.ft_outside.specs.Outside.{next_count}
use Rattle.live_net.specs.declared.binds.BindFault.{BindFault}
use Rattle.live_net.specs.declared.binds.BindFault.TheVariants as faults

-- The ports of all hosts that there can be: those of the doors, in their order, and 0 behind them.
unfoldable pub ports_of : List ℕ → List ℕ
ports_of ports = ports ++ replicate (HOST_LIMIT - length ports) 0

-- the network's faults: a refusal is one
abbrev pub after_binds : {A : Type 0} → Result A BindFault → ℕ → ℕ
after_binds (Ok bound) count = count
after_binds (Err faults.Refused) count = next_count count
after_binds (Err faults.NoMemory) count = count
