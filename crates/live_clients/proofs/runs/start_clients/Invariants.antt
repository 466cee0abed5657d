use Rattle.std.proofs.Common.{◌≡◌, ◌++◌, length, map}
use Rattle.live_clients.specs.Clients.{task_of, tasks_of}
use Rattle.live_clients.proofs.runs.start_clients.Given as goal

-- the clients of the callers so far run, and no start was refused
abbrev pub invariant-loop-caller : goal.invariant-loop-caller
invariant-loop-caller g l =
    (l.yielded ++ l.caller-iterator.rest.items ≡ l.fn.callers.items)
    × (map task_of l.running.items ≡ tasks_of l.fn.setting l.yielded)
    × (length l.running.items ≡ length l.yielded)
    × (l.crew.faults ≡ l.fn.crew.faults)
