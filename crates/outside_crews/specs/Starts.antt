-- What a start did to a crew.
use Rattle.std.specs.Prelude.{◌≡◌, false}
use Rattle.ft_outside.specs.Schedules.{Schedule, is_failing, after_call, after_fault}
use Rattle.outside_crews.specs.declared.crews.Started.{Started}
use Rattle.outside_crews.specs.declared.crews.Started.TheVariants as starts

-- The job that runs is the one that was handed in, where the crew wasn't told to refuse it, and no fault is counted; a
-- refusal counts as one.
abbrev pub IsStarted : {J Gives : Type 0} → J → Schedule → Schedule → Started J Gives → Type 0
IsStarted job old new (starts.Running running) = (running ≡ job) × (is_failing old ≡ false) × (new ≡ after_call old)
IsStarted job old new starts.Refused = new ≡ after_fault old
