-- A log that is opened again goes on standing for its group: all hosts of the group had stopped, what has run since the
-- checkpoint has lost its replies, and of the views the newest is there.
use Rattle.std.specs.Prelude.{ℕ, Bool, List, Option}
use Rattle.ft_base.specs.Machine.{Machine}
use Rattle.message_log.specs.Opening.{IsReopened}
use Rattle.message_log.specs.Picture.{Picture as LogPicture}
use Rattle.message_log.specs.Written.{IsWrittenDown}
use Rattle.group_model.specs.Plain.{Common}
use Rattle.group_model.specs.Reopening.{reopened_common}
use Rattle.group_stands.specs.Stands.{LogStands}

-- each log that is opened from the records of one that is written down
abbrev pub LogsAreReopened : Type 0
LogsAreReopened = (machines : ℕ → Machine) (c : Common) (log : LogPicture) → LogStands machines c log → IsWrittenDown log →
    (again : LogPicture) (plan : Option (List Bool)) (faults : ℕ) → IsReopened log.records plan faults again → LogStands machines (reopened_common c) again
