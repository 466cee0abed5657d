-- What a change of members leaves of a group's log.
use Rattle.std.specs.Prelude.{◌≡◌, ℕ, None}
use Rattle.ft_base.specs.Machine.{Machine}
use Rattle.ft_base.specs.declared.views.Style.{Style}
use Rattle.message_log.specs.Picture.{Picture as LogPicture}
use Rattle.group_model.specs.declared.events.GroupAnswer.{GroupAnswer}
use Rattle.group_model.specs.declared.events.GroupAnswer.TheVariants.{NoMemory}
use Rattle.group_model.specs.Events.{shows_fault}
use Rattle.group_model.specs.Plain.{Common}
use Rattle.group_model.specs.Turns.{Turn}
use Rattle.group_model.specs.declared.changes.Change.{Change}
use Rattle.group_model.specs.Changes.{NamesHosts, change_rows, first_fault, on_manage}
use Rattle.group_model.specs.Plain.{Host}
use Rattle.group_model.specs.Views.{newest_view}
use Rattle.group_stands.specs.Stands.{LogStands}

-- a group of this style, its log, and a change of hosts that there can be
pub record CanManage (machines : ℕ → Machine) (c : Common) (its_style : Style) (change : Change) (its_log : LogPicture) : Type 0 where
  pub style : its_style ≡ c.style
  pub log : LogStands machines c its_log
  pub hosts : NamesHosts change

-- the log and the answer are those of the plain group's turn
pub record Changes (machines : ℕ → Machine) (t : Turn) (answer : GroupAnswer) (its_log : LogPicture) : Type 0 where
  pub log : LogStands machines t.common its_log
  pub told : t.answer ≡ answer

-- which leaves its host as it was; or memory was wanted for a change that no row refuses, and the log stands for
-- the same group
abbrev pub IsManaged : (ℕ → Machine) → Common → Host → Change → GroupAnswer → LogPicture → Type 0
IsManaged machines c h change NoMemory log = (first_fault (change_rows c.style (newest_view c) change) ≡ None) × LogStands machines c log
IsManaged machines c h change answer log = Changes machines (on_manage c h change (shows_fault answer)) answer log
