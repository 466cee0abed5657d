-- A group of which all hosts stopped and whose log was opened again: all hosts are up and know nothing, of its
-- views the group has the newest alone, and what has run since the checkpoint is to be run again. (Chapter 23,
-- "Logging & Recovery Management".)
use Rattle.std.specs.Prelude.{true}
use Rattle.ft_base.specs.Machine.{Machine}
use Rattle.group_model.specs.Agreeing.{IsSound, IsSoundCommon}
use Rattle.group_model.specs.Plain.{Common, Group, blank}
use Rattle.group_model.specs.Views.{newest}

abbrev pub reopened_common : Common → Common
reopened_common c = record c { first_kept = newest c; ran = c.mark }

abbrev pub reopened : Group → Group
reopened g = record { common = reopened_common g.common; hosts = λ i. blank true }

abbrev pub ReopenedGroupsAreSound : Type 0
ReopenedGroupsAreSound = (m : Machine) (g : Group) → IsSoundCommon m g.common → IsSound m (reopened g)
