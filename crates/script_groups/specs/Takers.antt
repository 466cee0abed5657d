-- The hosts that take a group's checkpoints and send its updates now. (Chapter 23, "Logging and Recovery Management".)
use Rattle.std.specs.Prelude.{Option}
use Rattle.ft_base.specs.declared.numbers.HostNo.{HostNo}
use Rattle.group_model.specs.Takers.{taker, updater}
use Rattle.script_groups.specs.Groups.{ScriptGroup, group_of}

-- the newest view's primary, in an active group the first member that is up; none where it is down
abbrev pub checkpoint_taker : ScriptGroup → Option HostNo
checkpoint_taker g = taker (group_of g)

-- in warm groups alone
abbrev pub update_taker : ScriptGroup → Option HostNo
update_taker g = updater (group_of g)
