use Rattle.ft_world.proofs.JournalLemmas.{servants_are_called}
use Rattle.ft_world.proofs.laws.servants_are_called.Goals as goal

pub returns : goal.returns
returns c =
    let counts = c.calls_are_counted.ensures in
    servants_are_called (record { none = counts.none; go_on = counts.go_on; failing = c.failures_come_once.ensures.same }) counts.counted
