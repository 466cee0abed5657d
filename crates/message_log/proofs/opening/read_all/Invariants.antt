use Rattle.std.proofs.Common.{◌≡◌, drop}
use Rattle.message_log.specs.Opening.{content_from, content_of}
use Rattle.message_log.proofs.opening.read_all.Given as goal

-- those that are left, behind what was read
abbrev pub invariant-loop-index : goal.invariant-loop-index
invariant-loop-index g l =
    content_from l.index l.opening (drop l.index (g.K.Keeper.records l.keeper)) ≡ content_of (g.K.Keeper.records l.keeper)
