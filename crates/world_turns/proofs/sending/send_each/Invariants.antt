use Rattle.std.proofs.Common.{◌≡◌, ◌+◌, ◌++◌, length}
use Rattle.std.specs.List.{AllByRecursion}
use Rattle.script_world.specs.Sound.{IsOnItsWay}
use Rattle.script_world.specs.World.{carried, with_messages}
use Rattle.world_turns.specs.Sending.{all_carried, sent_lines}
use Rattle.world_turns.proofs.sending.send_each.Given as goal

-- what was sent so far, and what is left
abbrev pub invariant-loop-out : goal.invariant-loop-out
invariant-loop-out l = record {
  whole : l.yielded ++ l.out-iterator.rest.items ≡ l.fn.outs;
  world : l.world ≡ with_messages l.fn.world (all_carried l.group l.yielded);
  report : l.report ≡ l.fn.report ++ sent_lines (length l.fn.world.messages + 1) l.name l.from l.yielded;
  left : AllByRecursion (λ out. IsOnItsWay l.fn.world.groups (carried l.group out)) l.out-iterator.rest.items;
}
