use Rattle.std.proofs.Common.{◌≡◌, ◌+◌, ◌≤◌, drop}
use Rattle.script_world.specs.World.{at_most_one_past}
use Rattle.script_world.specs.declared.limits.TheConstants.{BYTE_LIMIT}
use Rattle.world_turns.specs.Sending.{payloads}
use Rattle.world_turns.proofs.sending.payloads.Given as goal

-- the bytes so far, and those to come
abbrev pub invariant-loop-out : goal.invariant-loop-out
invariant-loop-out l = record {
  small : l.bytes ≤ BYTE_LIMIT + 1;
  whole : at_most_one_past (l.bytes + payloads (drop l.out-index l.outs)) ≡ at_most_one_past (payloads l.outs);
}
