use Rattle.std.proofs.Common.{◌≡◌, take}
use Rattle.group_model.specs.Views.{sent_to, without}
use Rattle.group_hosts.proofs.sending.to_others.Given as goal

-- what the members so far are sent
abbrev pub invariant-loop-member : goal.invariant-loop-member
invariant-loop-member l = l.items.items ≡ sent_to (without l.host.0 (take l.member-index l.members)) l.carried
