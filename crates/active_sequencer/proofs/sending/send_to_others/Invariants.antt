use Rattle.std.proofs.Common.{◌≡◌, take}
use Rattle.group_model.specs.declared.events.Inner.TheVariants as inners
use Rattle.group_model.specs.Views.{sent_to, without}
use Rattle.active_sequencer.proofs.sending.send_to_others.Given as goal

-- the orders to the members so far
abbrev pub invariant-loop-member : goal.invariant-loop-member
invariant-loop-member l = l.items.items ≡ sent_to (without l.host.0 (take l.member-index l.members)) (inners.Order l.index l.request)
