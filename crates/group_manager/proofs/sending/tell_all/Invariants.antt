use Rattle.std.proofs.Common.{◌≡◌, ◌++◌, take}
use Rattle.group_model.specs.Views.{sent_to}
use Rattle.group_model.specs.declared.events.Inner.TheVariants as inners
use Rattle.group_manager.proofs.sending.tell_all.Given as goal

-- those so far are told
abbrev pub invariant-loop-host : goal.invariant-loop-host
invariant-loop-host l = l.out.items ≡ l.fn.out.items ++ sent_to (take l.host-index l.host-items) (inners.View l.version)
