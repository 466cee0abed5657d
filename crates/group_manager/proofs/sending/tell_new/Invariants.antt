use Rattle.std.proofs.Common.{◌≡◌, ◌++◌, take}
use Rattle.std.specs.Prelude.{not}
use Rattle.std.specs.List.{filter}
use Rattle.ft_base.specs.Members.{is_member}
use Rattle.group_model.specs.Views.{sent_to}
use Rattle.group_model.specs.declared.events.Inner.TheVariants as inners
use Rattle.group_manager.proofs.sending.tell_new.Given as goal

-- those so far that have joined are told
abbrev pub invariant-loop-host : goal.invariant-loop-host
invariant-loop-host l =
    l.out.items ≡ l.fn.out.items ++ sent_to (filter (λ m. not (is_member m l.old)) (take l.host-index l.host-items)) (inners.View l.version)
