use Rattle.std.proofs.Common.{sym, subst, ◌∙◌}
use Rattle.std.specs.List.{AllByRecursion}
use Rattle.ft_base.specs.declared.numbers.GroupId.{GroupId}
use Rattle.group_model.specs.declared.events.Out.{Out}
use Rattle.script_world.specs.Sound.{IsOnItsWay}
use Rattle.script_world.specs.World.{carried}
use Rattle.world_turns.proofs.SendingLemmas.{none_printed}
use Rattle.world_turns.proofs.sending.send_all_at.Goals as goal

pub returns-then-is_empty-clause-lines : goal.returns-then-is_empty-clause-lines
returns-then-is_empty-clause-lines c = λ g at.
    none_printed c.new-lines.result c.as_slice.result.now c.args.outs _ g.name c.args.from c.new-lines.ensures c.as_slice.ensures (sym c.is_empty.ensures ∙ c.if-is_empty.true)

pub send_all-requires : goal.send_all-requires
send_all-requires c =
    subst (λ (id : GroupId). AllByRecursion (λ (out : Out). IsOnItsWay c.args.world.now.groups (carried id out)) c.args.outs)
    (sym c.id-group.ensures) (c.requires.ways c.group.result.now c.group.ensures)
