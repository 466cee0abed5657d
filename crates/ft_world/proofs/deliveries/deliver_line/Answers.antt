use Rattle.std.proofs.Common.{ap, sym, ◌∙◌}
use Rattle.std.specs.Prelude.{slice_get, Some}
use Rattle.script_world.specs.declared.messages.Message.{Message}
use Rattle.script_world.specs.declared.messages.Message.TheVariants as messages
use Rattle.world_monitors.specs.Arriving.{ping_comes, pong_comes}
use Rattle.world_turns.specs.Doing.{acts_by}
use Rattle.ft_world.specs.Delivering.{deliver_line, delivered, heard_by}
use Rattle.ft_world.proofs.deliveries.deliver_line.Goals as goal

pub returns-in-Ok-hear : goal.returns-in-Ok-hear
returns-in-Ok-hear g c =
    let w = c.args.world.now in
    let k = c.args.number in
    let steps = c.args.steps.now in
    let r = c.in_ok-reply-in-Some-Reply.reply in
    let said = c.in-Some-Reply.field-0-is ∙ ap messages.Reply (sym c.in_ok-reply-in-Some-Reply.ensures) in
    acts_by (deliver_line w k c.args.stop) (heard_by w k r (slice_get w.clients r.client)) c.in-Ok-hear.report c.hear.new.world steps steps
    (ap (delivered w k c.args.stop) (sym c.in-Some-Reply.ensures.value ∙ ap (λ (m : Message). Some m) said)) (c.in-Ok-hear.ensures steps)

pub returns-in-Ok-ping_comes : goal.returns-in-Ok-ping_comes
returns-in-Ok-ping_comes g c =
    let w = c.args.world.now in
    let k = c.args.number in
    let steps = c.args.steps.now in
    acts_by (deliver_line w k c.args.stop) (ping_comes w k c.in-Some-Ping.group c.in-Some-Ping.host) c.in-Ok-ping_comes.report c.ping_comes.new.world steps steps
    (ap (delivered w k c.args.stop) (sym c.in-Some-Ping.ensures.value ∙ ap (λ (m : Message). Some m) c.in-Some-Ping.field-0-is)) (c.in-Ok-ping_comes.ensures steps)

pub returns-in-Ok-pong_comes : goal.returns-in-Ok-pong_comes
returns-in-Ok-pong_comes g c =
    let w = c.args.world.now in
    let k = c.args.number in
    let steps = c.args.steps.now in
    acts_by (deliver_line w k c.args.stop) (pong_comes w k c.in-Some-Pong.group c.in-Some-Pong.host) c.in-Ok-pong_comes.report c.pong_comes.new.world steps steps
    (ap (delivered w k c.args.stop) (sym c.in-Some-Pong.ensures.value ∙ ap (λ (m : Message). Some m) c.in-Some-Pong.field-0-is)) (c.in-Ok-pong_comes.ensures steps)
