use Rattle.world_management.proofs.HostLemmas.{change_goes}
use Rattle.world_management.proofs.hosts.change_at.Goals as goal

pub returns-in-Ok : goal.returns-in-Ok
returns-in-Ok g c = λ group there.
    change_goes c.args.world.now c.args.number c.in-Some.host c.in-Some.ensures.there.0 c.in-Some.ensures.there.1
    c.args.place group c.in-Ok.report c.change_members.new.world c.args.steps.now c.change_members.new.steps
    c.args.change c.change_of-change.result (c.change_of-change.ensures.value group there) (c.in-Ok.ensures group there)
