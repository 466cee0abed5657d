use Rattle.world_management.proofs.HostLemmas.{member_goes}
use Rattle.world_management.proofs.reading.member_at.Goals as goal

pub returns-in-Ok-one_line : goal.returns-in-Ok-one_line
returns-in-Ok-one_line c = λ group calls there.
    member_goes c.args.world.now c.args.number c.in-Some.host c.in-Some.ensures.there.0 c.in-Some.ensures.there.1
    c.args.place group c.group.result.now c.in-Ok.line c.in-Ok-one_line.report calls there c.group.ensures c.in-Ok.ensures c.in-Ok-one_line.ensures
