use Rattle.std.proofs.Common.{sym, subst}
use Rattle.world_turns.specs.Answers.{Acts}
use Rattle.world_turns.specs.Naming.{Naming}
use Rattle.world_management.specs.Reading.{member_of}
use Rattle.world_management.proofs.reading.member_line.Goals as goal

pub returns-in-There : goal.returns-in-There
returns-in-There c = λ calls.
    let found = c.in-There.ensures in
    subst (λ (n : Naming). Acts (member_of c.args.world.now n c.args.number) c.member_at.result c.args.world.now c.args.world.now calls calls) (sym found.1)
    (c.member_at.ensures found.0 calls found.2)
