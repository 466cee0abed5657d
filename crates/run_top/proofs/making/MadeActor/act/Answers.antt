use Rattle.std.proofs.Common.{◌<◌, subst, sym, arith}
use Rattle.run_top.specs.Making.{Tally}
use Rattle.run_top.specs.Playing as script
use Rattle.run_top.proofs.making.MadeActor.act.Goals as goal

pub printed-requires : goal.printed-requires
printed-requires g c =
    (c.in-Goes.ensures.next c.requires.0
    (subst (λ (t : Tally). script.MayAct t.world c.requires.0) (sym c.self.view_is) c.requires.2.world)).kept

pub returns-in-Ok-clause-next : goal.returns-in-Ok-clause-next
returns-in-Ok-clause-next g c = λ number may.
    let few = subst (λ (t : Tally). t.lines < number) (sym c.self.view_is) may.few in
    record {
      world = c.in-Goes.ensures.next number (subst (λ (t : Tally). script.MayAct t.world number) (sym c.self.view_is) may.world);
      few = omega (arith, few);
    }
