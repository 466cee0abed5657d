use Rattle.std.proofs.Common.{arith, refl, sym, subst, ◌∙◌}
use Rattle.world_turns.specs.Answers.{Does, HasDone}
use Rattle.world_turns.specs.Turns.{Effect}
use Rattle.ft_world.proofs.ArriveLemmas.{nobody_turned_away, turned_away_is}
use Rattle.ft_world.proofs.deliveries.arrive_late.Goals as goal

pub returns-in-Some : goal.returns-in-Some
returns-in-Some c = λ g stop calls there.
    subst (λ (e : Effect). Does e c.turn_away.result c.turn_away.new.world calls calls)
    (sym (turned_away_is c.args.world.now c.args.number c.args.arrival.now stop c.args.place g c.in-Some.asker
    (sym (c.in_ok-asker.ensures g there) ∙ c.in-Some.is))) (c.turn_away.ensures calls)

pub returns-in-None : goal.returns-in-None
returns-in-None c = λ g stop calls there.
    subst (λ (e : Effect). HasDone e c.new.result c.args.world.now calls calls)
    (sym (nobody_turned_away c.args.world.now c.args.number c.args.arrival.now stop c.args.place g
    (sym (c.in_ok-asker.ensures g there) ∙ c.in-None.is)))
    (record { world = refl; lines = c.new.ensures; calls = omega arith })
