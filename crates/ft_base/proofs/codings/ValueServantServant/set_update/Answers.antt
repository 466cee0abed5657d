use Rattle.std.proofs.Common.{◌≡◌, List, ℕ, Option, ap, sym, ◌∙◌, subst}
use Rattle.std.specs.Prelude.{Err}
use Rattle.ft_base.specs.Coding.{machine_of, state_of}
use Rattle.ft_base.specs.CodingLaws as codings
use Rattle.ft_base.specs.Servants.{JudgesUpdate}
use Rattle.ft_base.proofs.codings.ValueServantServant.set_update.Goals as goal

pub returns-in-Err-clause-judged : goal.returns-in-Err-clause-judged
returns-in-Err-clause-judged g c =
    let coding = g.V.Coded.coding in
    let seen : (machine_of coding).applied (state_of coding c.self.inside.value) c.args.update.now
    ≡ (machine_of coding).applied (state_of coding c.args.self.now) c.args.update.now =
    ap (λ value. (machine_of coding).applied (state_of coding value) c.args.update.now) c.self.view_is in
    subst (λ (o : Option (List ℕ)). JudgesUpdate {X = Unit {0}} o (Err c.in-Err.fault))
    (sym (codings.applied_is g.met.V.Coded.owes c.self.inside.value c.args.update.now c.is_sound.ensures) ∙ seen) c.in-Err.ensures.judged

pub returns-clause-set : goal.returns-clause-set
returns-clause-set g c =
    rw (← c.self.view_is)
    (codings.update_applied g.met.V.Coded.owes c.self.inside.value c.take_update.new.self c.args.update.now
    c.is_sound.ensures c.in_default.ensures.set)
