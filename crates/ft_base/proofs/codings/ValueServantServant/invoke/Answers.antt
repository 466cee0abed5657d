use Rattle.ft_base.specs.CodingLaws as codings
use Rattle.ft_base.proofs.codings.ValueServantServant.invoke.Goals as goal

pub run-requires : goal.run-requires
run-requires g c = codings.fits_as g.V.Coded.coding c.args.request.now c.requires

pub returns-clause-ran : goal.returns-clause-ran
returns-clause-ran g c =
    rw (← c.self.view_is)
    (codings.step_ran g.met.V.Coded.owes c.self.inside.value c.run.new.self c.args.request.now c.in_ok-outcome.outcome
    c.is_sound.ensures c.is_sound-2.ensures c.in_ok-outcome.ensures.ran)
