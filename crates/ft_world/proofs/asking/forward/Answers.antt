use Rattle.std.proofs.Common.{subst}
use Rattle.ft_world.specs.Requests.{CanRedirect}
use Rattle.ft_world.proofs.asking.forward.Goals as goal

pub returns-in-Some-clause-can : goal.returns-in-Some-clause-can
returns-in-Some-clause-can c = subst CanRedirect c.in-Some.is c.requires
