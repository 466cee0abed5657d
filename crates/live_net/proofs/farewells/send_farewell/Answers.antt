use Rattle.std.proofs.Common.{ℕ, ◌+◌, Option, Some, None, subst, sym, arith}
use Rattle.std.specs.Prelude.{option_map}
use Rattle.outside_links.specs.Lending.{IsLent}
use Rattle.live_net.proofs.farewells.send_farewell.Goals as goal

-- one more is out than before
one_out : (lent : Option ℕ) → IsLent (option_map (λ (n : ℕ). n + 1) lent)
one_out None = tt
one_out (Some n) = omega arith

pub take_back-requires : goal.take_back-requires
take_back-requires g c = subst IsLent (sym c.in-Some.ensures.lent) (one_out (g.D.Dialer.lent c.args.caller.now))
