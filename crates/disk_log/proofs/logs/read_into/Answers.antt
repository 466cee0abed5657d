use Rattle.std.proofs.Common.{◌≡◌, ℕ, List, length, take, drop, sym, ◌∙◌, arith}
use Rattle.std.proofs.lemmas.List.{take_all}
use Rattle.disk_log.proofs.logs.read_into.Goals as goal

-- what was read is what the disk gives
whole : (into from r : List ℕ) → into ≡ take (length from) (drop 0 r) → length r ≡ length from → r ≡ into
whole into from r is long = sym (is ∙ take_all (length from) r (omega (arith, long)))

pub returns-in-Ok-clause-given : goal.returns-in-Ok-clause-given
returns-in-Ok-clause-given g c = λ r given. whole c.read_at.new.into c.args.bytes.now r (c.in-Done.ensures.given r given) (c.requires.all r given)
