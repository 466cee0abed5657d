use Rattle.std.proofs.Common.{◌-◌, ◌+◌, ◌≤◌, length}
use Rattle.fault_script.specs.Digits.{AreSmall}
use Rattle.fault_script.proofs.DigitLemmas.{IsFilled}
use Rattle.fault_script.proofs.hexadecimal.fill_at_once.Given as goal

abbrev pub invariant-octets : goal.invariant-octets
invariant-octets l = (l.i ≤ l.last + 16) × IsFilled l.word l.octets (AreSmall l.greatest) l.i

abbrev pub decreases-octets : goal.decreases-octets
decreases-octets l = length l.octets - l.i
