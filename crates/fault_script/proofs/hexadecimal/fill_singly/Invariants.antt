use Rattle.std.proofs.Common.{◌<◌, ◌≤◌, length}
use Rattle.fault_script.proofs.DigitLemmas.{IsFilled}
use Rattle.fault_script.proofs.hexadecimal.fill_singly.Given as goal

abbrev pub invariant-octets : goal.invariant-octets
invariant-octets l = (l.i ≤ length l.octets) × IsFilled l.word l.octets (l.greatest < 16) l.i
