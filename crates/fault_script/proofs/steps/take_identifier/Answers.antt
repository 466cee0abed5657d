use Rattle.fault_script.specs.Parts.{an_identifier}
use Rattle.fault_script.proofs.StepLemmas.{found_as}
use Rattle.fault_script.proofs.steps.take_identifier.Goals as goal

pub returns : goal.returns
returns c = found_as an_identifier _ _ c.in_ok-word.word.now c.read_identifier.result c.in_ok-word.ensures c.read_identifier.ensures
