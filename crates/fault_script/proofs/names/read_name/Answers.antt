use Rattle.std.proofs.Common.{◌≡◌, true}
use Rattle.fault_script.specs.Words.{is_script_name}
use Rattle.fault_script.proofs.NameLemmas.{script_name_is_identifier}
use Rattle.fault_script.proofs.names.read_name.Goals as goal

pub returns-then-is_script_name : goal.returns-then-is_script_name
returns-then-is_script_name c =
    let named : is_script_name c.args.word.now ≡ true = cc in
    let operation = script_name_is_identifier c.args.word.now named in
    rw named (rw operation at c.read_identifier.ensures)
