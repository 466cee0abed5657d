use Rattle.sys_faults.proofs.BodyLaws.{is_found, is_refused}
use Rattle.sys_faults.proofs.reading.read_fault.Goals as goal

pub returns-clause-found : goal.returns-clause-found
returns-clause-found c = is_found c.args.body.now c.read_exactly.result c.read_exactly.ensures

pub returns-clause-refused : goal.returns-clause-refused
returns-clause-refused c = is_refused c.args.body.now c.read_exactly.result c.read_exactly.ensures
