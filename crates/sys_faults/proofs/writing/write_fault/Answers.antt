use Rattle.sys_faults.proofs.BodyLaws.{is_read_again}
use Rattle.sys_faults.proofs.writing.write_fault.Goals as goal

pub returns-clause-read : goal.returns-clause-read
returns-clause-read c =
    is_read_again c.args.order c.args.fault.now c.write_exactly.result c.requires c.write_exactly.ensures.written c.write_exactly.ensures.valid
