use Rattle.ft_contexts.proofs.FindingLaws.{is_found, is_refused}
use Rattle.ft_contexts.proofs.finding.find_contexts.Goals as goal

pub returns-clause-found : goal.returns-clause-found
returns-clause-found c = is_found c.args.contexts.now c.find_exactly.result (rw c.as_slice.ensures at c.find_exactly.ensures)

pub returns-clause-refused : goal.returns-clause-refused
returns-clause-refused c = is_refused c.args.contexts.now c.find_exactly.result (rw c.as_slice.ensures at c.find_exactly.ensures)
