use Rattle.iogr_reference.proofs.NamingLaws.{is_named, is_unnamed}
use Rattle.iogr_reference.proofs.groups.group_ref_of.Goals as goal

pub returns-clause-found : goal.returns-clause-found
returns-clause-found c = is_named c.args.reference.now c.group_in.result c.group_in.ensures

pub returns-clause-refused : goal.returns-clause-refused
returns-clause-refused c = is_unnamed c.args.reference.now c.group_in.result c.group_in.ensures
