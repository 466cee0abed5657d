use Rattle.iogr_reference.proofs.NamingLaws.{has_key, has_no_key}
use Rattle.iogr_reference.proofs.insides.key_of.Goals as goal

pub returns-clause-found : goal.returns-clause-found
returns-clause-found c = has_key c.args.tagged.now c.key_in.result c.key_in.ensures

pub returns-clause-refused : goal.returns-clause-refused
returns-clause-refused c = has_no_key c.args.tagged.now c.key_in.result c.key_in.ensures
