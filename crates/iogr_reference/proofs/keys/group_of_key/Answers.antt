use Rattle.std.proofs.Common.{rules}
use Rattle.iogr_reference.proofs.KeyLaws.{key_named, key_other}
use Rattle.iogr_reference.proofs.keys.group_of_key.Goals as goal

pub returns-clause-named : goal.returns-clause-named
returns-clause-named c = key_named c.args.key.now c.group_in_key.result (search rules) c.group_in_key.ensures

pub returns-clause-other : goal.returns-clause-other
returns-clause-other c = key_other c.args.key.now c.group_in_key.result c.group_in_key.ensures
