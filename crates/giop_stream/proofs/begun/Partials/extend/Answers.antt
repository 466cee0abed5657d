use Rattle.std.proofs.Common.{rules}
use Rattle.std.specs.Prelude.{slice_set}
use Rattle.std.proofs.lemmas.Option.{slice_get_read}
use Rattle.smallvec.proofs.SmallVecLemmas.{items-with_items}
use Rattle.giop_stream.proofs.begun.Partials.extend.Goals as goal

pub returns-in-Ok-clause-ok : goal.returns-in-Ok-clause-ok
returns-in-Ok-clause-ok c o found =
    rw (items-with_items c.self.inside.items (slice_set c.as_mut_slice.result.now c.args.at c.grow.new.self) (search rules))
    (search (rules, slice_get_read))
