use Rattle.std.specs.Prelude.{option_map}
use Rattle.ft_contexts.proofs.WritingLaws.{is_found_again, are_short}
use Rattle.ft_contexts.proofs.writing.write_contexts.Goals as goal

pub returns-clause-found : goal.returns-clause-found
returns-clause-found c =
    is_found_again c.args.version (option_map (λ key. key.now) c.args.key) c.write_exactly.result
    c.write_exactly.ensures.written c.write_exactly.ensures.valid_version c.write_exactly.ensures.valid_key

pub returns-clause-short : goal.returns-clause-short
returns-clause-short c =
    are_short c.args.version (option_map (λ key. key.now) c.args.key) c.write_exactly.result
    c.write_exactly.ensures.written c.write_exactly.ensures.valid_key
