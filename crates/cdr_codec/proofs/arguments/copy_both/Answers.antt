use Rattle.ft_base.specs.Canonical.{one_of}
use Rattle.cdr_codec.proofs.CopyLaws.{both_copied}
use Rattle.cdr_codec.proofs.arguments.copy_both.Goals as goal

pub returns : goal.returns
returns c =
    both_copied (one_of c.args.signature.now.first) (one_of c.args.signature.now.second) c.args.reader.now c.copy_one.new.reader c.copy_one-2.new.reader
    c.args.writer.now c.copy_one.new.writer c.copy_one-2.new.writer c.copy_one-2.result c.in_ok-copy_one.ensures c.copy_one-2.ensures
