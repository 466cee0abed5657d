use Rattle.std.proofs.Common.{subst}
use Rattle.hex.specs.Hex.{IsBytes}
use Rattle.iogr_reference.proofs.texts.text_in.Goals as goal

pub returns-clause-bytes : goal.returns-clause-bytes
returns-clause-bytes c = subst IsBytes c.in_ok-bytes.ensures.value c.in_ok-bytes.ensures.bytes
