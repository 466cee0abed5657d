use Rattle.std.proofs.Common.{sym, ◌∙◌}
use Rattle.servant_store.proofs.ArgumentLaws.{second_read}
use Rattle.servant_store.proofs.arguments.pair_in.Goals as goal

pub returns-clause-value : goal.returns-clause-value
returns-clause-value c =
    second_read c.args.args.now c.in_ok-key.key c.in_ok-key.value c.text.result c.into_octets.result c.in_ok-key.ensures.typed
    (sym c.bytes-2.ensures ∙ c.in_ok-key.ensures.spelled) c.text.ensures c.into_octets.ensures
