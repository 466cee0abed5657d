use Rattle.std.proofs.Common.{true≢false, ap, sym, ◌∙◌}
use Rattle.std.specs.Prelude.{is_some}
use Rattle.message_log.specs.Opening.{Content}
use Rattle.message_log.proofs.logs.Log.reopen.Goals as goal

pub unreachable-requires : goal.unreachable-requires
unreachable-requires g c =
    let newest = ap (λ (d : Content). is_some d.newest) c.opening.view_is in
    true≢false (sym c.in_default.ensures.1 ∙ sym newest ∙ ap is_some c.in_default-newest.is)
