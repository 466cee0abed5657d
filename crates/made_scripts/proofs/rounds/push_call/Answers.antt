use Rattle.std.proofs.Common.{◌+◌}
use Rattle.made_scripts.specs.Scripts.{again, call_lines, delivery, deposit}
use Rattle.made_scripts.proofs.LineLemmas.{lines_written}
use Rattle.made_scripts.proofs.rounds.push_call.Goals as goal

pub returns : goal.returns
unfolding call_lines
returns c =
    lines_written _ _ _ _ _ (deposit c.args.round c.args.drawn) (delivery (c.args.sent + 1)) (again c.args.drawn (c.args.sent + 1))
    (delivery (c.args.sent + 2)) c.in_ok-push_deposit.ensures c.in_ok-push_delivery.ensures c.in_ok-push_again.ensures
    c.in_ok-push_delivery-2.ensures
