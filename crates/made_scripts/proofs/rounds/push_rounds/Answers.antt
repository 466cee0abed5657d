use Rattle.std.proofs.Common.{append-nil, arith, refl, sym}
use Rattle.made_scripts.specs.Scripts.{drawn, rounds_lines, sent_in}
use Rattle.made_scripts.proofs.RoundLemmas.{one_round_more}
use Rattle.made_scripts.proofs.rounds.push_rounds.Goals as goal

pub loop-round-init : goal.loop-round-init
unfolding rounds_lines drawn sent_in
loop-round-init c = (sym (append-nil c.args.text.now.items), c.from-drawn.ensures, omega arith, refl, omega arith)

pub loop-round-preserved : goal.loop-round-preserved
loop-round-preserved c =
    let so_far = c.loop-round.invariant in
    let more = one_round_more c.args.number c.loop-round.round _ _ _ _ _ _ _ so_far.0 so_far.1 so_far.3
    c.next_drawn-drawn.ensures.value c.in_ok-push_round.ensures c.sent_by_round-sent.ensures.value in
    (more.0, more.1, omega arith, more.2, omega arith)
