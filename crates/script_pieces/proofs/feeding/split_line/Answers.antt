use Rattle.script_pieces.proofs.Cuts.{cut_none, cut_some}
use Rattle.script_pieces.proofs.feeding.split_line.Goals as goal

pub returns-in-None : goal.returns-in-None
returns-in-None c = cut_none c.args.bytes.now c.in-None.ensures.place

pub returns-in-Some : goal.returns-in-Some
returns-in-Some c =
    let at = c.in-Some.ensures.place in
    cut_some c.args.bytes.now c.front.result.now c.behind.result.now c.in-Some.end at.0 at.1 c.front.ensures c.behind.ensures
