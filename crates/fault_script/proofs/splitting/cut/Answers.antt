use Rattle.fault_script.proofs.SplitLemmas.{cut_none, cut_some}
use Rattle.fault_script.proofs.splitting.cut.Goals as goal

pub returns-in-None-clause-parts : goal.returns-in-None-clause-parts
returns-in-None-clause-parts c = cut_none c.args.line.now c.in-None.ensures.place

pub returns-in-Some-clause-parts : goal.returns-in-Some-clause-parts
returns-in-Some-clause-parts c =
    let at = c.in-Some.ensures.place in
    cut_some c.args.line.now c.parted.result.0.now c.parted.result.1.now c.in-Some.place at.0 at.1 c.parted.ensures.before c.parted.ensures.behind
