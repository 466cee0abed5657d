use Rattle.bench_core.proofs.Going.{goes_on}
use Rattle.bench_core.proofs.groups.act.Goals as goal

pub act-answer-requires : goal.act-answer-requires
act-answer-requires g c = (c.requires.some.group, c.requires.some.stands, c.requires.may c.requires.some.group c.requires.some.stands)

pub returns : goal.returns
returns g c =
    let some = c.requires.some in
    goes_on g.S.Servant.machine some.group c.args.event c.act-answer.result _ _ _ (c.act-answer.ensures.acted some.group some.stands (c.requires.may some.group some.stands))
