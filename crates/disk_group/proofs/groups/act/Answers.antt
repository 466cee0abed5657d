use Rattle.disk_group.proofs.Going.{goes_on}
use Rattle.disk_group.proofs.groups.act.Goals as goal

pub act-answer-requires : goal.act-answer-requires
act-answer-requires g c =
    let some = c.requires.some in
    (some.group, some.stands, c.requires.may some.group some.stands)

pub returns : goal.returns
returns g c =
    let some = c.requires.some in
    let may = c.requires.may some.group some.stands in
    goes_on g.S.Servant.machine some.group c.args.event c.act-answer.result _ _ _ (c.act-answer.ensures.acted some.group some.stands may)
