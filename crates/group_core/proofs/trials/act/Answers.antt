use Rattle.group_core.proofs.Trying.{goes_on}
use Rattle.group_core.proofs.trials.act.Goals as goal

pub act-answer-requires : goal.act-answer-requires
act-answer-requires g c =
    let some = c.requires.some in
    (some.group, some.stands, c.requires.may some.group some.stands)

pub returns : goal.returns
returns g c =
    let some = c.requires.some in
    let agrees = c.requires.may some.group some.stands in
    let acted = c.act-answer.ensures.acted some.group some.stands agrees in
    goes_on g.S.Servant.machine some.group c.act-answer.new.self c.args.event c.act-answer.result _ _ acted c.in_ok-out.ensures
