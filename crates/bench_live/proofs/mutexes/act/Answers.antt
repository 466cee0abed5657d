use Rattle.bench_live.proofs.Going.{goes_on}
use Rattle.bench_live.proofs.mutexes.act.Goals as goal

pub act-requires : goal.act-requires
act-requires g c =
    let some = c.requires.stands in
    (some.group, some.stands, c.requires.may some.group some.stands)

pub returns : goal.returns
returns g c =
    let some = c.requires.stands in
    goes_on g.S.Servant.machine some.group c.args.event c.act.result _ _ _ (c.act.ensures.acted some.group some.stands (c.requires.may some.group some.stands))
