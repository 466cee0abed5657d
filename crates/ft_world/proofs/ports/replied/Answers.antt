use Rattle.script_groups.specs.Lists.{some_at}
use Rattle.ft_world.proofs.ports.replied.Goals as goal

pub port_answer-answer-requires-clause-form : goal.port_answer-answer-requires-clause-form
port_answer-answer-requires-clause-form c =
    let at = some_at c.args.world.now.groups c.args.place c.requires.within in (c.requires.can at.0 at.1).answer

pub port_answer-answer-requires-clause-redirect : goal.port_answer-answer-requires-clause-redirect
port_answer-answer-requires-clause-redirect c =
    let at = some_at c.args.world.now.groups c.args.place c.requires.within in (c.requires.can at.0 at.1).redirect

pub send_all_at-requires-clause-ways : goal.send_all_at-requires-clause-ways
send_all_at-requires-clause-ways c = λ g at. (c.requires.can g at).sent
