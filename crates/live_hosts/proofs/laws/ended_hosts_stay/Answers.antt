use Rattle.live_hosts.proofs.Ending.{after_join, after_turn, in_the_whole}
use Rattle.live_hosts.proofs.laws.ended_hosts_stay.Goals as goal

pub returns-clause-turns : goal.returns-clause-turns
returns-clause-turns c = after_turn

pub returns-clause-joins : goal.returns-clause-joins
returns-clause-joins c = after_join

pub returns-clause-whole : goal.returns-clause-whole
returns-clause-whole c = in_the_whole
