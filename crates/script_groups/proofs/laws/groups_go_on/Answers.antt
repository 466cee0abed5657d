use Rattle.script_groups.proofs.Going.{go_on, last, sent, stay_sound}
use Rattle.script_groups.proofs.laws.groups_go_on.Goals as goal

pub returns-clause-is : goal.returns-clause-is
returns-clause-is c = go_on

pub returns-clause-sound : goal.returns-clause-sound
returns-clause-sound c = stay_sound c.groups_stay_sound.ensures

pub returns-clause-last : goal.returns-clause-last
returns-clause-last c = last c.agreement_lasts.ensures

pub returns-clause-sent : goal.returns-clause-sent
returns-clause-sent c = sent c.what_is_sent_agrees.ensures
