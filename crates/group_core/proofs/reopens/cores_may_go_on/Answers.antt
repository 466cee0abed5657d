use Rattle.group_core.proofs.Resumes.{may_go_on, entries, views, checkpoints}
use Rattle.group_core.proofs.reopens.cores_may_go_on.Goals as goal

pub returns-clause-written : goal.returns-clause-written
returns-clause-written c = may_go_on c.reopened_groups_are_sound.ensures c.logs_are_reopened.ensures c.logs_tell.ensures.tell

pub returns-clause-entry : goal.returns-clause-entry
returns-clause-entry c =
    entries c.reopened_groups_are_sound.ensures c.logs_are_reopened.ensures c.logs_tell.ensures.tell
    c.writes_are_on_record.ensures.entry c.logs_go_on.ensures.joined c.logs_go_on.ensures.beside

pub returns-clause-view : goal.returns-clause-view
returns-clause-view c =
    views c.reopened_groups_are_sound.ensures c.logs_are_reopened.ensures c.logs_tell.ensures.tell
    c.writes_are_on_record.ensures.view c.views_join.ensures.log c.logs_go_on.ensures.beside

pub returns-clause-checkpoint : goal.returns-clause-checkpoint
returns-clause-checkpoint c =
    checkpoints c.reopened_groups_are_sound.ensures c.logs_are_reopened.ensures c.logs_tell.ensures.tell
    c.writes_are_on_record.ensures.checkpoint c.logs_go_on.ensures.checkpointed c.logs_go_on.ensures.beside
