use Rattle.group_hosts.proofs.Manages.{differ, are_hosts, changed_so, not_written, not_full, refused_quiet}
use Rattle.group_hosts.proofs.managing.manage.Goals as goal

pub changed-requires : goal.changed-requires
changed-requires g c = let r = c.requires in rw c.newest.ensures.value (differ r.0 r.1 c.args.style c.args.change c.args.log.now r.2 c.logs_tell.ensures.tell)

pub new_view-requires-clause-logged : goal.new_view-requires-clause-logged
new_view-requires-clause-logged g c =
    let r = c.requires in
    c.in-Ok.ensures.logged (rw c.newest.ensures.value (are_hosts r.0 r.1 c.args.style c.args.change c.args.log.now r.2 c.logs_tell.ensures.tell)) r.2.hosts

pub returns-in-Err-clause-wrote : goal.returns-in-Err-clause-wrote
returns-in-Err-clause-wrote g c = refused_quiet c.args.log.now c.args.style c.newest.result.now c.args.change c.in-Err.fault c.in-Err.ensures.refused

pub returns-in-Ok-new_view-clause-managed : goal.returns-in-Ok-new_view-clause-managed
returns-in-Ok-new_view-clause-managed g c = λ machines common h can.
    changed_so machines common c.args.style c.args.change c.args.log.now can c.logs_tell.ensures.tell c.views_join.ensures.log c.logs_go_on.ensures.beside h c.in-Ok.view c.copy-told.result c.in-Ok-view_sent.out
    c.new_view.new.self (rw c.newest.ensures.value at c.in-Ok.ensures.may) (rw c.newest.ensures.value at c.in-Ok.ensures.next) c.copy-told.ensures (rw c.newest-2.ensures.value at c.in-Ok-view_sent.ensures) c.in-Ok-new_view.ensures

pub returns-in-Err-Failed-clause-managed : goal.returns-in-Err-Failed-clause-managed
returns-in-Err-Failed-clause-managed g c = λ machines common h can.
    not_written machines common c.args.style c.args.change c.args.log.now can c.logs_tell.ensures.tell c.logs_go_on.ensures.beside h c.in-Ok.view
    c.new_view.new.self (rw c.newest.ensures.value at c.in-Ok.ensures.may) (rw c.in-Err-Failed.field-0-is at c.in-Err-Failed.ensures)

pub unreachable-requires : goal.unreachable-requires
unreachable-requires g c =
    let full = rw c.in-Err-ViewsFull.field-0-is at c.in-Err-ViewsFull.ensures in
    not_full c.args.style c.args.log.now.newest c.args.change (rw c.newest.ensures.value at c.in-Ok.ensures.may) full.0
