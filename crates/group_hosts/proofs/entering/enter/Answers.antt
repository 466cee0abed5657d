use Rattle.std.proofs.Common.{length, ap, sym, refl, ◌∙◌}
use Rattle.message_log.specs.Picture.{Picture as LogPicture}
use Rattle.group_model.specs.Plain.{caught_up, with_ran}
use Rattle.group_hosts.specs.Asking.{parts}
use Rattle.group_hosts.proofs.Enters.{can_serve, answered, short_of, unrun_of}
use Rattle.group_hosts.proofs.entering.enter.Goals as goal

pub serve_by-requires : goal.serve_by-requires
serve_by-requires g c =
    let r = c.requires in
    let before = parts c.args.log.now c.args.progress.now.replica c.args.progress.now.holdback c.args.steps.now in
    let middle = parts c.catch_up_here.new.log c.catch_up_here.new.progress.replica c.catch_up_here.new.progress.holdback c.catch_up_here.new.steps in
    let come = c.in_default.ensures.caught_up r.0 r.1 r.2.catch_up in
    let newest = ap (λ (l : LogPicture). l.newest.version.0) c.catch_up_here.ensures.rest in (
      with_ran (length r.0.journal) r.0,
      caught_up r.0 r.1,
      can_serve g.S.Servant.machine r.0 r.1 _ _ _ c.args.request before r.2 c.logs_tell.ensures.tell c.catch_up_here.new.log.newest.version.0 middle newest come,
      r.2.style,
    )

pub returns-in-Done-clause-entered : goal.returns-in-Done-clause-entered
returns-in-Done-clause-entered g c = λ common h can.
    let machines = g.S.Servant.machine in
    let before = parts c.args.log.now c.args.progress.now.replica c.args.progress.now.holdback c.args.steps.now in
    let middle = parts c.catch_up_here.new.log c.catch_up_here.new.progress.replica c.catch_up_here.new.progress.holdback c.catch_up_here.new.steps in
    let now = parts c.serve_by.new.log c.serve_by.new.replica c.catch_up_here.new.progress.holdback c.serve_by.new.steps in
    let come = c.in_default.ensures.caught_up common h can.catch_up in
    let newest = ap (λ (l : LogPicture). l.newest.version.0) c.catch_up_here.ensures.rest in
    let serves = can_serve machines common h _ _ _ c.args.request before can c.logs_tell.ensures.tell c.catch_up_here.new.log.newest.version.0 middle newest come in
    answered machines common h _ _ _ c.args.request before can c.holdbacks_go_on.ensures.furthest c.holdbacks_go_on.ensures.empty c.args.arrival.host.0 c.args.arrival.clock.0 c.args.arrival.stop
    c.in-Done.replied middle now come (c.in_default.ensures.counted common h can.catch_up) refl
    (c.in-Done.ensures.served (with_ran (length common.journal) common) (caught_up common h) serves can.style)

pub returns-then-is_loaded-clause-entered : goal.returns-then-is_loaded-clause-entered
returns-then-is_loaded-clause-entered g c = λ common h can.
    let machines = g.S.Servant.machine in
    let before = parts c.args.log.now c.args.progress.now.replica c.args.progress.now.holdback c.args.steps.now in
    let middle = parts c.catch_up_here.new.log c.catch_up_here.new.progress.replica c.catch_up_here.new.progress.holdback c.catch_up_here.new.steps in
    let now = parts c.serve_by.new.log c.serve_by.new.replica c.catch_up_here.new.progress.holdback c.serve_by.new.steps in
    let come = c.in_default.ensures.caught_up common h can.catch_up in
    let newest = ap (λ (l : LogPicture). l.newest.version.0) c.catch_up_here.ensures.rest in
    let serves = can_serve machines common h _ _ _ c.args.request before can c.logs_tell.ensures.tell c.catch_up_here.new.log.newest.version.0 middle newest come in
    short_of machines common h _ _ _ c.args.request before can c.args.arrival.host.0 c.args.arrival.clock.0 c.args.arrival.stop middle now come (c.in_default.ensures.counted common h can.catch_up) refl
    (sym c.is_loaded.ensures ∙ c.if-is_loaded.true) (c.in-NoMemory.ensures.served (with_ran (length common.journal) common) (caught_up common h) serves can.style)

pub returns-else-is_loaded-clause-entered : goal.returns-else-is_loaded-clause-entered
returns-else-is_loaded-clause-entered g c = λ common h can.
    let machines = g.S.Servant.machine in
    let before = parts c.args.log.now c.args.progress.now.replica c.args.progress.now.holdback c.args.steps.now in
    let middle = parts c.catch_up_here.new.log c.catch_up_here.new.progress.replica c.catch_up_here.new.progress.holdback c.catch_up_here.new.steps in
    let now = parts c.serve_by.new.log c.serve_by.new.replica c.catch_up_here.new.progress.holdback c.serve_by.new.steps in
    let come = c.in_default.ensures.caught_up common h can.catch_up in
    let newest = ap (λ (l : LogPicture). l.newest.version.0) c.catch_up_here.ensures.rest in
    let serves = can_serve machines common h _ _ _ c.args.request before can c.logs_tell.ensures.tell c.catch_up_here.new.log.newest.version.0 middle newest come in
    unrun_of machines common h _ _ _ c.args.request before can c.holdbacks_go_on.ensures.furthest c.holdbacks_go_on.ensures.empty c.args.arrival.host.0 c.args.arrival.clock.0 c.args.arrival.stop middle now come
    (c.in_default.ensures.counted common h can.catch_up) refl (sym c.is_loaded.ensures ∙ c.if-is_loaded.false)
    (c.in-NoMemory.ensures.served (with_ran (length common.journal) common) (caught_up common h) serves can.style)
