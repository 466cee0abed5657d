use Rattle.std.proofs.Common.{◌≡◌, sym, ◌∙◌, arith, Some, None}
use Rattle.message_log.specs.Picture.{request_at}
use Rattle.failover_engine.proofs.catching.run_next.Goals as goal

pub returns-clause-ran : goal.returns-clause-ran
returns-clause-ran g c = λ common place log replica loaded behind inside.
    let lent : request_at c.args.log.now c.args.replica.now.position ≡ Some c.in-Some.request.now = sym (rw c.position-position.ensures at c.in-Some.ensures) in
    let ran = c.entries_run.ensures g.S.Servant.machine common place c.args.log.now c.args.replica.now log replica loaded c.in-Some.request.now c.in_ok-outcome.outcome lent c.in_ok-outcome.ensures.outcome in
    (rw (c.set_reply.ensures, c.position-position.ensures) ran.log, rw c.in_ok-outcome.ensures.ran ran.replica)

pub unreachable-requires : goal.unreachable-requires
unreachable-requires g c =
    let r = c.requires in
    let had = c.logs_tell.ensures.have g.S.Servant.machine r.0 c.args.log.now r.2 r.1.position r.5 r.6 in
    let none : None ≡ request_at c.args.log.now c.position-position.result = rw c.in_default.is at c.entry.ensures in
    let some : request_at c.args.log.now c.position-position.result ≡ Some had.0 = rw (c.position-position.ensures, r.3.position) had.1 in
    let no : None ≡ Some had.0 = none ∙ some in
    cc

pub apply-requires-clause-fits : goal.apply-requires-clause-fits
apply-requires-clause-fits g c =
    let r = c.requires in
    let at : request_at c.args.log.now c.position-position.result ≡ Some c.in-Some.request.now = sym c.in-Some.ensures in
    let lent = c.logs_tell.ensures.lend g.S.Servant.machine r.0 c.args.log.now r.2 _ _ at in
    rw r.3.kind lent.fits

pub apply-requires-clause-room : goal.apply-requires-clause-room
apply-requires-clause-room g c = let r = c.requires in omega (arith, r.3.position, r.6, r.2.sound.journal.few)
