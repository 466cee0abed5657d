use Rattle.std.proofs.Common.{◌≡◌, true, false, sym, ◌∙◌}
use Rattle.failover_engine.proofs.catching.load_first.Goals as goal

pub returns-in-Ok-clause-loaded : goal.returns-in-Ok-clause-loaded
returns-in-Ok-clause-loaded g c = λ common place log replica opening.
    rw (c.in-Ok.ensures.taken, c.mark.ensures, c.in_ok-state.ensures) (c.replicas_go_on.ensures.loaded g.S.Servant.machine common c.args.log.now log _ _ opening c.args.replica.now replica.kind)

pub unreachable-requires : goal.unreachable-requires
unreachable-requires g c =
    let machines = g.S.Servant.machine in
    let r = c.requires in
    let valid = c.replicas_go_on.ensures.state machines g.met.S.Servant.stays r.0 c.args.log.now r.2 _ _ r.4 in
    let judged : (machines c.args.replica.now.kind).is_state c.in_ok-state.state ≡ false = rw c.in-Err-InvalidState.field-0-is at c.in-Err-InvalidState.ensures.judged in
    let no : true ≡ false = sym (rw (← c.in_ok-state.ensures) at valid) ∙ rw r.3.kind at judged in
    cc
