use Rattle.std.proofs.Common.{◌≡◌, length, arith, ap, ◌∙◌, subst}
use Rattle.message_log.specs.Picture.{Picture as LogPicture}
use Rattle.group_model.specs.Plain.{with_ran}
use Rattle.failover_engine.specs.Catching.{IsAt}
use Rattle.failover_engine.proofs.Running.{at_next}
use Rattle.failover_engine.proofs.catching.run_rest.Goals as goal

pub run_next-requires : goal.run_next-requires
run_next-requires g c =
    let r = c.requires in
    let here = c.loop-at.invariant.at r.0 r.1 r.2 r.3 r.4 r.5 in
    let end : c.length-end.result ≡ length r.0.journal = c.length-end.ensures.value ∙ (c.logs_tell.ensures.tell g.S.Servant.machine r.0 c.args.log.now r.2).end in (
      with_ran c.loop-at.at r.0,
      record r.1 { position = c.loop-at.at },
      here.log_stands,
      here.replica_stands,
      r.4,
      omega (arith, here.first, r.5),
      omega (arith, end, c.loop-at-test.true),
    )

pub loop-at-preserved : goal.loop-at-preserved
loop-at-preserved g c = record {
  at = λ common place log replica loaded behind.
      let machines = g.S.Servant.machine in
      let here = c.loop-at.invariant.at common place log replica loaded behind in
      let end : c.length-end.result ≡ length common.journal = c.length-end.ensures.value ∙ (c.logs_tell.ensures.tell machines common c.args.log.now log).end in
      let next = c.in_default.ensures.ran _ _ here.log_stands here.replica_stands loaded (omega (arith, here.first)) (omega arith) in
      at_next machines common place _ _ _ _ c.loop-at.at here (omega arith) next;
  calls = omega (arith, c.in_default.ensures.counted, c.loop-at.invariant.calls, c.loop-at.auto.at);
  rest = c.in_default.ensures.rest ∙ ap (λ (p : LogPicture). record p { table = c.run_next.new.log.table }) c.loop-at.invariant.rest;
}

pub returns-clause-ran : goal.returns-clause-ran
returns-clause-ran g c = λ common place log replica loaded behind.
    let machines = g.S.Servant.machine in
    let here = c.loop-at.invariant.at common place log replica loaded behind in
    let end : c.length-end.result ≡ length common.journal = c.length-end.ensures.value ∙ (c.logs_tell.ensures.tell machines common c.args.log.now log).end in
    let first : c.position-first.result ≡ place.position = c.position-first.ensures ∙ replica.position in
    let at : c.loop-at.at ≡ length common.journal = omega (arith, log.sound.numbers.ran, replica.ran, c.loop-at.auto.at-end) in
    subst (λ n. IsAt machines common place c.loop-at.log c.loop-at.replica n) at here
