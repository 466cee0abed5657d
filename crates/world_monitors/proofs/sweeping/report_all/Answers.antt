use Rattle.std.proofs.Common.{ℕ, ◌+◌, List, arith, drop, subst}
use Rattle.std.specs.Prelude.{slice_index_or}
use Rattle.script_groups.specs.Groups.{placed}
use Rattle.world_monitors.proofs.SweepingLemmas.{IsSwept, begins, drop_next, ends, ends_short, goes_on}
use Rattle.script_groups.specs.Lists.{some_at}
use Rattle.std.proofs.lemmas.List.{drop_all}
use Rattle.std.proofs.lemmas.Option.{slice_get_within}
use Rattle.world_monitors.proofs.sweeping.report_all.Goals as goal

pub loop-host-init : goal.loop-host-init
loop-host-init g c = record {
  kept = c.requires.kept;
  swept = λ s there.
      subst (λ (report : _). IsSwept c.args.world.now (placed c.args.place s) c.args.hosts.now c.args.hosts.now c.args.world.now report c.args.steps.now c.args.steps.now)
      (Rattle.std.proofs.Common.sym c.new-report.ensures) (begins c.args.world.now (placed c.args.place s) c.args.hosts.now c.args.steps.now there);
}

pub push_report-requires-clause-within : goal.push_report-requires-clause-within
push_report-requires-clause-within g c =
    let at = some_at c.args.world.now.groups c.args.place c.requires.within in
    let s = c.loop-host.invariant.swept at.0 at.1 in
    slice_get_within c.loop-host.world.groups c.args.place s.group s.there

pub returns-in-Err : goal.returns-in-Err
returns-in-Err g c = λ s there.
    let w = c.args.world.now in
    let hosts = c.args.hosts.now in
    let i = c.loop-host.host-index in
    let p = placed c.args.place s in
    let left = subst (λ (rest : List ℕ). IsSwept w p hosts rest c.loop-host.world c.loop-host.report c.args.steps.now c.loop-host.steps) (drop_next hosts i c.loop-host-test.true) (c.loop-host.invariant.swept s there) in
    ends_short w p hosts (drop (i + 1) hosts) (slice_index_or hosts i 0) c.loop-host.world c.loop-host.report c.args.steps.now c.loop-host.steps left c.push_report.new.steps
    (c.in-Err.ensures.did left.group left.there)

pub loop-host-preserved : goal.loop-host-preserved
loop-host-preserved g c = record {
  kept = c.in-Ok.ensures.kept;
  swept = λ s there.
      let w = c.args.world.now in
      let hosts = c.args.hosts.now in
      let i = c.loop-host.host-index in
      let p = placed c.args.place s in
      let left = subst (λ (rest : List ℕ). IsSwept w p hosts rest c.loop-host.world c.loop-host.report c.args.steps.now c.loop-host.steps) (drop_next hosts i c.loop-host-test.true) (c.loop-host.invariant.swept s there) in
      goes_on w p hosts (drop (i + 1) hosts) (slice_index_or hosts i 0) c.loop-host.world c.loop-host.report c.args.steps.now c.loop-host.steps left
      c.push_report.new.world c.push_report.new.report c.push_report.new.steps (c.in-Ok.ensures.did left.group left.there);
}

pub returns : goal.returns
returns g c = λ s there.
    let hosts = c.args.hosts.now in
    let p = placed c.args.place s in
    ends c.args.world.now p hosts c.loop-host.world c.loop-host.report c.args.steps.now c.loop-host.steps
    (subst (λ (rest : List ℕ). IsSwept c.args.world.now p hosts rest c.loop-host.world c.loop-host.report c.args.steps.now c.loop-host.steps)
    (drop_all c.loop-host.host-index hosts (omega (arith, c.loop-host-test.false))) (c.loop-host.invariant.swept s there))
