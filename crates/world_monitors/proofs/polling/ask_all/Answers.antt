use Rattle.std.proofs.Common.{arith, take, sym, ap, ◌∙◌}
use Rattle.std.specs.Prelude.{slice_index_or}
use Rattle.world_monitors.proofs.PollingLemmas.{all_done, asked_more, asked_to, none_asked, none_printed, printed_more, printed_to, take_all, take_next}
use Rattle.world_monitors.proofs.polling.ask_all.Goals as goal

pub loop-host-init : goal.loop-host-init
loop-host-init c = record {
  world = none_asked c.args.group c.args.name.now c.args.world.now;
  report = c.new-report.ensures ∙ none_printed c.args.group c.args.name.now c.args.world.now;
}

pub loop-host-preserved : goal.loop-host-preserved
loop-host-preserved c =
    let w = c.args.world.now in
    let hosts = c.args.hosts.now in
    let i = c.loop-host.host-index in
    let next = sym (take_next hosts i c.loop-host-test.true) in
    record {
      world =
          asked_more c.args.group c.args.name.now w c.loop-host.world c.ask.new.world (take i hosts) (slice_index_or hosts i 0) c.loop-host.invariant.world c.in_ok-ask.ensures.world
          ∙ ap (asked_to c.args.group c.args.name.now w) next;
      report =
          printed_more c.args.group c.args.name.now w c.loop-host.world c.ask.new.world (take i hosts) (slice_index_or hosts i 0) c.loop-host.invariant.world
          c.loop-host.report c.ask.new.report c.loop-host.invariant.report c.in_ok-ask.ensures.report
          ∙ ap (printed_to c.args.group c.args.name.now w) next;
    }

pub returns : goal.returns
returns c = λ calls.
    let hosts = c.args.hosts.now in
    let done = take c.loop-host.host-index hosts in
    all_done c.args.group c.args.name.now c.args.world.now c.loop-host.world hosts done c.loop-host.report calls
    (take_all hosts c.loop-host.host-index (omega (arith, c.loop-host-test.false))) c.loop-host.invariant.world c.loop-host.invariant.report
