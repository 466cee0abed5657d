use Rattle.std.proofs.Common.{ℕ, List, [], Ok, refl, subst, ◌∙◌}
use Rattle.giop_stream.specs.declared.sessions.SessionStep.{SessionStep}
use Rattle.giop_stream.specs.Sessions.{IsShorter, Serves}
use Rattle.link_session.specs.Loops.{begins, ends, ends_waiting, goes_on}
use Rattle.link_session.specs.Serving.{Meets}
use Rattle.ft_world.specs.Passes.{Exchanges, octets, pass_at}
use Rattle.ft_world.proofs.LinkLemmas.{on_begins, on_breaks, on_ends, on_goes, on_stops, on_waits}
use Rattle.ft_world.proofs.PortLemmas.{turns_served}
use Rattle.ft_world.proofs.links.session.Goals as goal

pub messages-init : goal.messages-init
messages-init g c =
    let p = c.args.pass.now in
    let serves = subst (λ (bs : List ℕ). Serves c.over-session.result bs []) c.in-Ok.ensures c.over-session.ensures in
    record {
      same_world = refl;
      same_steps = refl;
      same_printed = refl;
      on = on_begins p.world.now c.args.host.0 c.args.bytes c.over-session.result p.printed.now.lines p.steps.now c.requires.fresh serves;
      turns = begins (Meets Exchanges c.args.host.0) (pass_at p.world.now p.steps.now p.short, octets p.printed.now.lines) c.args.bytes c.over-session.result serves;
      ready = c.requires.ready;
    }

pub messages-smaller : goal.messages-smaller
messages-smaller g c =
    subst (λ (o : SessionStep). IsShorter (Ok o) c.messages.session c.next.new.self) c.in-Ok-Serve.field-0-is c.in-Ok-Serve.ensures.shorter

pub messages-preserved : goal.messages-preserved
messages-preserved g c =
    let p = c.args.pass.now in
    let q = c.messages.pass in
    let r = c.take.new.pass in
    record {
      same_world = c.take.ensures.same_world ∙ c.messages.invariant.same_world;
      same_steps = c.take.ensures.same_steps ∙ c.messages.invariant.same_steps;
      same_printed = c.take.ensures.same_printed ∙ c.messages.invariant.same_printed;
      on = on_goes p.world.now c.args.host.0 c.args.bytes c.messages.session c.next.new.self q.world.now r.world.now q.printed.now.lines r.printed.now.lines
          p.steps.now q.steps.now r.steps.now c.in-Ok-Serve.field-0 c.in-Ok-Serve.received c.messages.invariant.on c.in-Ok-Serve.field-0-is
          (c.in-Ok-Serve.ensures.next c.args.bytes) c.in-Ok-take.ensures.did;
      turns = goes_on (Meets Exchanges c.args.host.0) (pass_at p.world.now p.steps.now p.short, octets p.printed.now.lines) c.args.bytes c.messages.session c.next.new.self
          (pass_at q.world.now q.steps.now q.short, octets q.printed.now.lines) (pass_at r.world.now r.steps.now r.short, octets r.printed.now.lines)
          c.in-Ok-Serve.field-0 c.in-Ok-Serve.received c.messages.invariant.turns c.in-Ok-Serve.field-0-is
          (c.in-Ok-Serve.ensures.next c.args.bytes) c.in-Ok-take.ensures.met;
      ready = c.in-Ok-take.ensures.ready;
    }

pub take-requires-clause-ready : goal.take-requires-clause-ready
take-requires-clause-ready g c = c.messages.invariant.ready

pub returns-in-Err-take-clause-served : goal.returns-in-Err-take-clause-served
returns-in-Err-take-clause-served g c =
    let p = c.args.pass.now in
    let q = c.messages.pass in
    on_breaks p.world.now c.args.host.0 c.args.bytes c.messages.session c.next.new.self q.world.now q.printed.now.lines
    p.steps.now q.steps.now c.take.new.pass.steps.now c.in-Ok-Serve.field-0 c.in-Ok-Serve.received c.messages.invariant.on c.in-Ok-Serve.field-0-is
    (c.in-Ok-Serve.ensures.next c.args.bytes) c.in-Err-take.ensures.did

pub returns-in-Ok-Wait-clause-served : goal.returns-in-Ok-Wait-clause-served
returns-in-Ok-Wait-clause-served g c =
    let p = c.args.pass.now in
    let q = c.messages.pass in
    on_waits p.world.now c.args.host.0 c.args.bytes c.messages.session c.next.new.self q.world.now q.printed.now.lines
    p.steps.now q.steps.now c.in-Ok-Wait.field-0 c.at_end.result c.messages.invariant.on c.in-Ok-Wait.field-0-is
    (c.in-Ok-Wait.ensures.next c.args.bytes) (c.at_end.ensures c.args.bytes)

pub returns-in-Ok-Wait-clause-turns : goal.returns-in-Ok-Wait-clause-turns
returns-in-Ok-Wait-clause-turns g c =
    let p = c.args.pass.now in
    let q = c.messages.pass in
    let start = pass_at p.world.now p.steps.now p.short in
    let now = pass_at q.world.now q.steps.now q.short in
    turns_served c.args.host.0 c.args.bytes start now p.printed.now.lines q.printed.now.lines c.at_end.result c.requires.fresh
    (ends_waiting (Meets Exchanges c.args.host.0) (start, octets p.printed.now.lines) c.args.bytes c.messages.session c.next.new.self (now, octets q.printed.now.lines)
    c.in-Ok-Wait.field-0 c.at_end.result c.messages.invariant.turns c.in-Ok-Wait.field-0-is
    (c.in-Ok-Wait.ensures.next c.args.bytes) (c.at_end.ensures c.args.bytes))

pub returns-in-Ok-End-clause-served : goal.returns-in-Ok-End-clause-served
returns-in-Ok-End-clause-served g c =
    let p = c.args.pass.now in
    let q = c.messages.pass in
    on_ends p.world.now c.args.host.0 c.args.bytes c.messages.session c.next.new.self q.world.now q.printed.now.lines
    p.steps.now q.steps.now c.in-Ok-End.field-0 c.in-Ok-End.end c.messages.invariant.on c.in-Ok-End.field-0-is
    (c.in-Ok-End.ensures.next c.args.bytes)

pub returns-in-Ok-End-clause-turns : goal.returns-in-Ok-End-clause-turns
returns-in-Ok-End-clause-turns g c =
    let p = c.args.pass.now in
    let q = c.messages.pass in
    let start = pass_at p.world.now p.steps.now p.short in
    let now = pass_at q.world.now q.steps.now q.short in
    turns_served c.args.host.0 c.args.bytes start now p.printed.now.lines q.printed.now.lines c.in-Ok-End.end c.requires.fresh
    (ends (Meets Exchanges c.args.host.0) (start, octets p.printed.now.lines) c.args.bytes c.messages.session c.next.new.self (now, octets q.printed.now.lines)
    c.in-Ok-End.field-0 c.in-Ok-End.end c.messages.invariant.turns c.in-Ok-End.field-0-is
    (c.in-Ok-End.ensures.next c.args.bytes))

pub returns-in-Err-next-clause-served : goal.returns-in-Err-next-clause-served
returns-in-Err-next-clause-served g c =
    let p = c.args.pass.now in
    let q = c.messages.pass in
    on_stops p.world.now c.args.host.0 c.args.bytes c.messages.session q.world.now q.printed.now.lines p.steps.now q.steps.now c.messages.invariant.on
