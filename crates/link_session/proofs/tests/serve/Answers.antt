use Rattle.std.proofs.Common.{◌≡◌, ℕ, IfOk, List, [], subst, sym}
use Rattle.link_session.specs.Amid.{begins, ends, ends_waiting, goes_on}
use Rattle.link_session.specs.Samples.{lonely}
use Rattle.link_session.proofs.tests.serve.Goals as goal

pub messages-init : goal.messages-init
messages-init c =
    begins lonely [] c.new-written.result c.args.link.now c.feed.new.self c.new-written.ensures (c.in_ok-feed.ensures.ok [] [] c.new-session.ensures)

pub messages-preserved : goal.messages-preserved
messages-preserved c =
    goes_on lonely [] c.args.link.now c.messages.session c.next.new.self c.messages.written c.take.new.written c.in-Ok-Serve.field-0 c.in-Ok-Serve.received
    c.messages.invariant c.in-Ok-Serve.field-0-is (c.in-Ok-Serve.ensures.next c.args.link.now) c.in_ok-take-in-Ok-Serve.ensures

pub returns-in-Ok-End : goal.returns-in-Ok-End
returns-in-Ok-End c =
    let e =
    ends lonely [] c.args.link.now c.messages.session c.next.new.self c.messages.written c.in-Ok-End.field-0 c.in-Ok-End.how c.messages.invariant
    c.in-Ok-End.field-0-is (c.in-Ok-End.ensures.next c.args.link.now) in
    subst (λ (x : List (List ℕ)). IfOk c.end-in-Ok-End.result (λ all. all ≡ x)) (sym e) c.end-in-Ok-End.ensures

pub returns-in-Ok-Wait : goal.returns-in-Ok-Wait
returns-in-Ok-Wait c =
    let e =
    ends_waiting lonely [] c.args.link.now c.messages.session c.next.new.self c.messages.written c.in-Ok-Wait.field-0 c.at_end.result c.messages.invariant
    c.in-Ok-Wait.field-0-is (c.in-Ok-Wait.ensures.next c.args.link.now) (c.at_end.ensures c.args.link.now) in
    subst (λ (x : List (List ℕ)). IfOk c.end.result (λ all. all ≡ x)) (sym e) c.end.ensures
