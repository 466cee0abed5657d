use Rattle.std.proofs.Common.{rules, refl, false, ◌+◌, ◌≤◌}
use Rattle.std.specs.Prelude.{OnErr, OnOk}
use Rattle.world_turns.specs.Answers.{HasDone}
use Rattle.ft_world.specs.Links.{link_of}
use Rattle.ft_world.specs.Passes.{IsLinkServed, pass_at}
use Rattle.ft_world.proofs.PortLemmas.{passed}
use Rattle.ft_world.proofs.links.serve_over.Goals as goal

pub returns-clause-done : goal.returns-clause-done
returns-clause-done g c =
    let p = c.new-pass.result in
    let q = c.serve.new.pass in
    passed (λ w k v n ls. OnOk c.serve.result (HasDone (link_of w c.args.host.0 c.args.bytes) ls v k n)) c.args.world.now p.world.now _ q.world.now c.args.steps.now p.steps.now _ q.steps.now
    _ q.printed.now.lines c.new-pass.ensures.world c.new-pass.ensures.steps (search rules) (search rules) (search rules) c.serve.ensures.done

pub returns-clause-served : goal.returns-clause-served
returns-clause-served g c =
    let p = c.new-pass.result in
    let q = c.serve.new.pass in
    passed (λ w k v n ls. OnOk c.serve.result (IsLinkServed c.args.host.0 c.args.bytes (pass_at w k false) (pass_at v n false) ls)) c.args.world.now p.world.now _ q.world.now
    c.args.steps.now p.steps.now _ q.steps.now _ q.printed.now.lines c.new-pass.ensures.world c.new-pass.ensures.steps (search rules) (search rules) (search rules) c.serve.ensures.served

pub returns-clause-short : goal.returns-clause-short
returns-clause-short g c =
    let p = c.new-pass.result in
    let q = c.serve.new.pass in
    passed (λ w k v n ls. OnErr c.serve.result (n ≤ k + (link_of w c.args.host.0 c.args.bytes).calls)) c.args.world.now p.world.now q.world.now q.world.now
    c.args.steps.now p.steps.now _ q.steps.now q.printed.now.lines q.printed.now.lines c.new-pass.ensures.world c.new-pass.ensures.steps refl (search rules) refl c.serve.ensures.short
