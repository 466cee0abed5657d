use Rattle.std.proofs.Common.{◌∙◌, ◌++◌, List, [], ◌∷◌, map, sym, subst}
use Rattle.std.proofs.lemmas.List.{map-append}
use Rattle.client_calls.specs.declared.answers.Told.{Told}
use Rattle.live_clients.specs.Clients.{AreTold, Task, task_of}
use Rattle.live_clients.proofs.Orders.{at_hand, one_told}
use Rattle.live_clients.proofs.runs.join_clients.Goals as goal

pub loop-client-preserved-then-push_told : goal.loop-client-preserved-then-push_told
loop-client-preserved-then-push_told g c =
    let done = c.loop-client.yielded in
    let client = c.in-Some.client in
    let so_far = c.loop-client.invariant in
    let tolds = c.loop-client.tolds.items in
    let began = g.N.Network.broken c.args.net.now in
    let mid = g.N.Network.broken c.loop-client.net in
    let now = g.N.Network.broken c.join_client.new.net in
    let told = c.in-Ok.ensures.told in
    let pushed = c.push_told.ensures c.if-push_told.true in
    let all : List (Task g.row.D.Denot) → List Told → Type 0 =
    λ ts us. AreTold g.D.Dialer.links g.D.Dialer.targets g.D.Dialer.sent g.D.Dialer.count ts us began now in (
      at_hand done c.loop-client.client-iterator.rest.items c.next.new.self.rest.items c.args.running.items client c.in-Some.ensures.steps.0 so_far.0,
      (λ whole. subst (λ us. all (map task_of (done ++ client ∷ [])) us) (sym pushed)
          (subst (λ ts. all ts (tolds ++ c.in-Ok.told ∷ [])) (sym (map-append task_of done (client ∷ [])))
          (one_told g.D.Dialer.links g.D.Dialer.targets g.D.Dialer.sent g.D.Dialer.count (map task_of done) tolds (task_of client) c.in-Ok.told began mid now told.0 (so_far.1 whole) told.1 told.2))),
      c.in-Ok.ensures.count ∙ so_far.2,
      c.in-Ok.ensures.callers ∙ so_far.3,
    )
