use Rattle.std.proofs.Common.{◌≡◌, [], None, refl, sym, subst, ap, ◌∙◌}
use Rattle.script_clients.specs.Clients.{Client, taking}
use Rattle.script_world.specs.Worlds.{CanStart}
use Rattle.world_turns.specs.Answers.{Does}
use Rattle.ft_world.specs.Clients.{key_of}
use Rattle.world_turns.specs.Turns.{Effect}
use Rattle.ft_world.proofs.CallLemmas.{begun_is, client_there, client_within, made, started_is}
use Rattle.script_groups.specs.Lists.{same_some, some_at}
use Rattle.ft_world.proofs.calls.start.Goals as goal

pub start_at-requires-clause-within : goal.start_at-requires-clause-within
start_at-requires-clause-within c =
    let at = some_at c.args.world.now.clients c.args.client c.requires.client in
    let there = some_at c.args.world.now.groups c.args.group c.requires.group in
    client_within c.args.world.now c.reference_for.new.world c.args.client (taking at.0 there.0.id).client
    (c.in_ok-reference.ensures at.0 there.0 at.1 there.1).1 c.requires.client

pub start_at-requires-clause-idle : goal.start_at-requires-clause-idle
start_at-requires-clause-idle c = λ d is.
    let at = some_at c.args.world.now.clients c.args.client c.requires.client in
    let there = some_at c.args.world.now.groups c.args.group c.requires.group in
    let left = (taking at.0 there.0.id).client in
    let stands = client_there c.args.world.now c.reference_for.new.world c.args.client at.0 left
    (c.in_ok-reference.ensures at.0 there.0 at.1 there.1).1 at.1 in
    subst (λ (x : Client). (x.call ≡ None) × CanStart x) (same_some left d (sym stands ∙ is)) (c.requires.idle at.0 at.1)

pub returns : goal.returns
returns c = λ d g calls at there.
    let w = c.args.world.now in
    let left = (taking d g.id).client in
    let took = c.in_ok-reference.ensures d g at there in
    let stands = client_there w c.reference_for.new.world c.args.client d left took.1 at in
    let first : c.client_at.result.now ≡ d = same_some c.client_at.result.now d (sym c.client_at.ensures ∙ at) in
    let second : c.client_at-2.result.now ≡ d = same_some c.client_at-2.result.now d (sym c.client_at-2.ensures ∙ at) in
    let begins = begun_is w d g c.args.op c.args.said (taking d g.id).reference c.in_ok-reference.reference c.expiration_of-expiration.result
    c.is_none.result c.in_ok-key.key took.0 c.expiration_of-expiration.ensures c.is_none.ensures
    (c.in_ok-key.ensures ∙ ap (λ (x : Client). key_of w x c.args.said) first) in
    subst (λ (e : Effect). Does e c.does.result c.does.new.world calls calls)
    (started_is w c.reference_for.new.world c.start_at.new.self c.args.client d g c.args.op c.args.said (made c.args.op c.args.said c.in_ok-reference.reference c.expiration_of-expiration.result c.is_none.result c.in_ok-key.key)
    c.in_ok-told.told c.in_ok-name.name []
    took.1 begins (c.in_ok-told.ensures left stands)
    (c.in_ok-name.ensures ∙ c.name.ensures ∙ ap (λ (x : Client). x.name) second) refl)
    (c.does.ensures calls)
