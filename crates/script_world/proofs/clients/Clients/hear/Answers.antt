use Rattle.std.proofs.Common.{length, refl, sym, subst, ◌<◌, List}
use Rattle.std.proofs.lemmas.Option.{slice_get_read}
use Rattle.std.specs.Prelude.{slice_set}
use Rattle.script_clients.specs.Clients.{Client, hearing}
use Rattle.script_world.specs.Names.{names_of}
use Rattle.script_world.proofs.NameLemmas.{names_stay, places_stay}
use Rattle.script_world.proofs.ClientLemmas.{heard_keeps, turned_at}
use Rattle.script_world.proofs.clients.Clients.hear.Goals as goal

pub invariant_of-self : goal.invariant_of-self
invariant_of-self c =
    let items = c.self.inside.items.items in
    let client = c.index_mut-client.result.now in
    let inside = subst (λ (cs : List Client). c.args.place < length cs) (sym c.self.view_is) c.requires in
    let there = slice_get_read items (length items) c.args.place client refl inside c.index_mut-client.ensures.value in
    places_stay c.self.inside.places (names_of items) (names_of (slice_set items c.args.place c.hear.new.self)) c.self.invariant
    (names_stay (λ (x : Client). x.name) items c.args.place client c.hear.new.self there
    (heard_keeps client c.hear.new.self c.args.id c.args.heard c.args.now c.hear.ensures.client))

pub returns : goal.returns
returns c =
    let items = c.self.inside.items.items in
    let client = c.index_mut-client.result.now in
    let inside = subst (λ (cs : List Client). c.args.place < length cs) (sym c.self.view_is) c.requires in
    let there = slice_get_read items (length items) c.args.place client refl inside c.index_mut-client.ensures.value in
    turned_at items c.args.self.now c.self.view_is c.args.place client c.hear.new.self there
    (λ x. hearing x c.args.id c.args.heard c.args.now) c.hear.result c.hear.ensures.told c.hear.ensures.client
