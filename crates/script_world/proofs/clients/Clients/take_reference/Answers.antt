use Rattle.std.proofs.Common.{length, refl, sym, subst, ◌<◌, List}
use Rattle.std.proofs.lemmas.Option.{slice_get_read}
use Rattle.std.specs.Prelude.{slice_set}
use Rattle.script_clients.specs.Clients.{Client}
use Rattle.script_world.specs.Names.{names_of}
use Rattle.script_world.proofs.NameLemmas.{names_stay, places_stay}
use Rattle.script_world.proofs.ClientLemmas.{taken_keeps, taken_at}
use Rattle.script_world.proofs.clients.Clients.take_reference.Goals as goal

pub invariant_of-self : goal.invariant_of-self
invariant_of-self c =
    let items = c.self.inside.items.items in
    let client = c.index_mut-client.result.now in
    let inside = subst (λ (cs : List Client). c.args.place < length cs) (sym c.self.view_is) c.requires.within in
    let there = slice_get_read items (length items) c.args.place client refl inside c.index_mut-client.ensures.value in
    places_stay c.self.inside.places (names_of items) (names_of (slice_set items c.args.place c.take_reference.new.self)) c.self.invariant
    (names_stay (λ (x : Client). x.name) items c.args.place client c.take_reference.new.self there
    (taken_keeps c.args.group client c.take_reference.new.self c.take_reference.result c.take_reference.ensures.taken c.take_reference.ensures.kept))

pub returns : goal.returns
returns c =
    let items = c.self.inside.items.items in
    let client = c.index_mut-client.result.now in
    let inside = subst (λ (cs : List Client). c.args.place < length cs) (sym c.self.view_is) c.requires.within in
    let there = slice_get_read items (length items) c.args.place client refl inside c.index_mut-client.ensures.value in
    taken_at items c.args.self.now c.self.view_is c.args.place client c.take_reference.new.self there
    c.args.group c.take_reference.result c.take_reference.ensures.taken
