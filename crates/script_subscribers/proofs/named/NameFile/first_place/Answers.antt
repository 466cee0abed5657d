use Rattle.std.proofs.Common.{◌≡◌, length, subst}
use Rattle.std.specs.Prelude.{IfSome, ◌<◌}
use Rattle.name_places.specs.Places.{first_place}
use Rattle.script_subscribers.specs.Filing.{Filed, names_of}
use Rattle.script_subscribers.proofs.Placing.{all_within}
use Rattle.script_subscribers.proofs.named.NameFile.first_place.Goals as goal

pub returns : goal.returns
returns c =
    let items = c.self.inside.items.items in
    let is = c.place.ensures (names_of items) c.self.invariant.0 in
    record {
      place = subst (λ (f : Filed). c.place.result ≡ first_place c.args.name.now (names_of f.all)) c.self.view_is is;
      within = subst (λ (f : Filed). IfSome c.place.result (λ place. place < length f.all)) c.self.view_is (all_within c.args.name.now items c.place.result is);
    }
