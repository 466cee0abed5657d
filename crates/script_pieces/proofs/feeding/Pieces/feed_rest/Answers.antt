use Rattle.std.proofs.Common.{◌+◌, length, ◌∙◌, ap}
use Rattle.script_pieces.specs.Feeds.{Place}
use Rattle.script_pieces.proofs.Feedings.{rest_fed_past, rest_fed}
use Rattle.script_pieces.proofs.feeding.Pieces.feed_rest.Goals as goal

pub returns-then-is_past-clause-fed : goal.returns-then-is_past-clause-fed
returns-then-is_past-clause-fed g c = λ before.
    rest_fed_past g.A.Actor.rules c.args.acts.now c.args.self.now c.args.self.now c.args.text.now before
    c.number.result c.past.result c.requires (cc) c.is_past.ensures.within c.number.ensures c.past.ensures

pub returns-clause-fed : goal.returns-clause-fed
returns-clause-fed g c = λ before.
    rest_fed g.A.Actor.rules c.args.acts.now c.args.self.now c.advance.new.self c.args.text.now before
    g.met.A.Actor.alike c.requires (cc) c.keep.ensures.fits
    (c.advance.ensures ∙ ap (λ (p : Place). let q : Place = record { number = p.number; read = p.read + length c.args.text.now; begun = p.begun } in q) c.keep.ensures.kept)
