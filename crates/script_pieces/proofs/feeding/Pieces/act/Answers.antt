use Rattle.std.proofs.Common.{ap, ◌∙◌}
use Rattle.script_pieces.specs.Feeds.{Place}
use Rattle.script_pieces.proofs.Feedings.{acted_alike}
use Rattle.script_pieces.proofs.feeding.Pieces.act.Goals as goal

pub returns-clause-acted : goal.returns-clause-acted
returns-clause-acted g c =
    acted_alike g.A.Actor.rules c.args.acts.now c.act-2.new.self c.args.self.now.begun c.args.text.now c.begun.result.now c.args.steps.now c.act-2.new.steps c.act-2.result
    g.met.A.Actor.alike (c.begun.ensures ∙ ap (λ (p : Place). p.begun) c.keep.ensures.kept) c.act-2.ensures.acted
