use Rattle.giop_stream.proofs.TurnLaws.{fragment_turned}
use Rattle.giop_stream.proofs.begun.Partials.fragment.Goals as goal

pub returns-in-Some : goal.returns-in-Some
returns-in-Some c =
    fragment_turned c.grow.result c.args.self.now c.args.head c.args.part.now c.rest_of.result.now c.order.result c.more.result c.in_ok-id.id
    c.in-Some.at c.grow.new.self
    c.order.ensures c.in_ok-id.ensures.value c.in-Some.ensures.value c.in-Some.ensures.within c.more.ensures c.rest_of.ensures c.grow.ensures
