use Rattle.std.proofs.Common.{ap, ◌∙◌}
use Rattle.client_retry.specs.Counters.{Counted, counting}
use Rattle.client_retry.proofs.CountingLaws.{replies}
use Rattle.client_retry.proofs.clients.ClientCore.reply.Goals as goal

pub returns-clause-stands : goal.returns-clause-stands
returns-clause-stands c = λ client stands.
    c.count.ensures.core
    ∙ ap (λ m. (counting c.args.self.now m).core) c.read-meaning.ensures
    ∙ ap (λ (t : Counted). t.core) (replies c.args.id c.args.heard c.args.now client c.args.self.now stands)
