use Rattle.shared_port.proofs.Moving.{group_link_served}
use Rattle.shared_port.proofs.serving.serve_group.Goals as goal

pub returns-clause-served : goal.returns-clause-served
returns-clause-served g c = group_link_served c.args.host.0 g.S.Servant.machine c.new-port.result c.args.group.now c.new-port.ensures c.serve_visit.ensures.visited
