use Rattle.live_clients.proofs.Counts.{all_rise}
use Rattle.live_clients.proofs.laws.faults_are_counted.Goals as goal

pub returns : goal.returns
returns g c = all_rise g.D.Dialer.links g.D.Dialer.targets g.D.Dialer.sent g.D.Dialer.count
