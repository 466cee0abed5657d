use Rattle.host_ports.proofs.PortLaws.{ports_count, port_at}
use Rattle.host_ports.proofs.laws.every_host_has_a_port.Goals as goal

pub returns-clause-count : goal.returns-clause-count
returns-clause-count c = ports_count

pub returns-clause-port : goal.returns-clause-port
returns-clause-port c = port_at
