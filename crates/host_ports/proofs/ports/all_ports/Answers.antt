use Rattle.std.proofs.Common.{ℕ, List, length, slice_index, ap, ◌∙◌}
use Rattle.host_ports.proofs.PortLaws.{ports_count, port_at}
use Rattle.host_ports.proofs.ports.all_ports.Goals as goal

pub returns-clause-count : goal.returns-clause-count
returns-clause-count c = ap length (c.from_vec.ensures ∙ c.in_ok-ports.ensures) ∙ ports_count

pub returns-clause-each : goal.returns-clause-each
returns-clause-each c = λ host below. ap (λ (ports : List ℕ). slice_index ports host) (c.from_vec.ensures ∙ c.in_ok-ports.ensures) ∙ port_at host below
