use Rattle.std.proofs.Common.{◌∙◌, ◌++◌, ◌∷◌, [], List, ℕ, ap, sym, arith}
use Rattle.std.proofs.lemmas.List.FromFn.{map-range_with_len_more}
use Rattle.iogr_reference.specs.Choices.{port_of}
use Rattle.host_ports.proofs.ports.ports_in_order.Goals as goal

pub loop-host-preserved : goal.loop-host-preserved
loop-host-preserved c =
    let i = c.loop-host.host in
    c.in_ok-push.ensures.items ∙ ap (λ (l : List ℕ). l ++ port_of i ∷ []) c.loop-host.invariant ∙ sym (map-range_with_len_more port_of 0 i i (omega arith))
