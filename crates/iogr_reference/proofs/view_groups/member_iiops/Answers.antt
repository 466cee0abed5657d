use Rattle.std.proofs.Common.{◌∙◌, ◌++◌, ◌∷◌, [], List, ap, sym, map, take}
use Rattle.std.proofs.lemmas.List.{map_more}
use Rattle.iogr_reference.specs.declared.references.Iiop.{Iiop}
use Rattle.iogr_reference.specs.Views.{iiop_of_host}
use Rattle.iogr_reference.proofs.view_groups.member_iiops.Goals as goal

pub loop-host-preserved : goal.loop-host-preserved
loop-host-preserved c =
    let f = iiop_of_host c.args.group c.args.view.now c.args.ports.now in
    let hosts = c.hosts-host-items.result.now in
    let i = c.loop-host.host-index in
    c.in_ok-push.ensures.items
    ∙ ap (λ (l : List Iiop). l ++ c.in_ok-iiop.iiop ∷ []) c.loop-host.invariant
    ∙ ap (λ (p : Iiop). map f (take i hosts) ++ p ∷ []) c.in_ok-iiop.ensures
    ∙ sym (map_more f hosts i 0 c.loop-host-test.true)
