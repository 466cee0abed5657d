use Rattle.std.proofs.Common.{sym, subst}
use Rattle.std.proofs.lemmas.Result.{IfOk-weaker}
use Rattle.iogr_reference.specs.declared.references.GroupRef.{GroupRef}
use Rattle.client_calls.specs.Requests.{HasHosts}
use Rattle.live_clients.proofs.Names.{view_hosts}
use Rattle.live_clients.proofs.settings.client_reference.Goals as goal

pub returns-clause-hosts : goal.returns-clause-hosts
returns-clause-hosts c =
    let s = c.args.setting.now in
    IfOk-weaker c.view_reference.result _ _ (λ (reference : GroupRef) is. subst HasHosts (sym is) (view_hosts s.group s.type_id.now s.view.now s.ports.now)) c.view_reference.ensures
