use Rattle.std.proofs.Common.{◌≡◌, ◌∙◌, ℕ, [], false, ap, map, subst, sym}
use Rattle.std.specs.Arc.{arc_value}
use Rattle.hist_lock.specs.Passes.{IsOf, own_turns}
use Rattle.shared_group.specs.Turns.{GroupPass, SharedValue}
use Rattle.live_clients.specs.Clients.{task_of}
use Rattle.iogr_reference.specs.Views.{group_of_view}
use Rattle.live_group.specs.declared.opening.TheConstants.{GROUP}
use Rattle.live_monitor.specs.Monitored.{Errand, IsMonitored}
use Rattle.live_run.proofs.Leaving.{has_watched, nothing_yet, reference_is, told_tasks}
use Rattle.live_run.proofs.serving.serve.Goals as goal

pub watch-requires-clause-so_far : goal.watch-requires-clause-so_far
watch-requires-clause-so_far g c =
    let main : GroupPass = c.start_hosts-hosts.new.main in
    let errand : Errand = record { kill = c.kill_of.result; killed = false } in
    let none : own_turns main ≡ [] = ap own_turns c.start_hosts-hosts.ensures.main.same ∙ ap own_turns c.requires.ready.group.first in
    subst (λ (e : Errand). IsMonitored e (own_turns main)) (sym c.new-monitor.ensures) (subst (IsMonitored errand) (sym none) (nothing_yet c.kill_of.result))

pub returns-clause-monitor : goal.returns-clause-monitor
returns-clause-monitor g c =
    let number : GroupPass → ℕ = λ p. p.number in
    let own = subst (λ (v : SharedValue). IsOf v.lock c.join_hosts.new.main) c.deref-3.ensures c.join_hosts.ensures.own in
    let zero = c.watch.ensures.number ∙ ap number c.start_hosts-hosts.ensures.main.same ∙ ap number c.requires.ready.group.first in
    let kill = c.watch.ensures.kill ∙ ap (λ (e : Errand). e.kill) c.new-monitor.ensures ∙ c.kill_of.ensures in
    has_watched c.args.setup.live (arc_value c.args.setup.opened.group) c.watch.new.monitor c.watch.new.main c.join_hosts.new.main own c.join_hosts.ensures.main zero kill c.watch.ensures.so_far

pub returns-clause-clients : goal.returns-clause-clients
returns-clause-clients g c =
    let setup = c.args.setup in
    let named = c.type_id.ensures ∙ ap (λ (v : SharedValue). v.type_id) c.deref.ensures ∙ c.requires.ready.group.name in
    let reference = group_of_view GROUP c.type_id.result.now setup.opened.view setup.station.ports in
    told_tasks g.D.Dialer.links g.D.Dialer.targets g.D.Dialer.sent g.D.Dialer.count setup.live setup.station.ports reference setup.station.callers.items c.start_behind_hosts-clients.result.fault
    (map task_of c.start_behind_hosts-clients.result.running.items) c.join_clients-tolds.result c.tolds_without.result (g.N.Network.broken c.args.net.now) (g.N.Network.broken c.join_clients-tolds.new.net)
    c.tolds_without.ensures.ok c.join_clients-tolds.ensures.told c.start_behind_hosts-clients.ensures.all
    (reference_is setup.live c.type_id.result.now setup.opened.view setup.station.ports named c.requires.ready.view)
