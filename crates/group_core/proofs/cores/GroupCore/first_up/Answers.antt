use Rattle.std.proofs.Common.{◌<◌, ℕ}
use Rattle.std.specs.Prelude.{slice_index_or}
use Rattle.ft_base.specs.declared.limits.TheConstants.{HOST_LIMIT}
use Rattle.group_core.proofs.WhoTakes.{all_at, first_behind, first_is, up_told, within}
use Rattle.group_core.proofs.cores.GroupCore.first_up.Goals as goal

pub down-requires : goal.down-requires
down-requires g c =
    let stands = c.requires.stands in
    within g.S.Servant.machine c.args.self.now stands.0 stands.1 (slice_index_or c.args.hosts.now c.loop-host.host-index 0)
    (all_at (λ (host : ℕ). host < HOST_LIMIT) c.args.hosts.now c.loop-host.host-index 0 c.requires.hosts c.loop-host-test.true)

pub returns-then-not-down : goal.returns-then-not-down
returns-then-not-down g c = λ group stands.
    let hosts = c.args.hosts.now in
    let i = c.loop-host.host-index in
    let inside = all_at (λ (host : ℕ). host < HOST_LIMIT) hosts i 0 c.requires.hosts c.loop-host-test.true in
    first_is group.hosts hosts i c.loop-host-test.true
    (up_told g.S.Servant.machine c.args.self.now group stands (slice_index_or hosts i 0) c.down.result _ inside c.down.ensures c.if-not-down.true)
    (c.loop-host.invariant group stands)

pub loop-host-preserved : goal.loop-host-preserved
loop-host-preserved g c = λ group stands.
    let hosts = c.args.hosts.now in
    let i = c.loop-host.host-index in
    let inside = all_at (λ (host : ℕ). host < HOST_LIMIT) hosts i 0 c.requires.hosts c.loop-host-test.true in
    first_behind group.hosts hosts i c.loop-host-test.true
    (up_told g.S.Servant.machine c.args.self.now group stands (slice_index_or hosts i 0) c.down.result _ inside c.down.ensures c.if-not-down.false)
    (c.loop-host.invariant group stands)
