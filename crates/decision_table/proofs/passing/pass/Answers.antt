use Rattle.group_model.specs.Views.{view_at}
use Rattle.decision_table.proofs.Gates.{may_be_served, takes_memory}
use Rattle.decision_table.proofs.passing.pass.Goals as goal

pub view_of-view-requires : goal.view_of-view-requires
view_of-view-requires g c =
    let stands = c.requires.stands in (
      view_at stands.0.views c.args.known.0,
      c.views_are_shown.ensures.shown g.S.Servant.machine stands.0 c.args.log.now stands.1.log c.args.known.0 stands.1.has,
    )

pub returns-clause-served : goal.returns-clause-served
returns-clause-served g c = λ common is.
    let rows = rw (c.newest.ensures.value, c.asked_version-wanted.ensures) at c.refused_by_view.ensures in
    rw c.told.ensures
    (may_be_served c.views_are_shown.ensures.shown c.logs_tell.ensures.tell g.S.Servant.machine common c.args.log.now c.args.style
    (g.S.Servant.kind c.args.servant.now) c.args.known.0 c.args.host.0 is c.view_of-view.result.now c.view_of-view.ensures c.args.asked
    c.refused_by_view.result rows c.request_named.result c.in_default.is c.request_named.ensures.fits c.request_named.ensures.short)

pub returns-clause-unread : goal.returns-clause-unread
returns-clause-unread g c = λ common is.
    let rows = rw (c.newest.ensures.value, c.asked_version-wanted.ensures) at c.refused_by_view.ensures in
    rw c.told.ensures
    (takes_memory c.views_are_shown.ensures.shown c.logs_tell.ensures.tell g.S.Servant.machine common c.args.log.now c.args.style
    (g.S.Servant.kind c.args.servant.now) c.args.known.0 c.args.host.0 is c.view_of-view.result.now c.view_of-view.ensures c.args.asked
    c.refused_by_view.result rows c.request_named.result c.in_default.is c.request_named.ensures.unread)
