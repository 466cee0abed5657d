use Rattle.servant_rows.proofs.moves.called.Goals as goal

-- by the one request
pub returns-clause-reached : goal.returns-clause-reached
returns-clause-reached g c =
    c.requests_lead_on.ensures.one (g.S.Servant.machine (g.S.Servant.kind c.args.servant.now)) (g.S.Servant.state c.args.servant.now)
    (g.S.Servant.state c.invoke.new.self) c.args.request.now c.in_ok-_outcome._outcome c.requires c.in_ok-_outcome.ensures.ran
