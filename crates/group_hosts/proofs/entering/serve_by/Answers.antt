use Rattle.std.proofs.Common.{◌≡◌, true, sym, subst, ◌∙◌}
use Rattle.ft_base.specs.declared.views.Style.{Style}
use Rattle.ft_base.specs.Views.{is_passive}
use Rattle.passive_dispatch.specs.Served.{seen}
use Rattle.group_hosts.proofs.Sends.{passive_done}
use Rattle.group_hosts.proofs.entering.serve_by.Goals as goal

pub returns-in-Done-clause-served : goal.returns-in-Done-clause-served
returns-in-Done-clause-served g c = λ common h can same.
    let passive : is_passive common.style ≡ true = subst (λ (s : Style). is_passive s ≡ true) same (sym c.is_passive.ensures ∙ c.if-not-is_passive.false) in
    passive_done g.S.Servant.machine common h c.args.arrival.host.0 c.args.arrival.clock.0 c.args.request c.args.arrival.stop c.in-Done.replied
    (seen c.args.log.now c.args.replica.now c.args.steps.now) (seen c.serve-2.new.log c.serve-2.new.replica c.serve-2.new.steps)
    passive (c.in-Done.ensures.served common h (rw c.newest.ensures.value can))

pub returns-in-NoMemory-clause-served : goal.returns-in-NoMemory-clause-served
returns-in-NoMemory-clause-served g c = λ common h can same. c.in-NoMemory.ensures.served common h (rw c.newest.ensures.value can)
