use Rattle.std.proofs.Common.{ap}
use Rattle.ft_base.specs.declared.views.View.{View}
use Rattle.group_hosts.specs.Asking.{parts}
use Rattle.group_hosts.specs.Taking.{informed}
use Rattle.group_hosts.proofs.Takes.{informed_can, ready_of, unready_of}
use Rattle.group_hosts.proofs.hosts.GroupHost.prepare.Goals as goal

pub returns-in-Err-clause-stopped : goal.returns-in-Err-clause-stopped
returns-in-Err-clause-stopped g c = λ common h style here.
    let machines = g.S.Servant.machine in
    let here' = rw (← c.self.view_is) at here in
    let now = parts c.catch_up_here.new.log c.catch_up_here.new.progress.replica c.catch_up_here.new.progress.holdback c.catch_up_here.new.steps in
    let can = informed_can machines common h _ _ here' c.args.steps.now in
    let newest = ap (λ (v : View). v.version) c.newest.ensures.value in
    unready_of machines common h _ _ here' c.logs_tell.ensures.tell c.newest.result.now.version c.args.steps.now now newest (c.in-Err.ensures.stopped common (informed common h) can)

pub returns-clause-ready : goal.returns-clause-ready
returns-clause-ready g c = λ common h style here.
    let machines = g.S.Servant.machine in
    let here' = rw (← c.self.view_is) at here in
    let now = parts c.catch_up_here.new.log c.catch_up_here.new.progress.replica c.catch_up_here.new.progress.holdback c.catch_up_here.new.steps in
    let can = informed_can machines common h _ _ here' c.args.steps.now in
    let newest = ap (λ (v : View). v.version) c.newest.ensures.value in (
      ready_of machines common h _ _ here' c.logs_tell.ensures.tell c.newest.result.now.version now newest (c.in_default.ensures.caught_up common (informed common h) can),
      c.in_default.ensures.counted common (informed common h) can,
    )
