use Rattle.std.proofs.Common.{◌≡◌, None, Ok, Err, subst, sym}
use Rattle.hist_lock.specs.Passes.{own_turns}
use Rattle.shared_group.specs.declared.calls.CallAnswer.TheVariants as told
use Rattle.live_monitor.specs.Monitored.{Errand, IsMonitored, kill_due}
use Rattle.live_monitor.proofs.Looking.{members_are_hosts}
use Rattle.live_monitor.proofs.Turning.{has_looked, kills, looked_before_the_crash, looks_in_vain, looks_on, showed, showed_before_the_crash}
use Rattle.live_monitor.proofs.looks.look.Goals as goal

pub returns-in-Err-clause-so_far : goal.returns-in-Err-clause-so_far
returns-in-Err-clause-so_far g c =
    (looks_in_vain g.S.Servant.machine c.args.group.now.lock c.args.pass.now c.figures.new.pass c.in-Err.field-0 c.in-Err.ensures).keeps c.args.monitor.now c.requires.so_far

pub returns-in-Err-clause-looks : goal.returns-in-Err-clause-looks
returns-in-Err-clause-looks g c =
    has_looked g.S.Servant.machine c.args.group.now.lock c.args.pass.now c.figures.new.pass (told.Figures (Err c.in-Err.field-0)) c.in-Err.ensures

-- there is nobody to be killed now

pub returns-in_default-clause-so_far : goal.returns-in_default-clause-so_far
returns-in_default-clause-so_far g c =
    let found = c.in_default.ensures in
    let is = c.in_default.is in
    let none : kill_due c.args.monitor.now c.in-Ok.figures.entries ≡ None = cc in
    looks_on g.S.Servant.machine c.args.group.now.lock c.args.monitor.now c.args.pass.now c.figures.new.pass c.in-Ok.figures c.requires.so_far c.in-Ok.ensures none

pub returns-in_default-clause-looks : goal.returns-in_default-clause-looks
returns-in_default-clause-looks g c =
    has_looked g.S.Servant.machine c.args.group.now.lock c.args.pass.now c.figures.new.pass (told.Figures (Ok c.in-Ok.figures)) c.in-Ok.ensures

pub returns-in_default-clause-shown : goal.returns-in_default-clause-shown
returns-in_default-clause-shown g c = record {
  showed = showed g.S.Servant.machine c.args.group.now.lock c.args.monitor.now c.args.pass.now c.figures.new.pass c.in-Ok.figures c.requires.so_far c.in-Ok.ensures;
  hosts = members_are_hosts g.S.Servant.machine c.args.group.now.lock c.args.pass.now c.figures.new.pass c.in-Ok.figures c.in-Ok.ensures;
}

-- the host is crashed

pub returns-clause-so_far : goal.returns-clause-so_far
returns-clause-so_far g c =
    subst (λ (errand : Errand). IsMonitored errand (own_turns c.event.new.pass)) (sym c.note_kill.ensures)
    (kills g.S.Servant.machine c.args.group.now.lock c.args.monitor.now c.args.pass.now c.figures.new.pass c.in-Ok.figures c.requires.so_far c.in-Ok.ensures
    c.event.new.pass c.in-Some.host c.event.result c.event.ensures (sym c.in-Some.ensures))

pub returns-clause-looks : goal.returns-clause-looks
returns-clause-looks g c =
    looked_before_the_crash g.S.Servant.machine c.args.group.now.lock c.args.monitor.now c.args.pass.now c.figures.new.pass c.in-Ok.figures c.requires.so_far c.in-Ok.ensures
    c.event.new.pass c.in-Some.host c.event.result c.event.ensures

pub returns-clause-shown : goal.returns-clause-shown
returns-clause-shown g c = record {
  showed = showed_before_the_crash g.S.Servant.machine c.args.group.now.lock c.args.monitor.now c.args.pass.now c.figures.new.pass c.in-Ok.figures c.requires.so_far c.in-Ok.ensures
      c.event.new.pass c.in-Some.host c.event.result c.event.ensures;
  hosts = members_are_hosts g.S.Servant.machine c.args.group.now.lock c.args.pass.now c.figures.new.pass c.in-Ok.figures c.in-Ok.ensures;
}
