use Rattle.std.proofs.Common.{◌≡◌, [], ◌∷◌, ◌++◌, length, None, IfOk, Result, refl, ap, subst, arith, rules, List}
use Rattle.ft_base.specs.declared.memory.NoMemory.{NoMemory}
use Rattle.iogr_reference.specs.declared.references.GroupRef.{GroupRef}
use Rattle.client_retry.specs.Counters.{Picture}
use Rattle.client_talk.specs.Talking.{dialing}
use Rattle.client_calls.specs.declared.answers.ToldCall.{ToldCall}
use Rattle.client_calls.specs.Requests.{HasHosts}
use Rattle.client_calls.proofs.MadeLaws.{all_told, counted_on, none_made, one_made, pushed}
use Rattle.client_calls.proofs.calls.client_calls.Goals as goal

pub loop-done-init : goal.loop-done-init
loop-done-init g c = record {
  on = none_made g.L.Source.left g.L.Sink.holds g.L.Link.faults c.args.name.now c.args.reference (dialing (g.D.Dialer.links c.args.dialer.now) (g.D.Dialer.targets c.args.dialer.now) (g.D.Dialer.sent c.args.dialer.now) (g.D.Dialer.count c.args.dialer.now)) c.new-told.result.items c.new-core.result c.new-told.ensures.items c.new-core.ensures;
  many = ap (λ (l : List ToldCall). length l) c.new-told.ensures.items;
  idle = ap (λ (p : Picture). p.progress) c.new-core.ensures;
  hosts = c.requires;
  lent = tt;
  out = refl;
}

pub call-now-requires-clause-rests : goal.call-now-requires-clause-rests
call-now-requires-clause-rests g c = let on = c.loop-done.invariant.on in (on.last, on.goes_by, on.rests)

pub loop-done-preserved : goal.loop-done-preserved
loop-done-preserved g c =
    let grown : c.push.new.self.items ≡ c.loop-done.told.items ++ c.in-Ok-called.call ∷ [] = search (rules, pushed) in
    record {
      on = one_made g.L.Source.left g.L.Sink.holds g.L.Link.faults c.args.name.now c.args.reference (dialing (g.D.Dialer.links c.args.dialer.now) (g.D.Dialer.targets c.args.dialer.now) (g.D.Dialer.sent c.args.dialer.now) (g.D.Dialer.count c.args.dialer.now)) c.loop-done.told.items c.push.new.self.items c.loop-done.held c.loop-done.core c.loop-done.line
          (dialing (g.D.Dialer.links c.loop-done.dialer) (g.D.Dialer.targets c.loop-done.dialer) (g.D.Dialer.sent c.loop-done.dialer) (g.D.Dialer.count c.loop-done.dialer)) c.loop-done.invariant.on c.loop-done.done c.in-Ok.request c.in-Ok-called.call c.in-Ok-called.next c.call-now.new.core c.call-now.result.0
          (dialing (g.D.Dialer.links c.call-now.new.dialer) (g.D.Dialer.targets c.call-now.new.dialer) (g.D.Dialer.sent c.call-now.new.dialer) (g.D.Dialer.count c.call-now.new.dialer)) c.loop-done.invariant.many c.in-Ok.ensures grown c.call-now.result.1 c.in-Ok-called.is c.call-now.ensures.called;
      many = counted_on c.loop-done.told.items c.push.new.self.items c.in-Ok-called.call c.loop-done.done c.loop-done.invariant.many grown;
      idle = subst (λ (r : Result (ToldCall × GroupRef) NoMemory). IfOk r (λ _. c.call-now.new.core.progress ≡ None)) c.in-Ok-called.is c.call-now.ensures.idle;
      hosts = subst (λ (r : Result (ToldCall × GroupRef) NoMemory). IfOk r (λ told. HasHosts told.1)) c.in-Ok-called.is c.call-now.ensures.hosts;
      lent = c.call-now.ensures.lent;
      out = c.call-now.ensures.out (g.D.Dialer.lent c.args.dialer.now) c.loop-done.invariant.out;
    }

pub returns-clause-told : goal.returns-clause-told
returns-clause-told g c =
    all_told g.L.Source.left g.L.Sink.holds g.L.Link.faults c.args.name.now c.args.reference (dialing (g.D.Dialer.links c.args.dialer.now) (g.D.Dialer.targets c.args.dialer.now) (g.D.Dialer.sent c.args.dialer.now) (g.D.Dialer.count c.args.dialer.now)) c.loop-done.told.items c.loop-done.held c.loop-done.core c.loop-done.line
    (dialing (g.D.Dialer.links c.loop-done.dialer) (g.D.Dialer.targets c.loop-done.dialer) (g.D.Dialer.sent c.loop-done.dialer) (g.D.Dialer.count c.loop-done.dialer)) (dialing (g.D.Dialer.links c.hang_up-2.new.dialer) (g.D.Dialer.targets c.hang_up-2.new.dialer) (g.D.Dialer.sent c.hang_up-2.new.dialer) (g.D.Dialer.count c.hang_up-2.new.dialer)) c.args.calls c.loop-done.invariant.on
    (omega (arith, c.loop-done.invariant.many, c.loop-done.auto.done-end, c.loop-done-test.false)) c.hang_up-2.ensures.back
