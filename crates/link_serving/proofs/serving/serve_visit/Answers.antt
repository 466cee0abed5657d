use Rattle.std.proofs.Common.{refl, ◌++◌, ◌∙◌}
use Rattle.link_serving.specs.declared.ends.Ended.TheVariants as ends
use Rattle.link_serving.specs.Wires.{wire}
use Rattle.link_serving.proofs.Amid.{came_in_vain, ends_waiting, read_fails}
use Rattle.link_serving.proofs.Going.{goes_round, sets_out, visited, visited_in_vain}
use Rattle.link_serving.proofs.serving.serve_visit.Goals as goal

pub loop-init : goal.loop-init
loop-init g c = record {
  fits = c.requires.fits;
  on = sets_out (g.G.GroupPort.exchanges c.args.port.now) c.args.host.0 c.args.pass.now
      (wire (g.K.Source.left c.args.link.now) (g.K.Sink.holds c.args.link.now) (g.K.Link.faults c.args.link.now))
      c.new-session.result c.new-front.result c.new-session.ensures c.new-front.ensures;
  closed = refl;
}

pub returns-in-Some-serve_fed-clause-visited : goal.returns-in-Some-serve_fed-clause-visited
returns-in-Some-serve_fed-clause-visited g c =
    let on = c.loop.invariant.on in
    visited (g.G.GroupPort.exchanges c.args.port.now) c.args.host.0 c.args.pass.now
    (wire (g.K.Source.left c.args.link.now) (g.K.Sink.holds c.args.link.now) (g.K.Link.faults c.args.link.now))
    on.fed c.serve_fed.new.pass
    (wire (g.K.Source.left c.serve_fed.new.link) (g.K.Sink.holds c.serve_fed.new.link) (g.K.Link.faults c.serve_fed.new.link))
    c.loop.front c.in-Some-serve_fed.ended c.visit_of.result on.is_front
    (c.in-Some-serve_fed.ensures.served on.fed c.args.pass.now
    (wire (g.K.Source.left c.args.link.now) (g.K.Sink.holds c.args.link.now) (g.K.Link.faults c.args.link.now))
    on.amid)
    c.visit_of.ensures.ended c.visit_of.ensures.farewell

pub loop-preserved : goal.loop-preserved
loop-preserved g c =
    let on = c.loop.invariant.on in
    let waiting = c.in-None-serve_fed.ensures.served on.fed c.args.pass.now
    (wire (g.K.Source.left c.args.link.now) (g.K.Sink.holds c.args.link.now) (g.K.Link.faults c.args.link.now))
    on.amid in
    record {
      fits = c.serve_fed.ensures.fits;
      on = goes_round (g.G.GroupPort.exchanges c.args.port.now) c.args.host.0 c.args.pass.now
          (wire (g.K.Source.left c.args.link.now) (g.K.Sink.holds c.args.link.now) (g.K.Link.faults c.args.link.now))
          on.fed c.serve_fed.new.pass
          (wire (g.K.Source.left c.serve_fed.new.link) (g.K.Sink.holds c.serve_fed.new.link) (g.K.Link.faults c.serve_fed.new.link))
          (wire (g.K.Source.left c.receive.new.link) (g.K.Sink.holds c.receive.new.link) (g.K.Link.faults c.receive.new.link))
          c.serve_fed.new.session c.receive.new.session c.loop.front c.receive.new.front on.is_front waiting c.in-Some-receive.ensures.came;
      closed = c.receive.ensures.closed ∙ c.serve_fed.ensures.closed ∙ c.loop.invariant.closed;
    }

pub returns-in-End-clause-visited : goal.returns-in-End-clause-visited
returns-in-End-clause-visited g c =
    let on = c.loop.invariant.on in
    let waiting = c.in-None-serve_fed.ensures.served on.fed c.args.pass.now
    (wire (g.K.Source.left c.args.link.now) (g.K.Sink.holds c.args.link.now) (g.K.Link.faults c.args.link.now))
    on.amid in
    visited (g.G.GroupPort.exchanges c.args.port.now) c.args.host.0 c.args.pass.now
    (wire (g.K.Source.left c.args.link.now) (g.K.Sink.holds c.args.link.now) (g.K.Link.faults c.args.link.now))
    on.fed c.serve_fed.new.pass
    (wire (g.K.Source.left c.end_link.new.link) (g.K.Sink.holds c.end_link.new.link) (g.K.Link.faults c.end_link.new.link))
    c.receive.new.front c.end_link.result c.visit_of-in-End.result (c.in-End.ensures.came.1 ∙ on.is_front)
    (ends_waiting (g.G.GroupPort.exchanges c.args.port.now) c.args.host.0 on.fed c.args.pass.now
    (wire (g.K.Source.left c.args.link.now) (g.K.Sink.holds c.args.link.now) (g.K.Link.faults c.args.link.now))
    c.serve_fed.new.pass
    (wire (g.K.Source.left c.serve_fed.new.link) (g.K.Sink.holds c.serve_fed.new.link) (g.K.Link.faults c.serve_fed.new.link))
    c.serve_fed.new.session waiting c.receive.new.session c.loop.front c.receive.new.front
    (wire (g.K.Source.left c.receive.new.link) (g.K.Sink.holds c.receive.new.link) (g.K.Link.faults c.receive.new.link))
    (wire (g.K.Source.left c.end_link.new.link) (g.K.Sink.holds c.end_link.new.link) (g.K.Link.faults c.end_link.new.link))
    c.at_end.result c.end_link.result c.in-End.ensures.came c.at_end.ensures c.end_link.ensures.ended)
    c.visit_of-in-End.ensures.ended c.visit_of-in-End.ensures.farewell

pub returns-in-Failed-clause-visited : goal.returns-in-Failed-clause-visited
returns-in-Failed-clause-visited g c =
    let on = c.loop.invariant.on in
    let waiting = c.in-None-serve_fed.ensures.served on.fed c.args.pass.now
    (wire (g.K.Source.left c.args.link.now) (g.K.Sink.holds c.args.link.now) (g.K.Link.faults c.args.link.now))
    on.amid in
    visited_in_vain (g.G.GroupPort.exchanges c.args.port.now) c.args.host.0 c.args.pass.now
    (wire (g.K.Source.left c.args.link.now) (g.K.Sink.holds c.args.link.now) (g.K.Link.faults c.args.link.now))
    on.fed c.serve_fed.new.pass
    (wire (g.K.Source.left c.receive.new.link) (g.K.Sink.holds c.receive.new.link) (g.K.Link.faults c.receive.new.link))
    ends.ReadFault c.visit_of-in-Failed.result refl
    (read_fails (g.G.GroupPort.exchanges c.args.port.now) c.args.host.0 on.fed c.args.pass.now
    (wire (g.K.Source.left c.args.link.now) (g.K.Sink.holds c.args.link.now) (g.K.Link.faults c.args.link.now))
    c.serve_fed.new.pass
    (wire (g.K.Source.left c.serve_fed.new.link) (g.K.Sink.holds c.serve_fed.new.link) (g.K.Link.faults c.serve_fed.new.link))
    c.serve_fed.new.session waiting c.receive.new.session c.loop.front c.receive.new.front
    (wire (g.K.Source.left c.receive.new.link) (g.K.Sink.holds c.receive.new.link) (g.K.Link.faults c.receive.new.link))
    c.in-Failed.ensures.came)
    c.visit_of-in-Failed.ensures.ended c.visit_of-in-Failed.ensures.farewell

pub returns-in-NoMemory-clause-visited : goal.returns-in-NoMemory-clause-visited
returns-in-NoMemory-clause-visited g c =
    let on = c.loop.invariant.on in
    let waiting = c.in-None-serve_fed.ensures.served on.fed c.args.pass.now
    (wire (g.K.Source.left c.args.link.now) (g.K.Sink.holds c.args.link.now) (g.K.Link.faults c.args.link.now))
    on.amid in
    visited_in_vain (g.G.GroupPort.exchanges c.args.port.now) c.args.host.0 c.args.pass.now
    (wire (g.K.Source.left c.args.link.now) (g.K.Sink.holds c.args.link.now) (g.K.Link.faults c.args.link.now))
    (on.fed ++ c.in-NoMemory.ensures.came.0) c.serve_fed.new.pass
    (wire (g.K.Source.left c.receive.new.link) (g.K.Sink.holds c.receive.new.link) (g.K.Link.faults c.receive.new.link))
    ends.NoMemory c.visit_of-in-NoMemory.result refl
    (came_in_vain (g.G.GroupPort.exchanges c.args.port.now) c.args.host.0 on.fed c.args.pass.now
    (wire (g.K.Source.left c.args.link.now) (g.K.Sink.holds c.args.link.now) (g.K.Link.faults c.args.link.now))
    c.serve_fed.new.pass
    (wire (g.K.Source.left c.serve_fed.new.link) (g.K.Sink.holds c.serve_fed.new.link) (g.K.Link.faults c.serve_fed.new.link))
    c.serve_fed.new.session waiting c.receive.new.session c.loop.front c.receive.new.front
    (wire (g.K.Source.left c.receive.new.link) (g.K.Sink.holds c.receive.new.link) (g.K.Link.faults c.receive.new.link))
    c.in-NoMemory.ensures.came)
    c.visit_of-in-NoMemory.ensures.ended c.visit_of-in-NoMemory.ensures.farewell
