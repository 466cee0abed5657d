use Rattle.std.proofs.Common.{◌++◌, arith, length-append}
use Rattle.disk_log.specs.Standing.{Begins}
use Rattle.disk_log.specs.Disk.{Each}
use Rattle.disk_log.proofs.Moments.{leaves, joins, on_done}
use Rattle.disk_log.proofs.writing.write_rest.Goals as goal

pub returns-in-Failed-put-clause-keeps : goal.returns-in-Failed-put-clause-keeps
returns-in-Failed-put-clause-keeps g c = λ front e before.
    let P = Begins front in
    let first = c.put.ensures.keeps front (omega (arith, e)) before in
    let second = c.put-2.ensures.keeps front (omega (arith, e)) first.0 in
    (second.0, joins g.D.Disk.moment g.D.Disk.since c.args.disk.now c.put.new.disk c.put-2.new.disk P first.1 second.1)

pub returns-in-Failed-put-2-clause-keeps : goal.returns-in-Failed-put-2-clause-keeps
returns-in-Failed-put-2-clause-keeps g c = λ front e before.
    let P = Begins front in
    let first = c.put.ensures.keeps front (omega (arith, e)) before in
    let second = c.put-2.ensures.keeps front (omega (arith, e)) first.0 in
    let third = c.put-3.ensures.keeps front (omega (arith, e)) second.0 in (
      third.0,
      joins g.D.Disk.moment g.D.Disk.since c.args.disk.now c.put.new.disk c.put-3.new.disk P first.1
          (joins g.D.Disk.moment g.D.Disk.since c.put.new.disk c.put-2.new.disk c.put-3.new.disk P second.1 third.1),
    )

pub returns-clause-keeps : goal.returns-clause-keeps
returns-clause-keeps g c = λ front e before.
    let P = Begins front in
    let first = c.put.ensures.keeps front (omega (arith, e)) before in
    let second = c.put-2.ensures.keeps front (omega (arith, e)) first.0 in
    let third = c.put-3.ensures.keeps front (omega (arith, e)) second.0 in
    let after : Each (g.D.Disk.images c.sync.new.self) P = λ d now. third.0 d (c.sync.ensures.images d now) in (
      after,
      joins g.D.Disk.moment g.D.Disk.since c.args.disk.now c.put.new.disk c.sync.new.self P first.1
          (joins g.D.Disk.moment g.D.Disk.since c.put.new.disk c.put-2.new.disk c.sync.new.self P second.1
          (joins g.D.Disk.moment g.D.Disk.since c.put-2.new.disk c.put-3.new.disk c.sync.new.self P third.1
          (leaves g.D.Disk.moment g.D.Disk.since c.put-3.new.disk c.sync.new.self P (g.D.Disk.images c.put-3.new.disk) (g.D.Disk.images c.sync.new.self) (λ d since. g.met.D.Disk.only_now c.put-3.new.disk d since) c.sync.ensures.time third.0 after))),
    )

pub returns-clause-written : goal.returns-clause-written
returns-clause-written g c =
    on_done c.sync.result _ _ (λ durable front e before d now.
    let head = c.args.head.now in
    let content = c.args.content.now in
    let first = c.in-Done.ensures.written front e before in
    let second = c.in-Done-put.ensures.written (front ++ head) (omega (arith, e, length-append front head)) first in
    let third = c.in-Done-put-2.ensures.written (front ++ head ++ content) (omega (arith, e, length-append front head, length-append (front ++ head) content)) second in
    third d (c.sync.ensures.gives d (durable d now))) c.sync.ensures.durable
