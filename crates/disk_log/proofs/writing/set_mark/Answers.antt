use Rattle.disk_log.specs.Standing.{Gated}
use Rattle.disk_log.specs.Disk.{Each}
use Rattle.disk_log.proofs.Begin.{torn_mark, written_mark, each_torn}
use Rattle.disk_log.proofs.Moments.{leaves, joins, on_done}
use Rattle.disk_log.proofs.writing.set_mark.Goals as goal

pub returns-in-Failed-clause-keeps : goal.returns-in-Failed-clause-keeps
returns-in-Failed-clause-keeps g c = λ front behind e before.
    let old = c.args.disk.now in
    let after = each_torn (Gated front behind) (g.D.Disk.images old) (g.D.Disk.images c.write_at.new.self) c.args.at 1 c.write_at.ensures.images (λ d f b torn. torn_mark front behind c.args.at d f e b torn) before in
    (after, leaves g.D.Disk.moment g.D.Disk.since old c.write_at.new.self (Gated front behind) (g.D.Disk.images old) (g.D.Disk.images c.write_at.new.self) (λ d since. g.met.D.Disk.only_now old d since) c.write_at.ensures.time before after)

pub returns-clause-keeps : goal.returns-clause-keeps
returns-clause-keeps g c = λ front behind e before.
    let old = c.args.disk.now in
    let mid = c.write_at.new.self in
    let between = each_torn (Gated front behind) (g.D.Disk.images old) (g.D.Disk.images mid) c.args.at 1 c.write_at.ensures.images (λ d f b torn. torn_mark front behind c.args.at d f e b torn) before in
    let after : Each (g.D.Disk.images c.sync.new.self) (Gated front behind) = λ d now. between d (c.sync.ensures.images d now) in (
      after,
      joins g.D.Disk.moment g.D.Disk.since old mid c.sync.new.self (Gated front behind)
          (leaves g.D.Disk.moment g.D.Disk.since old mid (Gated front behind) (g.D.Disk.images old) (g.D.Disk.images mid) (λ d since. g.met.D.Disk.only_now old d since) c.write_at.ensures.time before between)
          (leaves g.D.Disk.moment g.D.Disk.since mid c.sync.new.self (Gated front behind) (g.D.Disk.images mid) (g.D.Disk.images c.sync.new.self) (λ d since. g.met.D.Disk.only_now mid d since) c.sync.ensures.time between after),
    )

pub returns-clause-written : goal.returns-clause-written
returns-clause-written g c =
    on_done c.sync.result _ _ (λ durable front behind e before d now.
    let from = c.in-Done.ensures.written d (c.sync.ensures.gives d (durable d now)) in
    written_mark front behind c.args.at c.args.mark from.0 d e (before from.0 (g.met.D.Disk.gives_now c.args.disk.now from.0 from.1)) from.2) c.sync.ensures.durable
