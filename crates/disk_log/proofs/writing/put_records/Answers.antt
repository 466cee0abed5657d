use Rattle.std.proofs.Common.{rules, [], map, take, refl, sym, ◌∙◌, arith}
use Rattle.disk_log.specs.Image.{Add}
use Rattle.disk_log.specs.Standing.{front_of}
use Rattle.disk_log.proofs.Whole.{laid_first, laid_more, short_at}
use Rattle.disk_log.proofs.writing.put_records.Goals as goal

pub loop-index-init : goal.loop-index-init
loop-index-init g c = record {
  same = refl;
  laid = laid_first (g.D.Disk.gives c.put.new.disk) (c.in-Done.ensures.written [] refl (λ r given. (r, refl)));
  room = c.in-Done.ensures.room;
  fits = omega arith;
  faults = c.in-Done.ensures.faults;
}

pub put_record-requires-clause-short : goal.put_record-requires-clause-short
put_record-requires-clause-short g c = short_at c.args.records.now.items c.loop-index.index c.content_of-content.result.now c.requires c.content_of-content.ensures

pub loop-index-preserved : goal.loop-index-preserved
loop-index-preserved g c =
    let records = c.args.records.now.items in
    let i = c.loop-index.index in
    let content = c.content_of-content.result.now in
    let laid = c.loop-index.invariant.laid in
    record {
      same = refl;
      laid = laid_more (g.D.Disk.gives c.loop-index.disk) (g.D.Disk.gives c.put_record.new.disk) records i content c.loop-index.end c.content_of-content.ensures laid
          (c.in-Done-put_record.ensures.written (front_of (map Add (take i records))) (sym laid.0) laid.1);
      room = search rules;
      fits = search rules;
      faults = c.in-Done-put_record.ensures.faults ∙ c.loop-index.invariant.faults;
    }
