use Rattle.std.proofs.Common.{◌≡◌, ◌+◌, ◌<◌, true, List, ◌∷◌, ap, subst, sym, ◌∙◌, arith}
use Rattle.std.specs.List.{AllByRecursion}
use Rattle.std.specs.Vec.Iter.{into_iter_items}
use Rattle.reply_table.specs.declared.entries.Retained.{Retained}
use Rattle.message_log.specs.Opening.{filed, with_retained}
use Rattle.log_records.specs.Records.{are_rising, AreOfVersions}
use Rattle.message_log.specs.Retaining.{AreRetained}
use Rattle.message_log.proofs.TableLaws.{retained_further, retained_filed, versions_filed}
use Rattle.message_log.proofs.ContentLaws.{rises, below_retained}
use Rattle.message_log.proofs.PictureLaws.{below}
use Rattle.message_log.proofs.opening.table_of.Goals as goal

pub add-requires : goal.add-requires
add-requires c =
    let e = c.in-Some.entry in
    let table = c.loop-entry.table.entries in
    let rest = into_iter_items c.next.new.self in
    let from = c.loop-entry.invariant.1.0 in
    let r = rises from c.args.end e rest (subst (λ (es : List Retained). are_rising from c.args.end es ≡ true) c.in-Some.ensures.items c.loop-entry.invariant.1.1) in
    below from e.position table r.low c.loop-entry.invariant.1.2

pub loop-entry-preserved : goal.loop-entry-preserved
loop-entry-preserved c =
    let e = c.in-Some.entry in
    let table = c.loop-entry.table.entries in
    let rest = into_iter_items c.next.new.self in
    let items : into_iter_items c.loop-entry.rest ≡ e ∷ rest = c.in-Some.ensures.items in
    let added : c.add.new.table.entries ≡ with_retained table e = c.in_ok-add.ensures in
    let from = c.loop-entry.invariant.1.0 in
    let r = rises from c.args.end e rest (subst (λ (es : List Retained). are_rising from c.args.end es ≡ true) items c.loop-entry.invariant.1.1) in
    let its : AreOfVersions (e ∷ rest) = subst (λ (es : List Retained). AreOfVersions es) items c.loop-entry.invariant.1.7 in (
      ap (λ (t : List Retained). filed t rest) added ∙ ap (λ (es : List Retained). filed table es) (sym items) ∙ c.loop-entry.invariant.0,
      (
        e.position + 1,
        r.others,
        subst (λ (t : List Retained). AllByRecursion (λ (d : Retained). d.position < e.position + 1) t) (sym added)
            (below_retained (e.position + 1) table e (below from (e.position + 1) table (omega (arith, r.low)) c.loop-entry.invariant.1.2) (omega arith)),
        subst (λ (t : List Retained). AllByRecursion (λ (d : Retained). d.position < c.args.end) t) (sym added)
            (below_retained c.args.end table e c.loop-entry.invariant.1.3 r.high),
        subst (λ (t : List Retained). AreOfVersions t) (sym added) (versions_filed table e c.loop-entry.invariant.1.4 its.0),
        subst (λ (t : List Retained). AreRetained (e.position + 1) t) (sym added) (retained_filed from table e r.low c.loop-entry.invariant.1.5),
        omega (arith, r.high),
        its.1,
      ),
    )

pub returns-clause-retained : goal.returns-clause-retained
returns-clause-retained c =
    retained_further c.loop-entry.invariant.1.0 c.args.end c.loop-entry.table.entries c.loop-entry.invariant.1.6 c.loop-entry.invariant.1.5
