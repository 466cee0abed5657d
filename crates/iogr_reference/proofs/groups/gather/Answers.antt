use Rattle.std.proofs.Common.{◌≡◌, ◌∙◌, arith, sym, true, false, drop, []}
use Rattle.std.specs.Prelude.{◌==◌}
use Rattle.std.proofs.lemmas.List.{drop_all}
use Rattle.std.proofs.lemmas.Result.{err_from_is_err_and}
use Rattle.std.proofs.lemmas.Bool.Decides.{nat_tests}
use Rattle.cdr_codec.specs.Calls.{field_fault}
use Rattle.iogr_reference.specs.declared.tags.TheConstants.{IIOP_TAG}
use Rattle.iogr_reference.specs.Groups.{iiops_of}
use Rattle.iogr_reference.proofs.GroupLemmas.{passes, joins, stops_for, stops_inside_for, ended}
use Rattle.iogr_reference.proofs.groups.gather.Goals as goal

pub loop-one-preserved-then-one-ne-IIOP_TAG : goal.loop-one-preserved-then-one-ne-IIOP_TAG
loop-one-preserved-then-one-ne-IIOP_TAG c =
    let other : (c.one-item.result.tag == IIOP_TAG) ≡ false = grind (arith, nat_tests) in
    record {
      read = rw (← passes c.args.profiles.now c.loop-one.one-index c.one-item.result c.loop-one-test.true c.one-item.is other) c.loop-one.invariant.read;
      beside = c.loop-one.invariant.beside;
    }

pub returns-in_err-iiop-clause-read : goal.returns-in_err-iiop-clause-read
returns-in_err-iiop-clause-read c =
    let same : (c.one-item.result.tag == IIOP_TAG) ≡ true = grind (arith, nat_tests) in
    let p = err_from_is_err_and c.from_residual.result c.from_residual.ensures.1 in
    rw (p.1, p.2)
    (stops_for c.loop-one.iiops.items c.loop-one.marks.items c.args.profiles.now c.loop-one.one-index c.one-item.result (field_fault c.in_err-iiop.field-0.0)
    (iiops_of c.args.profiles.now) c.loop-one-test.true c.one-item.is same (rw c.bytes.ensures at c.in_err-iiop.ensures.read) c.loop-one.invariant.read)

pub returns-in_err-mark-clause-read : goal.returns-in_err-mark-clause-read
returns-in_err-mark-clause-read c =
    let same : (c.one-item.result.tag == IIOP_TAG) ≡ true = grind (arith, nat_tests) in
    let p = err_from_is_err_and c.from_residual-in_err-mark.result c.from_residual-in_err-mark.ensures.1 in
    rw (p.1, p.2)
    (stops_inside_for c.loop-one.iiops.items c.loop-one.marks.items c.args.profiles.now c.loop-one.one-index c.one-item.result c.in_ok-iiop.iiop (field_fault c.in_err-mark.field-0.0)
    (iiops_of c.args.profiles.now) c.loop-one-test.true c.one-item.is same (rw c.bytes.ensures at c.in_ok-iiop.ensures.read) (rw c.as_slice.ensures at c.in_err-mark.ensures) c.loop-one.invariant.read)

pub loop-one-preserved : goal.loop-one-preserved
loop-one-preserved c =
    let same : (c.one-item.result.tag == IIOP_TAG) ≡ true = grind (arith, nat_tests) in
    record {
      read = rw (c.in_ok-push.ensures.items, c.in_ok-push-2.ensures.items)
          (rw (← joins c.loop-one.iiops.items c.loop-one.marks.items c.args.profiles.now c.loop-one.one-index c.one-item.result c.in_ok-iiop.iiop c.in_ok-mark.mark
          c.loop-one-test.true c.one-item.is same (rw c.bytes.ensures at c.in_ok-iiop.ensures.read) (rw c.as_slice.ensures at c.in_ok-mark.ensures)) c.loop-one.invariant.read);
      beside = omega (arith, c.in_ok-push.ensures.len, c.in_ok-push-2.ensures.len);
    }

pub returns-clause-read : goal.returns-clause-read
returns-clause-read c =
    let none : drop c.loop-one.one-index c.args.profiles.now ≡ [] = drop_all c.loop-one.one-index c.args.profiles.now c.loop-one-test.false in
    sym c.loop-one.invariant.read ∙ ended c.loop-one.iiops.items c.loop-one.marks.items c.args.profiles.now c.loop-one.one-index none
