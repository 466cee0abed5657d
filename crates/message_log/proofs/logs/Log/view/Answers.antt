use Rattle.std.proofs.Common.{◌≡◌, ◌+◌, ◌-◌, ◌<◌, length, sym, ◌∙◌, arith, inl, inr}
use Rattle.std.specs.Prelude.{vec_len}
use Rattle.message_log.proofs.PictureLaws.{at_newest, at_none, at_place}
use Rattle.message_log.proofs.logs.Log.view.Goals as goal

pub returns-then-version-newest-clause-value : goal.returns-then-version-newest-clause-value
returns-then-version-newest-clause-value g c =
    let l = c.self.inside in
    rw (← c.self.view_is) (sym (at_newest l.newest c.args.version.0 l.earlier.items c.self.invariant.0.numbered (omega (arith, c.if-version-newest.true))))

pub returns-then-version-newest-2-clause-value : goal.returns-then-version-newest-2-clause-value
returns-then-version-newest-2-clause-value g c =
    let l = c.self.inside in
    rw (← c.self.view_is) (sym (at_none l.newest c.args.version.0 l.earlier.items c.self.invariant.0.numbered (inl (omega (arith, c.if-version-newest-2.true)))))

pub returns-then-back-count-clause-value : goal.returns-then-back-count-clause-value
returns-then-back-count-clause-value g c =
    let l = c.self.inside in
    let len : vec_len l.earlier ≡ length l.earlier.items = l.earlier.ok.0 in
    rw (← c.self.view_is)
    (sym (at_none l.newest c.args.version.0 l.earlier.items c.self.invariant.0.numbered
    (inr (omega (arith, c.if-back-count.true, c.if-version-newest.false, c.if-version-newest-2.false, c.len-count.ensures, len)))))

pub returns-clause-value : goal.returns-clause-value
returns-clause-value g c =
    let l = c.self.inside in
    let len : vec_len l.earlier ≡ length l.earlier.items = l.earlier.ok.0 in
    let before : c.args.version.0 < l.newest.version.0 = omega (arith, c.if-version-newest.false, c.if-version-newest-2.false) in
    let place : c.args.version.0 + length l.earlier.items ≡ l.newest.version.0 + (c.len-count.result - (l.newest.version.0 - c.args.version.0)) =
    omega (arith, before, c.if-back-count.false, c.len-count.ensures, len)
    in
    rw (← c.self.view_is) (
    c.view_at_place.ensures
    ∙ sym (at_place l.newest c.args.version.0 l.earlier.items (c.len-count.result - (l.newest.version.0 - c.args.version.0)) c.self.invariant.0.numbered before place)
    )
