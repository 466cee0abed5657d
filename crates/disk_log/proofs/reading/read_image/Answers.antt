use Rattle.std.proofs.Common.{rules, ◌≡◌, ◌≢◌, ℕ, ◌+◌, ◌-◌, ◌<◌, inr, ◌∙◌, length, get_or, take, drop, subst, arith, length-drop}
use Rattle.std.proofs.lemmas.List.{take_all}
use Rattle.std.specs.Int.{from_be_bytes, w32}
use Rattle.disk_log.specs.Standing.{IsStep, CannotStep}
use Rattle.disk_log.proofs.Nowhere.{none_at, no_size, refused_at}
use Rattle.disk_log.proofs.Images.{reads_on, reads_last}
use Rattle.disk_log.proofs.reading.read_image.Goals.{then-loop-place-test+else-bytes-place-eq1, else-loop-place-test}
use Rattle.disk_log.proofs.reading.read_image.Goals as goal

pub loop-place-preserved : goal.loop-place-preserved
loop-place-preserved c =
    let bytes = c.args.bytes.now in
    let place = c.loop-place.place in
    let size = c.in-Some.size in
    let after = take (length bytes - (place + 1)) (drop (place + 1) bytes) in
    let is : after ≡ drop (place + 1) bytes = take_all (length bytes - (place + 1)) (drop (place + 1) bytes) (omega (arith, length-drop (place + 1) bytes)) in
    let same : 5 + size - 5 ≡ size = omega arith in
    let step : IsStep (get_or after 0 0) (take size (drop 5 after)) c.loop-place.records.items c.take_step.new.records.items =
    subst (λ (n : ℕ). IsStep (get_or after 0 0) (take n (drop 5 after)) c.loop-place.records.items c.take_step.new.records.items) same (c.in_ok-take_step.ensures.stepped c.if-not-branch.false) in
    reads_on bytes after c.loop-place.records.items c.take_step.new.records.items place size c.loop-place.invariant c.loop-place-test.true c.if-bytes-place-eq1.true is c.in-Some.ensures.some.0 c.in-Some.ensures.some.2 step

pub returns-clause-read : goal.returns-clause-read
returns-clause-read c =
    let within = c.if-place-bytes.false in
    let shut : get_or c.args.bytes.now c.loop-place.place 0 ≢ 1 = elim c.loop-place-test.branch [
      | then-loop-place-test+else-bytes-place-eq1 w ↦ w.if-bytes-place-eq1.false
      | else-loop-place-test w ↦ absurd (omega (arith, within, w.loop-place-test.false))
    ] in
    reads_last c.args.bytes.now c.loop-place.records.items c.loop-place.place c.loop-place.invariant (omega (arith, within)) shut

pub returns-in_default-clause-unread : goal.returns-in_default-clause-unread
returns-in_default-clause-unread c =
    let bytes = c.args.bytes.now in
    let place = c.loop-place.place in
    let records = c.loop-place.records.items in
    let after = take (length bytes - (place + 1)) (drop (place + 1) bytes) in
    let is : after ≡ drop (place + 1) bytes = take_all (length bytes - (place + 1)) (drop (place + 1) bytes) (omega (arith, length-drop (place + 1) bytes)) in
    let short : length after < 5 + from_be_bytes w32 (take 4 (drop 1 after)) = search rules in
    inr (records, c.loop-place.invariant, none_at records bytes place c.loop-place-test.true c.if-bytes-place-eq1.true (λ step behind may e. no_size records after short step behind may (is ∙ e)))

pub returns-then-not-branch-clause-unread : goal.returns-then-not-branch-clause-unread
returns-then-not-branch-clause-unread c =
    let bytes = c.args.bytes.now in
    let place = c.loop-place.place in
    let size = c.in-Some.size in
    let records = c.loop-place.records.items in
    let after = take (length bytes - (place + 1)) (drop (place + 1) bytes) in
    let is : after ≡ drop (place + 1) bytes = take_all (length bytes - (place + 1)) (drop (place + 1) bytes) (omega (arith, length-drop (place + 1) bytes)) in
    let same : 5 + size - 5 ≡ size = omega arith in
    let cannot : CannotStep (get_or after 0 0) (take size (drop 5 after)) records =
    subst (λ (n : ℕ). CannotStep (get_or after 0 0) (take n (drop 5 after)) records) same (c.in_ok-take_step.ensures.refused c.if-not-branch.true) in
    let s = c.in-Some.ensures.some in
    inr (records, c.loop-place.invariant, none_at records bytes place c.loop-place-test.true c.if-bytes-place-eq1.true (λ step behind may e. refused_at records after size s.0 s.1 s.2 cannot step behind may (is ∙ e)))
