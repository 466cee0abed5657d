use Rattle.std.proofs.Common.{◌≡◌, ◌+◌, ◌<◌, ◌^◌, List, ℕ, [], ◌∷◌, ◌++◌, length, sym, subst, arith, ap}
use Rattle.disk_log.specs.Image.{Add, rest, HoldsOneOf}
use Rattle.disk_log.specs.Standing.{Stands}
use Rattle.disk_log.proofs.Moments.{stays}
use Rattle.disk_log.proofs.Holding.{stands_holds, stands_more, more_lists}
use Rattle.disk_log.proofs.writing.add_record.Goals as goal

pub returns-then-content-ge-MAX_RECORD-clause-added : goal.returns-then-content-ge-MAX_RECORD-clause-added
returns-then-content-ge-MAX_RECORD-clause-added g c = λ records failed stands.
    let old = c.args.disk.now in
    let new = records ++ c.args.content.now ∷ [] in (
      stays g.D.Disk.moment g.D.Disk.since old (HoldsOneOf (records ∷ new ∷ failed)) (g.D.Disk.images old) (λ d since. g.met.D.Disk.only_now old d since)
          (λ d now. more_lists records new failed d (stands_holds c.args.doubt.now (g.D.Disk.images old) c.args.end.now records failed stands d now)),
      stands_more c.args.doubt.now (g.D.Disk.images old) c.args.end.now records new failed stands,
    )

pub returns-in-Failed-clause-added : goal.returns-in-Failed-clause-added
returns-in-Failed-clause-added g c = λ records failed stands.
    let may : length c.args.content.now < 2 ^ 32 = omega (arith, c.if-content-ge-MAX_RECORD.false) in
    let is : rest (Add c.args.content.now) ≡ c.head_of-head.result ++ c.args.content.now = ap (λ (l : List ℕ). l ++ c.args.content.now) (sym c.head_of-head.ensures) in
    c.in-Failed.ensures.marked records failed (Add c.args.content.now) stands may is

pub returns-in-Done-clause-added : goal.returns-in-Done-clause-added
returns-in-Done-clause-added g c = λ records failed stands.
    let content = c.args.content.now in
    let may : length content < 2 ^ 32 = omega (arith, c.if-content-ge-MAX_RECORD.false) in
    let is : rest (Add content) ≡ c.head_of-head.result ++ content = ap (λ (l : List ℕ). l ++ content) (sym c.head_of-head.ensures) in
    let run = c.in-Done.ensures.marked records failed (Add content) stands may is in
    let five : length c.head_of-head.result ≡ 5 = ap length c.head_of-head.ensures in
    let end : c.args.end.now + 1 + length c.head_of-head.result + length content ≡ c.args.end.now + 6 + length content = omega (arith, five) in
    (run.0, subst (λ n. Stands c.mark_record.new.doubt (g.D.Disk.images c.mark_record.new.disk) n (records ++ content ∷ []) []) end run.1)
