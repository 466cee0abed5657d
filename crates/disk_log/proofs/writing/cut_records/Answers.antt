use Rattle.std.proofs.Common.{◌≡◌, ◌+◌, ◌<◌, ◌^◌, List, ℕ, [], ◌++◌, length, drop, sym, subst, arith, ap, ◌∙◌}
use Rattle.std.specs.Int.{to_be_bytes, w64}
use Rattle.disk_log.specs.Image.{Cut, rest}
use Rattle.disk_log.specs.Standing.{Stands}
use Rattle.disk_log.proofs.writing.cut_records.Goals as goal

pub returns-in-Failed-clause-dropped : goal.returns-in-Failed-clause-dropped
returns-in-Failed-clause-dropped g c = λ records failed le stands.
    let fits : c.args.first < 2 ^ 64 = omega (arith, c.ranges.first) in
    let is : rest (Cut c.args.first) ≡ c.head_of-head.result ++ c.to_be_bytes-number.result =
    ap (λ (l : List ℕ). l ++ to_be_bytes w64 c.args.first) (sym c.head_of-head.ensures) ∙ ap (λ (l : List ℕ). c.head_of-head.result ++ l) (sym c.to_be_bytes-number.ensures) in
    c.in-Failed.ensures.marked records failed (Cut c.args.first) stands (le, fits) is

pub returns-in-Done-clause-dropped : goal.returns-in-Done-clause-dropped
returns-in-Done-clause-dropped g c = λ records failed le stands.
    let fits : c.args.first < 2 ^ 64 = omega (arith, c.ranges.first) in
    let is : rest (Cut c.args.first) ≡ c.head_of-head.result ++ c.to_be_bytes-number.result =
    ap (λ (l : List ℕ). l ++ to_be_bytes w64 c.args.first) (sym c.head_of-head.ensures) ∙ ap (λ (l : List ℕ). c.head_of-head.result ++ l) (sym c.to_be_bytes-number.ensures) in
    let run = c.in-Done.ensures.marked records failed (Cut c.args.first) stands (le, fits) is in
    let five : length c.head_of-head.result ≡ 5 = ap length c.head_of-head.ensures in
    let eight : length c.to_be_bytes-number.result ≡ 8 = ap length c.to_be_bytes-number.ensures in
    let end : c.args.end.now + 1 + length c.head_of-head.result + length c.to_be_bytes-number.result ≡ c.args.end.now + 14 = omega (arith, five, eight) in
    (run.0, subst (λ n. Stands c.mark_record.new.doubt (g.D.Disk.images c.mark_record.new.disk) n (drop c.args.first records) []) end run.1)
