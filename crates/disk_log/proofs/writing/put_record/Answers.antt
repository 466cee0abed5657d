use Rattle.std.proofs.Common.{◌≡◌, List, ℕ, ◌∷◌, ◌++◌, length, ◌∙◌, ap, subst, arith, append_assoc, length-append}
use Rattle.std.specs.Int.{to_be_bytes, w32}
use Rattle.disk_log.specs.Image.{Add, rest}
use Rattle.disk_log.specs.Standing.{Begins}
use Rattle.disk_log.proofs.Moments.{on_done}
use Rattle.disk_log.proofs.writing.put_record.Goals as goal

record_is : (front head content : List ℕ) → head ≡ 1 ∷ 0 ∷ to_be_bytes w32 (length content) → front ++ head ++ content ≡ front ++ (1 ∷ rest (Add content))
record_is front head content is = append_assoc front head content ∙ ap (λ (l : List ℕ). front ++ (l ++ content)) is

pub returns-clause-written : goal.returns-clause-written
returns-clause-written g c =
    on_done c.put-2.result _ _ (λ second front e before d given.
    let head = c.marked_head_of-head.result in
    let content = c.args.content.now in
    let first = c.in-Done.ensures.written front e before in
    let six : length head ≡ 6 = ap length c.marked_head_of-head.ensures in
    let both = second (front ++ head) (omega (arith, e, six, length-append front head)) first in
    subst (λ (l : List ℕ). Begins l d) (record_is front head content c.marked_head_of-head.ensures) (both d given)) c.put-2.ensures.written
