use Rattle.std.proofs.Common.{rules, ◌≡◌, ◌≤◌, ◌<◌, List, ℕ, [], ◌∷◌, ◌++◌, length, drop, sym, ap, ◌∙◌, arith}
use Rattle.std.specs.Int.{to_be_bytes, w32, w64}
use Rattle.disk_log.specs.Image.{Add, Cut, rest}
use Rattle.disk_log.proofs.Nowhere.{of_too_many}
use Rattle.disk_log.proofs.reading.take_step.Goals as goal

cut_is : (kind number : ℕ) (content : List ℕ) → kind ≡ 1 → length content ≡ 8 → to_be_bytes w64 number ≡ content → (kind ∷ to_be_bytes w32 (length content)) ++ content ≡ rest (Cut number)
cut_is kind number content k l is =
    ap (λ (n : ℕ). (n ∷ to_be_bytes w32 (length content)) ++ content) k ∙ ap (λ (n : ℕ). (1 ∷ to_be_bytes w32 n) ++ content) l ∙ ap (λ (c : List ℕ). (1 ∷ to_be_bytes w32 8) ++ c) (sym is)

pub returns-then-kind-eq0-clause-stepped : goal.returns-then-kind-eq0-clause-stepped
returns-then-kind-eq0-clause-stepped c = λ _.
    let zero : c.args.kind ≡ 0 = search rules in
    let items : c.push_back.new.self.items ≡ c.args.records.now.items ++ c.args.content.now ∷ [] = search rules in
    record { step = Add c.args.content.now; is = ap (λ (n : ℕ). (n ∷ to_be_bytes w32 (length c.args.content.now)) ++ c.args.content.now) zero; may = omega (arith, c.requires); leads = items }

pub returns-clause-stepped : goal.returns-clause-stepped
returns-clause-stepped c = λ _.
    let one : c.args.kind ≡ 1 = search rules in
    let e = c.in-Some.ensures.some in
    let items : c.drop_first.new.records.items ≡ drop c.in-Some.number c.args.records.now.items = search rules in
    let le : c.in-Some.number ≤ length c.args.records.now.items = search rules in
    record { step = Cut c.in-Some.number; is = cut_is c.args.kind c.in-Some.number c.args.content.now one e.0 e.2; may = (le, e.1); leads = items }

pub returns-then-number-len-clause-refused : goal.returns-then-number-len-clause-refused
returns-then-number-len-clause-refused c = λ _.
    let e = c.in-Some.ensures.some in
    let more : length c.args.records.now.items < c.in-Some.number = search rules in
    of_too_many c.args.kind c.in-Some.number c.args.content.now c.args.records.now.items c.if-kind-eq0.false (omega (arith, c.requires)) e.1 e.2 more
