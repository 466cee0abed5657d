use Rattle.std.proofs.Common.{rules, ◌≡◌, ◌<◌, ◌≤◌, ◌^◌, ℕ, List, get_or, length, Some, ap, arith, subst, sym, ◌∙◌}
use Rattle.byteorder.specs.Endian.{big_number}
use Rattle.servant_account.proofs.States.{balance_said, unsaid_by_length, unsaid_by_sign}
use Rattle.servant_account.proofs.operations.balance_in.Goals as goal

pub returns-then-digits-ne8-clause-said : goal.returns-then-digits-ne8-clause-said
returns-then-digits-ne8-clause-said c =
    sym (unsaid_by_length c.args.bytes.now (λ e. c.if-digits-ne8.true (ap length c.bytes-digits.ensures ∙ e)))

pub returns-then-balance-gt-LARGEST-clause-said : goal.returns-then-balance-gt-LARGEST-clause-said
returns-then-balance-gt-LARGEST-clause-said c =
    let is : c.number_in-balance.result ≡ big_number 8 c.args.bytes.now = c.number_in-balance.ensures ∙ ap (big_number 8) c.bytes-digits.ensures in
    sym (unsaid_by_sign c.args.bytes.now (subst (λ (n : ℕ). 2 ^ 63 ≤ n) is (omega arith)))

pub returns-clause-said : goal.returns-clause-said
returns-clause-said c =
    let is : c.number_in-balance.result ≡ big_number 8 c.args.bytes.now = c.number_in-balance.ensures ∙ ap (big_number 8) c.bytes-digits.ensures in
    let fit : (i : ℕ) → get_or c.bytes-digits.result.now i 0 < 256 = search rules in
    ap (λ (n : ℕ). Some n) is
    ∙ sym (balance_said c.args.bytes.now (sym (ap length c.bytes-digits.ensures) ∙ c.if-digits-ne8.false) (λ i. subst (λ (s : List ℕ). get_or s i 0 < 256) c.bytes-digits.ensures (fit i)) (subst (λ (n : ℕ). n < 2 ^ 63) is (omega arith)))
