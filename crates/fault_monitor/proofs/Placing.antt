-- What is kept of members changes at one place.
use Rattle.std.proofs.Common.{arith, ◌≡◌, ◌&&◌, ℕ, nat_eq, Option, ap, ◌∙◌}
use Rattle.std.specs.Prelude.{cond}
use Rattle.std.specs.BTreeMap.{is_at}
use Rattle.fault_monitor.specs.declared.members.Member.{Member}
use Rattle.fault_monitor.specs.Keeping.{pair_order, kept_at, Kept, IsPut}

same_pair : (group host g h : ℕ) → is_at (pair_order (group, host)) (g, h) ≡ (nat_eq group g && nat_eq host h)
same_pair group host g h = grind arith

-- a change that the order of pairs tells is a change at one place
pub put_by_order : (group host : ℕ) (member : Option Member) (old new : Kept)
    → ((q : ℕ × ℕ) → kept_at new q.0 q.1 ≡ cond (is_at (pair_order (group, host)) q) member (kept_at old q.0 q.1))
    → IsPut group host member old new
put_by_order group host member old new so g h = so (g, h) ∙ ap (λ b. cond b member (kept_at old g h)) (same_pair group host g h)
