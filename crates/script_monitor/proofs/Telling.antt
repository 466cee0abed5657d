-- The list of watched members and the function that it says change in the same way.
use Rattle.std.proofs.Common.{arith, ◌≡◌, ◌&&◌, ℕ, nat_eq, Option, Some, None, [], ◌∷◌, sym, subst}
use Rattle.std.specs.Prelude.{if◌then◌else◌}
use Rattle.fault_monitor.specs.Watching as plain
use Rattle.fault_monitor.specs.Watching.{Watch, Watched, Heard, numbered, hears}
use Rattle.fault_monitor.specs.Keeping.{Kept, StandsFor}
use Rattle.script_monitor.specs.Watches.{Watches, nobody, member_at, watch_of, without, with_member}

without_other : (g h p q : ℕ) (ws : Watches) → member_at (without ws g h) p q ≡ (if nat_eq g p && nat_eq h q then None else member_at ws p q)
unfolding without member_at
without_other g h p q [] = grind arith
without_other g h p q (w ∷ ws) = grind (arith, without_other g h p q ws)

changed_at : (ws : Watches) (g h : ℕ) (x : Option Watched) (p q : ℕ)
    → member_at (with_member ws g h x) p q ≡ plain.with_member (watch_of ws) g h x p q
unfolding with_member member_at
changed_at ws g h None p q = without_other g h p q ws
changed_at ws g h (Some x) p q = grind (arith, without_other g h p q ws)

-- a monitor that stands for the changed function stands for the changed list
pub changed : (ws : Watches) (g h : ℕ) (x : Option Watched) (kept : Kept)
    → StandsFor (plain.with_member (watch_of ws) g h x) kept → StandsFor (watch_of (with_member ws g h x)) kept
changed ws g h x kept = subst (λ (w : Watch). StandsFor w kept) (λ i p q. sym (changed_at ws g h x p q) i)

pub opened : (kept : Kept) → StandsFor plain.nobody kept → StandsFor (watch_of nobody) kept
unfolding member_at
opened kept stands = stands
