-- Orders of a map that begins past a position.
use Rattle.std.proofs.Common.{◌≡◌, ℕ, zero, suc, Bool, true, false, cond, List, [], ◌∷◌, refl, ap, ◌∙◌, arith}
use Rattle.std.specs.Prelude.{nat_le, nat_lt}
use Rattle.std.specs.BTreeMap.Range.{IsLeBy}
use Rattle.std.specs.List.{All}
use Rattle.std.specs.Map.{keys_of}
use Rattle.std.specs.Ordering.{nat_cmp}
use Rattle.std.proofs.lemmas.Bool.Decides.{nat_tests}
use Rattle.group_stands.specs.Holding.{HeldOrder, orders_from}

not_past : (position first index : ℕ) → nat_lt first position ≡ false → IsLeBy nat_cmp first index → nat_le position index ≡ true
not_past position first index later le = grind (arith, nat_tests)

-- all of them stay
pub all_stay : (position first : ℕ) (orders : List HeldOrder) → nat_lt first position ≡ false → All (IsLeBy nat_cmp first) (keys_of orders) → orders_from position orders ≡ orders
all_stay position first [] later all = refl
all_stay position first (o ∷ orders) later all =
    ap (λ (b : Bool). cond b (o ∷ orders_from position orders) (orders_from position orders)) (not_past position first o.0 later (all zero o.0 (omega arith)))
    ∙ ap (λ (os : List HeldOrder). o ∷ os) (all_stay position first orders later (λ k d lt. all (suc k) d (omega (arith, lt))))
