-- Members stay different.
use Rattle.std.proofs.Common.{◌≡◌, ℕ, ◌||◌, Bool, true, false, List, [], ◌∷◌, ◌++◌, refl, sym, eqb, eqb-true}
use Rattle.std.proofs.lemmas.Bool.{eqb-false}
use Rattle.std.specs.List.{list_any}
use Rattle.ft_base.specs.Members.{is_member, AreDifferent}

or_parts : (a b : Bool) → (a || b) ≡ false → (a ≡ false) × (b ≡ false)
or_parts true b e = absurd cc
or_parts false b e = (refl, e)

one_more : (test : ℕ → Bool) (xs : List ℕ) (y : ℕ) → list_any test xs ≡ false → test y ≡ false → list_any test (xs ++ y ∷ []) ≡ false
one_more test [] y e f = cc
one_more test (x ∷ xs) y e f =
    let both = or_parts (test x) (list_any test xs) e in cc (both.0, one_more test xs y both.1 f)

eqb_swap : (m n : ℕ) → eqb m n ≡ false → eqb n m ≡ false
eqb_swap m n e =
    let go : (b : Bool) → eqb n m ≡ b → b ≡ false =
    elim [ true ↦ λ h. absurd (eqb-false m n e (sym (eqb-true n m h))) | false ↦ λ h. refl ] in
    go (eqb n m) refl

-- a host that isn't among them joins them at the end
pub joined_differ : (hosts : List ℕ) (host : ℕ) → AreDifferent hosts → is_member host hosts ≡ false → AreDifferent (hosts ++ host ∷ [])
joined_differ [] host all new = (refl, tt)
joined_differ (h ∷ hosts) host all new =
    let both = or_parts (eqb h host) (is_member host hosts) new in
    (one_more (λ other. eqb other h) hosts host all.0 (eqb_swap h host both.0), joined_differ hosts host all.1 both.1)
