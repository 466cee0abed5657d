-- What stands before the first zero byte.
use Rattle.std.proofs.Common.{◌≡◌, ℕ, ◌==◌, Bool, true, false, not, cond, List, length, take, Some, None, refl, ap, ◌∙◌, arith, le-ltb, get_or-take, length-take-le}
use Rattle.std.specs.List.{prefix_len}
use Rattle.std.proofs.lemmas.List.Sums.{prefix_len-le-length, prefix_len_passes, prefix_len_is}
use Rattle.ft_base.specs.Text.{zero_place}

only_there : (b : Bool) (n m : ℕ) → cond b (Some n) None ≡ Some m → n ≡ m
only_there true n m e = cc
only_there false n m e = absurd cc

nowhere : (b : Bool) (n : ℕ) → b ≡ false → cond b (Some n) None ≡ None
nowhere b n e = rw e refl

-- no zero byte stands before the first one
pub zero_place_before : (xs : List ℕ) (n : ℕ) → zero_place xs ≡ Some n → zero_place (take n xs) ≡ None
zero_place_before xs n e =
    let is_text = λ (x : ℕ). not (x == 0) in
    let first : prefix_len is_text xs ≡ n = only_there _ _ _ e in
    let len : length (take n xs) ≡ n = length-take-le n xs (omega (arith, prefix_len-le-length is_text xs)) in
    let whole : prefix_len is_text (take n xs) ≡ n =
    prefix_len_is is_text (take n xs) n 0 (omega arith)
    (λ k lt. ap is_text (get_or-take n xs k 0 lt) ∙ prefix_len_passes is_text xs k 0 (omega arith))
    (λ lt. absurd (omega arith)) in
    nowhere _ _ (le-ltb _ _ (omega arith))
