-- Fronts of lists.
use Rattle.std.proofs.lemmas.List.{take_min}
use Rattle.std.proofs.Common.{min, ◌≡◌, ℕ, zero, suc, ◌+◌, List, [], ◌∷◌, ◌++◌, length, take, refl, sym, ap, ◌∙◌, arith}

-- the front of a front with more behind it
pub take_again : (n : ℕ) (xs ys : List ℕ) → take n (take n xs ++ ys) ≡ take n (xs ++ ys)
take_again zero xs ys = refl
take_again (suc n) [] ys = refl
take_again (suc n) (x ∷ xs) ys = ap (λ (l : List ℕ). x ∷ l) (take_again n xs ys)

pub take_past : (x y : List ℕ) (k : ℕ) → take (length x + k) (x ++ y) ≡ x ++ take k y
take_past [] y k = ap (λ (n : ℕ). take n y) (let zero_plus : 0 + k ≡ k = omega arith in zero_plus)
take_past (a ∷ x) y k =
    ap (λ (n : ℕ). take n (a ∷ (x ++ y))) (let out : suc (length x) + k ≡ suc (length x + k) = omega arith in out) ∙ ap (λ (l : List ℕ). a ∷ l) (take_past x y k)

-- a front, with as many more bytes as it has room for
pub take_joined : (n room count : ℕ) (xs ys zs : List ℕ) → count ≡ min room (length ys) → zs ≡ xs ++ take count ys → room + length xs ≡ n → zs ≡ take n (xs ++ ys)
take_joined n room count xs ys zs counted joined rooms =
    joined
    ∙ ap (λ (k : ℕ). xs ++ take k ys) counted
    ∙ ap (λ (l : List ℕ). xs ++ l) (take_min room ys)
    ∙ sym (take_past xs ys room)
    ∙ ap (λ (k : ℕ). take k (xs ++ ys)) (let all : length xs + room ≡ n = omega (arith, rooms) in all)
