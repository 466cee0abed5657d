-- Items in bytes, one step of a loop.
use Rattle.std.proofs.Common.{◌≡◌, ℕ, suc, ◌+◌, ◌-◌, ◌*◌, ◌<◌, ◌≤◌, List, [], ◌∷◌, ◌++◌, length, take, drop, get_or, refl, ap, sym, ◌∙◌, append_assoc, arith}
use Rattle.std.specs.List.{concat}
use Rattle.std.proofs.lemmas.List.{drop_more, drop-drop, append-nil}
use Rattle.servant_queue.specs.Queue.{items_in}

pub items_more : (text goal : List ℕ) (items : List (List ℕ)) (i : ℕ) (d : List ℕ) → i < length items
    → text ++ concat (drop i items) ≡ goal → (text ++ get_or items i d) ++ concat (drop (i + 1) items) ≡ goal
items_more text goal items i d h is =
    append_assoc text (get_or items i d) (concat (drop (i + 1) items))
    ∙ ap (λ (xs : List (List ℕ)). text ++ concat xs) (sym (drop_more items i d h)) ∙ is

one_more : (n m : ℕ) (bytes : List ℕ) → n ≡ suc m → items_in n bytes ≡ take 16 bytes ∷ items_in m (drop 16 bytes)
unfolding items_in
one_more n m bytes e = ap (λ k. items_in k bytes) e

pub items_in_more : (found goal : List (List ℕ)) (bytes : List ℕ) (count i : ℕ) → i < count
    → found ++ items_in (count - i) (drop (16 * i) bytes) ≡ goal
    → (found ++ take 16 (drop (16 * i) bytes) ∷ []) ++ items_in (count - (i + 1)) (drop (16 * (i + 1)) bytes) ≡ goal
items_in_more found goal bytes count i h is =
    append_assoc found (take 16 (drop (16 * i) bytes) ∷ []) (items_in (count - (i + 1)) (drop (16 * (i + 1)) bytes))
    ∙ ap (λ (xs : List ℕ). found ++ take 16 (drop (16 * i) bytes) ∷ items_in (count - (i + 1)) xs)
    (ap (λ n. drop n bytes) (let e : 16 * (i + 1) ≡ 16 * i + 16 = omega arith in e) ∙ sym (drop-drop 16 (16 * i) bytes))
    ∙ ap (λ (xs : List (List ℕ)). found ++ xs) (sym (one_more (count - i) (count - (i + 1)) (drop (16 * i) bytes) (omega arith)))
    ∙ is

-- no item
pub items_in_none : (bytes : List ℕ) → items_in 0 bytes ≡ []
unfolding items_in
items_in_none bytes = refl

pub items_in_end : (found goal : List (List ℕ)) (bytes : List ℕ) (count i : ℕ) → count ≤ i
    → found ++ items_in (count - i) (drop (16 * i) bytes) ≡ goal → found ≡ goal
items_in_end found goal bytes count i h is =
    sym (append-nil found)
    ∙ ap (λ (xs : List (List ℕ)). found ++ xs) (sym (ap (λ n. items_in n (drop (16 * i) bytes)) (let e : count - i ≡ 0 = omega arith in e) ∙ items_in_none (drop (16 * i) bytes)))
    ∙ is
