-- Digits that are read many at once, lane by lane.
use Rattle.std.proofs.Common.{◌≡◌, ℕ, zero, suc, ◌+◌, ◌-◌, ◌*◌, ◌%◌, ◌^◌, ◌<◌, ◌≤◌, ◌↔◌, ◌∙◌, Bool, true, false, cond, eqb, ltb, leb, List, [], ◌∷◌, ◌++◌, map, length, get_or, replicate, bit_and, unwrap_or, Fits, w8, refl, sym, ap, ap₂, subst, inl, inr, arith, eqb-true, eq-eqb, ltb-true, ltb-false, leb-true, leb-false}
use Rattle.std.proofs.lemmas.Bool.{agree_below_at, cases_lt}
use Rattle.std.proofs.lemmas.List.{get_or_past, get_or_append_left, length-map}
use Rattle.std.proofs.lemmas.Simd.{mask_l-mod, length-zip2, get_or-put_chunk_at}
use lib.Lanes.{zip2, sel_l, mask_l, top, pick_l, put_chunk, Each1}
use Rattle.hex.specs.Hex.{hex_digit_value, is_hex_digit}
use Rattle.fault_script.specs.Digits.{IsValue, AreSmall, HasOctet}
use Rattle.fault_script.proofs.DigitLemmas.{AreDigitsBetween, value_from, value_small, octet_of_values}

-- ---- lanes

abbrev added : List ℕ → List ℕ → List ℕ
added = zip2 (λ a b. (a + b) % 2 ^ 8)

abbrev below : ℕ → ℕ → ℕ
below a b = cond (ltb a b) 255 0

abbrev greater_lanes : List ℕ → List ℕ → List ℕ
greater_lanes xs ys = sel_l (map (top 7) (zip2 below xs ys)) ys xs

abbrev lesser_lanes : List ℕ → List ℕ → List ℕ
lesser_lanes xs ys = sel_l (map (top 7) (zip2 below xs ys)) xs ys

-- what is computed of n digits
abbrev pub value_lanes : ℕ → List ℕ → List ℕ
value_lanes n xs =
    lesser_lanes (added (greater_lanes (added xs (replicate n 198)) (replicate n 6)) (replicate n 10))
    (added (lesser_lanes (zip2 (λ a b. (a + (2 ^ 8 - b)) % 2 ^ 8) (zip2 bit_and xs (replicate n 223)) (replicate n 65)) (replicate n 245)) (replicate n 10))

-- one lane of them
abbrev lane : ℕ → ℕ
lane x = get_or (value_lanes 1 (x ∷ [])) 0 0

abbrev reads_so : ℕ → Bool
reads_so x = eqb (unwrap_or (hex_digit_value x) 255) (cond (ltb (lane x) 16) (lane x) 255)

one_value : (x : ℕ) → x < 256 → IsValue x (lane x)
one_value x h = value_from x (lane x) (agree_below_at reads_so (λ _. true) 256 x refl h)

pub values_at : (n : ℕ) (xs : List ℕ) (k : ℕ) → length xs ≡ n → k < n → Each1 (Fits w8) xs → IsValue (get_or xs k 0) (get_or (value_lanes n xs) k 0)
values_at n [] k e h f = absurd (omega arith)
values_at zero (x ∷ xs) k e h f = absurd (omega arith)
values_at (suc n) (x ∷ xs) zero e h f = one_value x f.0.fits
values_at (suc n) (x ∷ xs) (suc k) e h f = values_at n xs k (omega arith) (omega arith) f.1

pub length-value_lanes : (n : ℕ) (xs : List ℕ) → length xs ≡ n → length (value_lanes n xs) ≡ n
length-value_lanes zero [] e = refl
length-value_lanes (suc n) [] e = absurd (omega arith)
length-value_lanes zero (x ∷ xs) e = absurd (omega arith)
length-value_lanes (suc n) (x ∷ xs) e = ap suc (length-value_lanes n xs (omega arith))

-- ---- the greater lanes

one_greater : (x y : ℕ) → (cond (top 7 (below x y)) y x < 16) ↔ ((x < 16) × (y < 16))
one_greater x y = go (ltb x y) refl
  where
    go : (t : Bool) → ltb x y ≡ t → (cond (top 7 (cond t 255 0)) y x < 16) ↔ ((x < 16) × (y < 16))
    go true e = (λ h. (omega (arith, ltb-true _ _ e), h), λ h. h.1)
    go false e = (λ h. (h, omega (arith, ltb-false _ _ e)), λ h. h.0)

pub greater_small : (xs ys : List ℕ) → length xs ≡ length ys → AreSmall (greater_lanes xs ys) ↔ (AreSmall xs × AreSmall ys)
greater_small [] [] e = (λ h. (h, h), λ h. h.0)
greater_small [] (y ∷ ys) e = absurd (omega arith)
greater_small (x ∷ xs) [] e = absurd (omega arith)
greater_small (x ∷ xs) (y ∷ ys) e =
    let r = greater_small xs ys (omega arith) in
    let o = one_greater x y in (
      λ h. (elim [ zero ↦ (o.0 (h 0)).0 | suc i ↦ (r.0 (λ k. h (suc k))).0 i ], elim [ zero ↦ (o.0 (h 0)).1 | suc i ↦ (r.0 (λ k. h (suc k))).1 i ]),
      λ h. elim [ zero ↦ o.1 (h.0 0, h.1 0) | suc i ↦ r.1 (λ k. h.0 (suc k), λ k. h.1 (suc k)) i ],
    )

pub length-greater : (xs ys : List ℕ) → length xs ≡ length ys → length (greater_lanes xs ys) ≡ length xs
length-greater [] ys e = refl
length-greater (x ∷ xs) [] e = absurd (omega arith)
length-greater (x ∷ xs) (y ∷ ys) e = ap suc (length-greater xs ys (omega arith))

-- ---- that no lane is great

abbrev at_least : ℕ → ℕ → ℕ
at_least a b = cond (leb a b) 255 0

flag : (x : ℕ) → (◌≡◌ {A = ℕ} (cond (top 7 (at_least 16 x)) 1 0) 0) ↔ (x < 16)
flag x = go (leb 16 x) refl
  where
    go : (t : Bool) → leb 16 x ≡ t → (◌≡◌ {A = ℕ} (cond (top 7 (cond t 255 0)) 1 0) 0) ↔ (x < 16)
    go true e = (λ q. absurd (omega arith), λ h. absurd (omega (arith, leb-true _ _ e)))
    go false e = (λ _. leb-false _ _ e, λ _. refl)

none_great : (n : ℕ) (xs : List ℕ) → length xs ≡ n → (mask_l (map (top 7) (zip2 at_least (replicate n 16) xs)) ≡ 0) ↔ AreSmall xs
none_great zero [] e = (λ _ i. omega arith, λ _. refl)
none_great (suc n) [] e = absurd (omega arith)
none_great zero (x ∷ xs) e = absurd (omega arith)
none_great (suc n) (x ∷ xs) e =
    let r = none_great n xs (omega arith) in
    (λ q. elim [ zero ↦ (flag x).0 (omega arith) | suc i ↦ r.0 (omega arith) i ], λ h. omega (arith, (flag x).1 (h 0), r.1 (λ i. h (suc i))))

pub small_of_mask : (xs : List ℕ) → length xs ≡ 32 → (eqb (mask_l (map (top 7) (zip2 at_least (replicate 32 16) xs)) % 2 ^ 64) 0 ≡ true) ↔ AreSmall xs
small_of_mask xs long =
    let lanes = zip2 at_least (replicate 32 16) xs in
    let e = mask_l-mod (map (top 7) lanes) 64 (omega (arith, length-map lanes (top 7), length-zip2 at_least (replicate 32 16) xs (sym long))) in
    (λ t. (none_great 32 xs long).0 (sym e ∙ eqb-true _ _ t), λ z. eq-eqb _ _ (e ∙ (none_great 32 xs long).1 z))

-- ---- pairs of values

abbrev pub pair_lanes : ℕ → List ℕ → List ℕ → List ℕ → List ℕ
pair_lanes n vs highs lows = added (zip2 (λ a b. (a * b) % 2 ^ 8) (pick_l 0 vs highs) (replicate n 16)) (pick_l 0 vs lows)

pairs_at : (n : ℕ) (vs highs lows : List ℕ) (k : ℕ) → length highs ≡ n → length lows ≡ n → k < n
    → get_or (pair_lanes n vs highs lows) k 0 ≡ (get_or vs (get_or highs k 0) 0 * 16 + get_or vs (get_or lows k 0) 0) % 256
pairs_at n vs [] lows k e f h = absurd (omega arith)
pairs_at n vs (a ∷ highs) [] k e f h = absurd (omega arith)
pairs_at zero vs (a ∷ highs) (b ∷ lows) k e f h = absurd (omega arith)
pairs_at (suc n) vs (a ∷ highs) (b ∷ lows) zero e f h = omega arith
pairs_at (suc n) vs (a ∷ highs) (b ∷ lows) (suc k) e f h = pairs_at n vs highs lows k (omega arith) (omega arith) (omega arith)

abbrev pub evens : List ℕ
evens = 0 ∷ 2 ∷ 4 ∷ 6 ∷ 8 ∷ 10 ∷ 12 ∷ 14 ∷ 16 ∷ 18 ∷ 20 ∷ 22 ∷ 24 ∷ 26 ∷ 28 ∷ 30 ∷ []

abbrev pub odds : List ℕ
odds = 1 ∷ 3 ∷ 5 ∷ 7 ∷ 9 ∷ 11 ∷ 13 ∷ 15 ∷ 17 ∷ 19 ∷ 21 ∷ 23 ∷ 25 ∷ 27 ∷ 29 ∷ 31 ∷ []

pub joined_at : (vs : List ℕ) (k : ℕ) → length vs ≡ 32 → k < 16
    → get_or (pair_lanes 16 (vs ++ vs) evens odds) k 0 ≡ (get_or vs (2 * k) 0 * 16 + get_or vs (2 * k + 1) 0) % 256
joined_at vs k long h =
    let even : get_or evens k 0 ≡ 2 * k = eqb-true _ _ (agree_below_at (λ j. eqb (get_or evens j 0) (2 * j)) (λ _. true) 16 k refl h) in
    let odd : get_or odds k 0 ≡ 2 * k + 1 = eqb-true _ _ (agree_below_at (λ j. eqb (get_or odds j 0) (2 * j + 1)) (λ _. true) 16 k refl h) in
    let high = ap (λ j. get_or (vs ++ vs) j 0) even ∙ get_or_append_left vs vs 0 (2 * k) (omega arith) in
    let low = ap (λ j. get_or (vs ++ vs) j 0) odd ∙ get_or_append_left vs vs 0 (2 * k + 1) (omega arith) in
    pairs_at 16 (vs ++ vs) evens odds k refl refl h ∙ ap₂ (λ (a b : ℕ). (a * 16 + b) % 256) high low

-- ---- places in the word

-- no lane is great where the word has digits
pub small_digits : (word values : List ℕ) (at : ℕ) → length values ≡ 32 → ((k : ℕ) → k < 32 → IsValue (get_or word (2 * at + k) 0) (get_or values k 0))
    → AreSmall values ↔ AreDigitsBetween word (2 * at) (2 * (at + 16))
small_digits word values at long lanes = (
  λ s k from to.
      let place : 2 * at + (k - 2 * at) ≡ k = omega arith in
      subst (λ p. is_hex_digit (get_or word p 0) ≡ true) place
      ((value_small (get_or word (2 * at + (k - 2 * at)) 0) (get_or values (k - 2 * at) 0) (lanes (k - 2 * at) (omega arith))).0 (s (k - 2 * at))),
  λ digits k. elim (cases_lt k 32) [
    | inl within ↦ (value_small (get_or word (2 * at + k) 0) (get_or values k 0) (lanes k within)).1 (digits (2 * at + k) (omega arith) (omega arith))
    | inr past ↦ (let e = get_or_past values k 0 (omega arith) in omega (arith, e))
  ],
)

pub small_zeros : (n : ℕ) → AreSmall (replicate n 0)
small_zeros zero k = omega arith
small_zeros (suc n) zero = omega arith
small_zeros (suc n) (suc k) = small_zeros n k

-- sixteen octets that are stored
pub stored : (word old values octets : List ℕ) (i : ℕ) → i + 16 ≤ length old → length octets ≡ 16
    → ((k : ℕ) → k < 32 → IsValue (get_or word (2 * i + k) 0) (get_or values k 0))
    → ((k : ℕ) → k < 16 → get_or octets k 0 ≡ (get_or values (2 * k) 0 * 16 + get_or values (2 * k + 1) 0) % 256)
    → (k : ℕ) → i ≤ k → k < i + 16 → HasOctet word (put_chunk i old octets) k
stored word old values octets i room long lanes pairs k from to =
    let j : ℕ = k - i in
    let place : i + (k - i) ≡ k = omega arith in
    let high : 2 * i + 2 * (k - i) ≡ 2 * k = omega arith in
    let low : 2 * i + (2 * (k - i) + 1) ≡ 2 * k + 1 = omega arith in
    let is = get_or-put_chunk_at i old octets (k - i) 0 (omega arith) (omega arith) in
    let octet = ap (λ p. get_or (put_chunk i old octets) p 0) (sym place) ∙ is ∙ pairs j (omega arith) in
    octet_of_values word (put_chunk i old octets) k (get_or values (2 * j) 0) (get_or values (2 * j + 1) 0)
    (subst (λ p. IsValue (get_or word p 0) (get_or values (2 * j) 0)) high (lanes (2 * j) (omega arith)))
    (subst (λ p. IsValue (get_or word p 0) (get_or values (2 * j + 1) 0)) low (lanes (2 * j + 1) (omega arith)))
    (λ a b. omega (arith, a, b, octet))
