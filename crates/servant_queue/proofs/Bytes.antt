-- Which bytes spell contents.
use Rattle.std.proofs.Common.{◌≡◌, ◌≢◌, ℕ, zero, suc, ◌+◌, ◌*◌, ◌^◌, ◌<◌, ◌≤◌, Bool, true, false, ◌&&◌, if◌then◌else◌, nat_lt, List, [], ◌∷◌, ◌++◌, Option, Some, None, length, take, drop, get_or, refl, ap, subst, sym, ◌∙◌, arith, lit<, lit≤}
use Rattle.std.specs.List.{concat, list_all}
use Rattle.std.specs.Str.{bytes_eq}
use Rattle.std.proofs.Math.Nat.{lt_of_le_of_lt}
use Rattle.std.proofs.lemmas.Bool.{eq-eqb, ltb-true, ltb-false}
use Rattle.std.proofs.lemmas.List.{length-drop, length-take, length-take-le, take-append-drop, get_or-take, get_or_past, get_or-drop, drop-drop}
use Rattle.std.proofs.lemmas.Nat.{be_bytes_2, be_bytes_8}
use Rattle.std.proofs.lemmas.Slice.Eq.{bytes_eq-Decides}
use Rattle.byteorder.specs.Endian.{big_bytes, big_number}
use Rattle.byteorder.specs.Numbers.{big_from-take, big_number-reads_back}
use Rattle.servant_queue.specs.Laws.{length_spelled, says, whole}
use Rattle.servant_queue.specs.Queue.{Contents, IsContents, contents_in, is_contents, is_item, items_in, spelled}

-- ---- bytes that spell none

unsaid : (s : List ℕ) → ((q : Contents) → IsContents q → s ≡ spelled q → ⊥) → None ≡ contents_in s
unsaid s h =
    let go : (o : Option Contents) → contents_in s ≡ o → None ≡ contents_in s =
    elim [ None ↦ λ e. sym e | Some q ↦ λ e. let found = says s q e in absurd (h q found.0 found.1) ] in
    go (contents_in s) refl

pub unsaid_short : (s : List ℕ) → length s < 10 → None ≡ contents_in s
unsaid_short s h = unsaid s (λ q is e. let long = length_spelled q is in let same = ap length e in omega (arith, long, same))

popped_of : (s : List ℕ) (q : Contents) → IsContents q → s ≡ spelled q → big_number 8 s ≡ q.popped
popped_of s q is e =
    ap (big_number 8) e
    ∙ big_number-reads_back 8 q.popped (big_bytes 2 (length q.items) ++ concat q.items) (lt_of_le_of_lt is.popped (lit< tt))

count_of : (s : List ℕ) (q : Contents) → IsContents q → s ≡ spelled q → big_number 2 (drop 8 s) ≡ length q.items
count_of s q is e =
    ap (λ (xs : List ℕ). big_number 2 (drop 8 xs)) e
    ∙ big_number-reads_back 2 (length q.items) (concat q.items) (lt_of_le_of_lt is.few (lit< tt))

pub unsaid_popped : (s : List ℕ) (n : ℕ) → n ≡ big_number 8 s → 2 ^ 63 < n → None ≡ contents_in s
unsaid_popped s n is h = unsaid s (λ q good e. let popped = is ∙ popped_of s q good e in let most = good.popped in omega (arith, popped, most))

pub unsaid_count : (s : List ℕ) (n : ℕ) → n ≡ big_number 2 (drop 8 s) → 4096 < n → None ≡ contents_in s
unsaid_count s n is h = unsaid s (λ q good e. let count = is ∙ count_of s q good e in let most = good.few in omega (arith, count, most))

pub unsaid_rest : (s : List ℕ) (n : ℕ) → n ≡ big_number 2 (drop 8 s) → length (drop 10 s) ≢ 16 * n → None ≡ contents_in s
unsaid_rest s n is h = unsaid s (λ q good e.
    let count = is ∙ count_of s q good e in let long = length_spelled q good in let same = ap length e in let left = length-drop 10 s in
    h (omega (arith, count, long, same, left)))

-- ---- bytes that spell some

items_sized : (n : ℕ) (s : List ℕ) → length s ≡ 16 * n → (list_all is_item (items_in n s) ≡ true) × (length (items_in n s) ≡ n) × (concat (items_in n s) ≡ s)
unfolding items_in
items_sized zero [] h = (refl, refl, refl)
items_sized zero (x ∷ s) h = absurd (omega arith)
items_sized (suc n) s h =
    let left : length (drop 16 s) ≡ 16 * n = (let e = length-drop 16 s in omega (arith, e)) in
    let rest = items_sized n (drop 16 s) left in
    let front : is_item (take 16 s) ≡ true = eq-eqb (length (take 16 s)) 16 (length-take-le 16 s (omega arith)) in (
      ap (λ b. b && list_all is_item (items_in n (drop 16 s))) front ∙ rest.0,
      ap suc rest.1,
      ap (λ (xs : List ℕ). take 16 s ++ xs) rest.2 ∙ take-append-drop 16 s,
    )

abbrev pub made : ℕ → List (List ℕ) → Contents
made popped items = record { popped = popped; items = items }

fit_drop : (n : ℕ) (s : List ℕ) → ((i : ℕ) → get_or s i 0 < 256) → (i : ℕ) → get_or (drop n s) i 0 < 256
fit_drop n s h i = subst (λ (m : ℕ). m < 256) (sym (get_or-drop n s i 0)) (h (n + i))

fit_take : (n : ℕ) (s : List ℕ) → ((i : ℕ) → get_or s i 0 < 256) → (i : ℕ) → get_or (take n s) i 0 < 256
fit_take n s h i =
    let go : (b : Bool) → nat_lt i n ≡ b → get_or (take n s) i 0 < 256 =
    elim [
      | true ↦ λ e. subst (λ (m : ℕ). m < 256) (sym (get_or-take n s i 0 (ltb-true i n e))) (h i)
      | false ↦ λ e.
          let past : n ≤ i = ltb-false i n e in
          let size = length-take n s in
          subst (λ (m : ℕ). m < 256) (sym (get_or_past (take n s) i 0 (omega (arith, past, size)))) (lit< tt)
    ] in
    go (nat_lt i n) refl

-- the contents at which bytes are read
here : List ℕ → Contents
here s = made (big_number 8 s) (items_in (big_number 2 (drop 8 s)) (drop 10 s))

spelled_again : (s : List ℕ) → ((i : ℕ) → get_or s i 0 < 256) → 10 ≤ length s
    → length (drop 10 s) ≡ 16 * big_number 2 (drop 8 s) → spelled (here s) ≡ s
unfolding here
spelled_again s fit long rest =
    let items = items_sized (big_number 2 (drop 8 s)) (drop 10 s) rest in
    let found : List (List ℕ) = items_in (big_number 2 (drop 8 s)) (drop 10 s) in
    let popped : big_bytes 8 (big_number 8 s) ≡ take 8 s =
    be_bytes_8 (take 8 s) (big_number 8 s) (length-take-le 8 s (omega arith)) (fit_take 8 s fit)
    (let e = big_from-take 0 8 8 s (lit≤ tt) in omega (arith, e)) in
    let left = length-drop 8 s in
    let count : big_bytes 2 (big_number 2 (drop 8 s)) ≡ take 2 (drop 8 s) =
    be_bytes_2 (take 2 (drop 8 s)) (big_number 2 (drop 8 s)) (length-take-le 2 (drop 8 s) (omega (arith, left))) (fit_take 2 (drop 8 s) (fit_drop 8 s fit))
    (let e = big_from-take 0 2 2 (drop 8 s) (lit≤ tt) in omega (arith, e)) in
    let counted : big_bytes 2 (length (items_in (big_number 2 (drop 8 s)) (drop 10 s))) ≡ take 2 (drop 8 s) =
    ap (λ (n : ℕ). big_bytes 2 n) items.1 ∙ count in
    ap (λ (xs : List ℕ). xs ++ (big_bytes 2 (length (items_in (big_number 2 (drop 8 s)) (drop 10 s))) ++ concat (items_in (big_number 2 (drop 8 s)) (drop 10 s)))) popped
    ∙ ap (λ (xs : List ℕ). take 8 s ++ (xs ++ concat (items_in (big_number 2 (drop 8 s)) (drop 10 s)))) counted
    ∙ ap (λ (xs : List ℕ). take 8 s ++ (take 2 (drop 8 s) ++ xs)) (items.2 ∙ sym (drop-drop 2 8 s))
    ∙ ap (λ (xs : List ℕ). take 8 s ++ xs) (take-append-drop 2 (drop 8 s))
    ∙ take-append-drop 8 s

sound_here : (s : List ℕ) → big_number 8 s ≤ 2 ^ 63 → big_number 2 (drop 8 s) ≤ 4096 → length (drop 10 s) ≡ 16 * big_number 2 (drop 8 s) → IsContents (here s)
unfolding here
sound_here s most few rest =
    let items = items_sized (big_number 2 (drop 8 s)) (drop 10 s) rest in
    record { popped = most; few = subst (λ (n : ℕ). n ≤ 4096) (sym items.1) few; sized = items.0 }

said_here : (s : List ℕ) → ((i : ℕ) → get_or s i 0 < 256) → 10 ≤ length s → big_number 8 s ≤ 2 ^ 63 → big_number 2 (drop 8 s) ≤ 4096
    → length (drop 10 s) ≡ 16 * big_number 2 (drop 8 s) → contents_in s ≡ Some (here s)
unfolding contents_in here
said_here s fit long most few rest =
    let good : is_contents (here s) ≡ true = whole (here s) (sound_here s most few rest) in
    let same : bytes_eq s (spelled (here s)) ≡ true = (bytes_eq-Decides s (spelled (here s))).1 (sym (spelled_again s fit long rest)) in
    ap (λ b. if b && bytes_eq s (spelled (here s)) then Some (here s) else None) good
    ∙ ap (λ b. if b then Some (here s) else None) same

made_is : (popped count : ℕ) (s : List ℕ) → popped ≡ big_number 8 s → count ≡ big_number 2 (drop 8 s)
    → here s ≡ record { popped = popped; items = items_in count (drop 10 s) }
unfolding here
made_is popped count s is_popped is_count =
    ap (λ n. made n (items_in (big_number 2 (drop 8 s)) (drop 10 s))) (sym is_popped) ∙ ap (λ n. made popped (items_in n (drop 10 s))) (sym is_count)

pub said : (s : List ℕ) (popped count : ℕ) → popped ≡ big_number 8 s → count ≡ big_number 2 (drop 8 s)
    → ((i : ℕ) → get_or s i 0 < 256) → 10 ≤ length s → popped ≤ 2 ^ 63 → count ≤ 4096 → length (drop 10 s) ≡ 16 * count
    → Some (record { popped = popped; items = items_in count (drop 10 s) }) ≡ contents_in s
said s popped count is_popped is_count fit long most few rest =
    sym (said_here s fit long (subst (λ (n : ℕ). n ≤ 2 ^ 63) is_popped most) (subst (λ (n : ℕ). n ≤ 4096) is_count few) (rest ∙ ap (λ n. 16 * n) is_count)
    ∙ ap (λ (q : Contents). Some q) (made_is popped count s is_popped is_count))

pub sound : (s : List ℕ) (popped count : ℕ) → popped ≡ big_number 8 s → count ≡ big_number 2 (drop 8 s)
    → popped ≤ 2 ^ 63 → count ≤ 4096 → length (drop 10 s) ≡ 16 * count
    → IsContents (record { popped = popped; items = items_in count (drop 10 s) })
sound s popped count is_popped is_count most few rest =
    subst IsContents (made_is popped count s is_popped is_count)
    (sound_here s (subst (λ (n : ℕ). n ≤ 2 ^ 63) is_popped most) (subst (λ (n : ℕ). n ≤ 4096) is_count few) (rest ∙ ap (λ n. 16 * n) is_count))
