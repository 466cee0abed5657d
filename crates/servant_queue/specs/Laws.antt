-- The queue keeps the laws of a servant: what it owes over contents.
use Rattle.std.proofs.Common.{◌≡◌, ℕ, zero, suc, ◌+◌, ◌-◌, ◌*◌, ◌^◌, ◌<◌, ◌≤◌, Bool, true, false, ◌&&◌, not, nat_lt, nat_le, if◌then◌else◌, List, [], ◌∷◌, ◌++◌, length, drop, Option, Some, None, option_map, codes, refl, ap, sym, subst, ◌∙◌, arith, lit<, lit≤}
use Rattle.std.specs.List.{concat, list_all}
use Rattle.std.proofs.Math.Nat.{lt_of_le_of_lt}
use Rattle.std.proofs.lemmas.Bool.{leb-true, leb-false, le-leb, eqb-true, le-ltb, ltb-false}
use Rattle.std.proofs.lemmas.List.{append-nil, append_assoc, drop-drop, drop_at, take_at, drop_all, drop-append-le, length-append, length-drop}
use Rattle.std.proofs.lemmas.List.Folds.{list_all-append}
use Rattle.byteorder.specs.Endian.{big_bytes, big_number}
use Rattle.byteorder.specs.Numbers.{big_number-reads_back}
use Rattle.ft_base.specs.Canonical.{number_at, octets_at}
use Rattle.ft_base.specs.Coding.{IsCoding, value_in}
use Rattle.ft_base.specs.CodingLaws as codings
use Rattle.ft_base.specs.Machine.{FitsAs, IsGivenAs}
use Rattle.ft_base.specs.Text.{IsName}
use Rattle.ft_base.specs.declared.requests.Outcome.{Outcome}
use Rattle.ft_base.specs.declared.requests.Outcome.TheVariants.{Value, User}
use Rattle.servant_queue.specs.Operations.{operation_of, signature_of}
use Rattle.servant_queue.specs.Queue.{Contents, IsContents, advanced, contents_in, is_contents, is_item, item_of, items_in, joined, kept, popped_from, pushed, queue, ran, read, since, spelled, told}
use Rattle.servant_queue.specs.declared.operations.Operation.{Operation}
use Rattle.servant_queue.specs.declared.operations.Operation.TheVariants.{Push, Pop, Length}

both : (a b : Bool) → (a && b) ≡ true → (a ≡ true) × (b ≡ true)
both true b h = (refl, h)
both false b h = absurd cc

-- ---- contents by their parts

pub parts : (q : Contents) → is_contents q ≡ true → IsContents q
parts q h =
    let first = both (nat_le q.popped (2 ^ 63)) (nat_le (length q.items) 4096 && list_all is_item q.items) h in
    let second = both (nat_le (length q.items) 4096) (list_all is_item q.items) first.1 in
    record { popped = leb-true q.popped (2 ^ 63) first.0; few = leb-true (length q.items) 4096 second.0; sized = second.1 }

pub whole : (q : Contents) → IsContents q → is_contents q ≡ true
whole q h =
    ap (λ b. b && (nat_le (length q.items) 4096 && list_all is_item q.items)) (le-leb q.popped (2 ^ 63) h.popped)
    ∙ ap (λ b. b && list_all is_item q.items) (le-leb (length q.items) 4096 h.few) ∙ h.sized

pub all_drop : (n : ℕ) (xs : List (List ℕ)) → list_all is_item xs ≡ true → list_all is_item (drop n xs) ≡ true
all_drop zero xs h = h
all_drop (suc n) [] h = h
all_drop (suc n) (x ∷ xs) h = all_drop n xs (both (is_item x) (list_all is_item xs) h).1

pub all_append : (xs ys : List (List ℕ)) → list_all is_item xs ≡ true → list_all is_item ys ≡ true → list_all is_item (xs ++ ys) ≡ true
all_append xs ys h k = list_all-append is_item xs ys ∙ ap (λ b. b && list_all is_item ys) h ∙ k

one_item : (item : List ℕ) → is_item item ≡ true → list_all is_item (item ∷ []) ≡ true
one_item item h = ap (λ b. b && true) h

-- ---- bytes

items_back : (xs : List (List ℕ)) → list_all is_item xs ≡ true → items_in (length xs) (concat xs) ≡ xs
unfolding items_in
items_back [] h = refl
items_back (x ∷ xs) h =
    let each = both (is_item x) (list_all is_item xs) h in
    let sized : length x ≡ 16 = eqb-true (length x) 16 each.0 in
    ap (λ (front : List ℕ). front ∷ items_in (length xs) (drop 16 (x ++ concat xs))) (take_at x (concat xs) 16 sized)
    ∙ ap (λ (rest : List ℕ). x ∷ items_in (length xs) rest) (drop_at x (concat xs) 16 sized)
    ∙ ap (λ (rest : List (List ℕ)). x ∷ rest) (items_back xs each.1)

made : ℕ → List (List ℕ) → Contents
made popped items = record { popped = popped; items = items }

read_back : (q : Contents) → IsContents q → read (spelled q) ≡ Some q
unfolding made
read_back q h =
    let popped : big_number 8 (spelled q) ≡ q.popped =
    big_number-reads_back 8 q.popped (big_bytes 2 (length q.items) ++ concat q.items) (lt_of_le_of_lt h.popped (lit< tt)) in
    let count : big_number 2 (big_bytes 2 (length q.items) ++ concat q.items) ≡ length q.items =
    big_number-reads_back 2 (length q.items) (concat q.items) (lt_of_le_of_lt h.few (lit< tt)) in
    ap (λ n. Some (made n (items_in (big_number 2 (big_bytes 2 (length q.items) ++ concat q.items)) (concat q.items)))) popped
    ∙ ap (λ n. Some (made q.popped (items_in n (concat q.items)))) count
    ∙ ap (λ (xs : List (List ℕ)). Some (made q.popped xs)) (items_back q.items h.sized)

pub length_concat : (xs : List (List ℕ)) → list_all is_item xs ≡ true → length (concat xs) ≡ 16 * length xs
length_concat [] h = refl
length_concat (x ∷ xs) h =
    let each = both (is_item x) (list_all is_item xs) h in
    let sized : length x ≡ 16 = eqb-true (length x) 16 each.0 in
    let rest = length_concat xs each.1 in
    length-append x (concat xs) ∙ (let e : length x + length (concat xs) ≡ 16 * suc (length xs) = omega arith in e)

pub length_spelled : (q : Contents) → IsContents q → length (spelled q) ≡ 10 + 16 * length q.items
length_spelled q h = let rest = length_concat q.items h.sized in omega (arith, rest)

short : (q : Contents) → IsContents q → length (spelled q) + 8 < 2 ^ 32
short q h = let sized = length_spelled q h in let few = h.few in omega (arith, sized, few)

-- ---- operations

-- each branch of a push, and of a pop
by_push : (P : Contents × Outcome → Type 0) (q : Contents) (item : List ℕ)
    → P (q, User (codes "BadItem")) → P (q, User (codes "QueueFull"))
    → (is_item item ≡ true → length q.items < 4096 → P (record q { items = q.items ++ item ∷ [] }, told (length q.items + 1)))
    → P (pushed q item)
by_push P q item bad full joins =
    let go : (b : Bool) → is_item item ≡ b → P (if not b then (q, User (codes "BadItem")) else (if nat_le 4096 (length q.items) then (q, User (codes "QueueFull")) else (record q { items = q.items ++ item ∷ [] }, told (length q.items + 1)))) =
    elim [
      | false ↦ λ e. bad
      | true ↦ λ e.
          let inner : (b : Bool) → nat_le 4096 (length q.items) ≡ b → P (if b then (q, User (codes "QueueFull")) else (record q { items = q.items ++ item ∷ [] }, told (length q.items + 1))) =
          elim [ true ↦ λ f. full | false ↦ λ f. joins e (leb-false 4096 (length q.items) f) ] in
          inner (nat_le 4096 (length q.items)) refl
    ] in
    go (is_item item) refl

by_pop : (P : Contents × Outcome → Type 0) (q : Contents) (items : List (List ℕ)) → q.items ≡ items
    → P (q, User (codes "QueueEmpty")) → P (q, User (codes "QueueSpent"))
    → ((item : List ℕ) (rest : List (List ℕ)) → q.items ≡ item ∷ rest → q.popped < 2 ^ 63
    → P (record { popped = q.popped + 1; items = rest }, Value (octets_at 0 item)))
    → P (popped_from q items)
by_pop P q [] is empty spent leaves = empty
by_pop P q (item ∷ rest) is empty spent leaves =
    let go : (b : Bool) → nat_le (2 ^ 63) q.popped ≡ b → P (if b then (q, User (codes "QueueSpent")) else (record { popped = q.popped + 1; items = rest }, Value (octets_at 0 item))) =
    elim [ true ↦ λ e. spent | false ↦ λ e. leaves item rest is (leb-false (2 ^ 63) q.popped e) ] in
    go (nat_le (2 ^ 63) q.popped) refl

more : (q : Contents) (item : List ℕ) → IsContents q → is_item item ≡ true → length q.items < 4096
    → IsContents (record q { items = q.items ++ item ∷ [] })
more q item h fits room = record {
  popped = h.popped;
  few = (let sum = length-append q.items (item ∷ []) in omega (arith, sum));
  sized = all_append q.items (item ∷ []) h.sized (one_item item fits);
}

fewer : (q : Contents) (item : List ℕ) (rest : List (List ℕ)) → IsContents q → q.items ≡ item ∷ rest → q.popped < 2 ^ 63
    → IsContents (record { popped = q.popped + 1; items = rest })
fewer q item rest h is room = record {
  popped = omega arith;
  few = (let sum : length q.items ≡ suc (length rest) = ap length is in let few = h.few in omega (arith, sum, few));
  sized = (both (is_item item) (list_all is_item rest) (subst (λ (xs : List (List ℕ)). list_all is_item xs ≡ true) is h.sized)).1;
}

ran_stays : (o : Option Operation) (q : Contents) (args : List ℕ) → IsContents q → IsContents (ran o q args).0
ran_stays None q args h = h
ran_stays (Some Push) q args h = by_push (λ next. IsContents next.0) q (item_of args) h h (λ fits room. more q (item_of args) h fits room)
ran_stays (Some Pop) q args h = by_pop (λ next. IsContents next.0) q q.items refl h h (λ item rest is room. fewer q item rest h is room)
ran_stays (Some Length) q args h = h

bad_item : IsName (codes "BadItem")
bad_item = record { filled = lit< tt; short = lit≤ tt; no_zero = refl }

full : IsName (codes "QueueFull")
full = record { filled = lit< tt; short = lit≤ tt; no_zero = refl }

empty : IsName (codes "QueueEmpty")
empty = record { filled = lit< tt; short = lit≤ tt; no_zero = refl }

spent : IsName (codes "QueueSpent")
spent = record { filled = lit< tt; short = lit≤ tt; no_zero = refl }

told_gives : (n : ℕ) → n < 2 ^ 32 → IsGivenAs (Some (signature_of Length)) (told n)
told_gives n h = ((number_at 4 0 n, [], refl, (n, h, refl), refl), lit≤ tt)

item_gives : (item : List ℕ) → length item ≡ 16 → IsGivenAs (Some (signature_of Pop)) (Value (octets_at 0 item))
item_gives item sized =
    let short : length item < 2 ^ 32 = omega arith in
    ((octets_at 0 item, [], sym (append-nil (octets_at 0 item)), (item, short, refl), refl), omega arith)

ran_gives : (o : Option Operation) (q : Contents) (args : List ℕ) → IsContents q → FitsAs (option_map signature_of o) args
    → IsGivenAs (option_map signature_of o) (ran o q args).1
ran_gives None q args h fits = fits
ran_gives (Some Push) q args h fits =
    by_push (λ next. IsGivenAs (Some (signature_of Push)) next.1) q (item_of args) bad_item full
    (λ good room. told_gives (length q.items + 1) (omega arith))
ran_gives (Some Pop) q args h fits =
    by_pop (λ next. IsGivenAs (Some (signature_of Pop)) next.1) q q.items refl empty spent
    (λ item rest is room. item_gives item (eqb-true (length item) 16
    (both (is_item item) (list_all is_item rest) (subst (λ (xs : List (List ℕ)). list_all is_item xs ≡ true) is h.sized)).0))
ran_gives (Some Length) q args h fits = let few = h.few in told_gives (length q.items) (omega (arith, few))

-- ---- updates

-- A later queue: of all items that the earlier one had and that were pushed since, some first ones are gone.
pub record IsLater (base later : Contents) : Type 0 where
  pub gone : ℕ
  pub pushed : List (List ℕ)
  pub within : gone ≤ length (base.items ++ pushed)
  pub popped : later.popped ≡ base.popped + gone
  pub items : later.items ≡ drop gone (base.items ++ pushed)

later_itself : (q : Contents) → IsLater q q
later_itself q = record {
  gone = 0;
  pushed = [];
  within = omega arith;
  popped = omega arith;
  items = sym (append-nil q.items);
}

later_pushed : (base q : Contents) (item : List ℕ) → IsLater base q → IsLater base (record q { items = q.items ++ item ∷ [] })
later_pushed base q item later =
    let all : List (List ℕ) = base.items ++ later.pushed in
    let regrouped : base.items ++ (later.pushed ++ item ∷ []) ≡ (base.items ++ later.pushed) ++ item ∷ [] = sym (append_assoc base.items later.pushed (item ∷ [])) in
    record {
      gone = later.gone;
      pushed = later.pushed ++ item ∷ [];
      within = (let within = later.within in let sum = length-append (base.items ++ later.pushed) (item ∷ []) in let same = ap length regrouped in omega (arith, within, sum, same));
      popped = later.popped;
      items = ap (λ (xs : List (List ℕ)). xs ++ item ∷ []) later.items
          ∙ sym (drop-append-le later.gone (base.items ++ later.pushed) (item ∷ []) later.within)
          ∙ ap (drop later.gone) (sym regrouped);
    }

later_popped : (base q : Contents) (item : List ℕ) (rest : List (List ℕ)) → IsLater base q → q.items ≡ item ∷ rest
    → IsLater base (record { popped = q.popped + 1; items = rest })
later_popped base q item rest later is =
    let all : drop later.gone (base.items ++ later.pushed) ≡ item ∷ rest = sym later.items ∙ is in
    record {
      gone = later.gone + 1;
      pushed = later.pushed;
      within = (let some : length (drop later.gone (base.items ++ later.pushed)) ≡ suc (length rest) = ap length all in
          let left = length-drop later.gone (base.items ++ later.pushed) in omega (arith, some, left));
      popped = (let before = later.popped in omega (arith, before));
      items = sym (ap (drop 1) all) ∙ drop-drop 1 later.gone (base.items ++ later.pushed);
    }

later_ran : (base : Contents) (o : Option Operation) (q : Contents) (args : List ℕ) → IsLater base q → IsLater base (ran o q args).0
later_ran base None q args later = later
later_ran base (Some Push) q args later =
    by_push (λ next. IsLater base next.0) q (item_of args) later later (λ fits room. later_pushed base q (item_of args) later)
later_ran base (Some Pop) q args later =
    by_pop (λ next. IsLater base next.0) q q.items refl later later (λ item rest is room. later_popped base q item rest later is)
later_ran base (Some Length) q args later = later

since_is : (base later : Contents) → IsContents later → IsContents (since base later)
since_is base later h = record {
  popped = h.popped;
  few = (let left = length-drop (kept base later.popped) later.items in let few = h.few in omega (arith, left, few));
  sized = all_drop (kept base later.popped) later.items h.sized;
}

-- what is left of a list's front, and what is behind it, are what is left of the whole
rejoined : (gone : ℕ) (xs ys : List (List ℕ)) → drop gone xs ++ drop (length xs - gone) (drop gone (xs ++ ys)) ≡ drop gone (xs ++ ys)
rejoined gone xs ys =
    let go : (b : Bool) → nat_le gone (length xs) ≡ b → drop gone xs ++ drop (length xs - gone) (drop gone (xs ++ ys)) ≡ drop gone (xs ++ ys) =
    elim [
      | true ↦ λ e.
          let within : gone ≤ length xs = leb-true gone (length xs) e in
          ap (λ (zs : List (List ℕ)). drop gone xs ++ zs)
          (drop-drop (length xs - gone) gone (xs ++ ys) ∙ ap (λ n. drop n (xs ++ ys)) (let e : gone + (length xs - gone) ≡ length xs = omega arith in e) ∙ drop_at xs ys (length xs) refl)
          ∙ sym (drop-append-le gone xs ys within)
      | false ↦ λ e.
          let past : length xs < gone = leb-false gone (length xs) e in
          ap (λ (zs : List (List ℕ)). zs ++ drop (length xs - gone) (drop gone (xs ++ ys))) (drop_all gone xs (omega arith))
          ∙ ap (λ n. drop n (drop gone (xs ++ ys))) (let e : length xs - gone ≡ 0 = omega arith in e)
    ] in
    go (nat_le gone (length xs)) refl

joined_since : (base later : Contents) → IsLater base later → joined base (since base later) ≡ later
unfolding made
joined_since base later is =
    let gone : later.popped - base.popped ≡ is.gone = (let sum = is.popped in omega (arith, sum)) in
    let items : drop (later.popped - base.popped) base.items ++ drop (kept base later.popped) later.items ≡ later.items =
    ap (λ n. drop n base.items ++ drop (length base.items - n) later.items) gone
    ∙ ap (λ (xs : List (List ℕ)). drop is.gone base.items ++ drop (length base.items - is.gone) xs) is.items
    ∙ rejoined is.gone base.items is.pushed ∙ sym is.items in
    ap (λ (xs : List (List ℕ)). made later.popped xs) items

-- an update that isn't refused
advanced_is : (base new : Contents) → base.popped ≤ new.popped → length (joined base new).items ≤ 4096
    → advanced base (Some new) ≡ Some (joined base new)
advanced_is base new popped few =
    ap (λ b. if b then None else (if nat_lt 4096 (length (joined base new).items) then None else Some (joined base new))) (le-ltb new.popped base.popped popped)
    ∙ ap (λ b. if b then None else Some (joined base new)) (le-ltb 4096 (length (joined base new).items) few)

led : (base later : Contents) → IsContents later → IsLater base later → advanced base (Some (since base later)) ≡ Some later
led base later h is =
    let same = joined_since base later is in
    advanced_is base (since base later) (let sum = is.popped in omega (arith, sum))
    (subst (λ (q : Contents). length q.items ≤ 4096) (sym same) h.few)
    ∙ ap (λ (q : Contents). Some q) same

advanced_stays : (base new later : Contents) → IsContents base → IsContents new → advanced base (Some new) ≡ Some later → IsContents later
advanced_stays base new later h k is =
    let go : (a b : Bool) → nat_lt 4096 (length (joined base new).items) ≡ b
    → (if a then None else (if b then None else Some (joined base new))) ≡ Some later → IsContents later =
    elim [
      | true ↦ λ b e is. absurd cc
      | false ↦ elim [
        | true ↦ λ e is. absurd cc
        | false ↦ λ e is.
            let same : joined base new ≡ later = cc in
            subst IsContents same (record {
              popped = k.popped;
              few = ltb-false 4096 (length (joined base new).items) e;
              sized = all_append (drop (new.popped - base.popped) base.items) new.items (all_drop (new.popped - base.popped) base.items h.sized) k.sized;
            })
      ]
    ] in
    go (nat_lt new.popped base.popped) (nat_lt 4096 (length (joined base new).items)) refl is

update_stays_by : (base : Contents) (o : Option Contents) (later : Contents) → IsContents base
    → ((new : Contents) → o ≡ Some new → IsContents new) → advanced base o ≡ Some later → IsContents later
update_stays_by base None later h each is = absurd cc
update_stays_by base (Some new) later h each is = advanced_stays base new later h (each new refl) is

-- what is spelled is found in bytes, and only that
pub found : (q : Contents) → IsContents q → contents_in (spelled q) ≡ Some q
unfolding queue contents_in value_in
found q h = codings.said_where queue q (whole q h) (read_back q h)

pub says : (bytes : List ℕ) (q : Contents) → contents_in bytes ≡ Some q → IsContents q × (bytes ≡ spelled q)
unfolding queue contents_in value_in
says bytes q is = let said = codings.says queue bytes q is in (parts q said.valid, said.spelled)

pub owes : IsCoding queue IsLater
unfolding queue
owes = record {
  opens = refl;
  reads_back = λ q h. read_back q (parts q h);
  short = λ q h. short q (parts q h);
  stays = λ q r h fits. whole (ran (operation_of r.op) q r.args).0 (ran_stays (operation_of r.op) q r.args (parts q h));
  gives = λ q r h fits. ran_gives (operation_of r.op) q r.args (parts q h) fits;
  update_short = λ base later h k. short (since base later) (since_is base later (parts later k));
  update_stays = λ base later u h is. whole later (update_stays_by base (contents_in u) later (parts base h) (λ new e. (says u new e).0) is);
  leads_itself = λ q h. later_itself q;
  leads_on = λ base q r h k fits later. later_ran base (operation_of r.op) q r.args later;
  updates = λ base later h k is.
      ap (advanced base) (found (since base later) (since_is base later (parts later k))) ∙ led base later (parts later k) is;
}
