-- Orders that are held back, as their group grows and their host runs on.
use Rattle.std.proofs.Common.{◌≡◌, ℕ, zero, suc, ◌+◌, ◌<◌, ◌≤◌, max, Bool, true, false, cond, List, [], ◌∷◌, ◌++◌, length, Some, refl, sym, ap, subst, ◌∙◌, leb-true, eqb-true, arith}
use Rattle.std.specs.Prelude.{nat_eq, nat_le, ◌&&◌, ◌||◌, slice_get, is_some}
use Rattle.std.specs.BTreeMap.{insert_entry, is_at}
use Rattle.std.specs.List.{AllByRecursion, filter}
use Rattle.std.specs.Ordering.{is_eq, match_ordering, nat_cmp}
use Rattle.std.specs.declared.cmp.Ordering.{Ordering}
use Rattle.std.specs.declared.cmp.Ordering.TheVariants.{Less, Equal, Greater}
use Rattle.std.proofs.lemmas.Bool.Decides.{nat_tests}
use Rattle.std.proofs.lemmas.Option.{slice_get_within}
use Rattle.ft_base.specs.Machine.{Machine, Fits}
use Rattle.ft_base.specs.Journal.{Entry}
use Rattle.ft_base.specs.declared.limits.TheConstants.{JOURNAL_LIMIT}
use Rattle.ft_base.specs.declared.requests.Request.{Request}
use Rattle.ft_replica.specs.Picture.{Picture as ReplicaPicture, one_further}
use Rattle.group_model.specs.Agreeing.{IsSoundCommon, IsOrdered}
use Rattle.group_model.specs.Laws.{Grows}
use Rattle.group_model.specs.Plain.{Common, Place, from, is_held, with_number, with_ran, state_at}
use Rattle.group_model.specs.Serving.{joined}
use Rattle.group_stands.specs.Stands.{ReplicaStands}
use Rattle.group_stands.specs.Going.{moved}
use Rattle.group_stands.specs.Holding.{HeldOrder, indices, holds, request_of, orders_from, with_order, IsHeld, HoldStands}
use Rattle.group_stands.proofs.Places.{all_get}
use Rattle.group_stands.proofs.Runs.{state_next}

-- ---- lists

all_so : {X : Type 0} (P Q : X → Type 0) → ((x : X) → P x → Q x) → (xs : List X) → AllByRecursion P xs → AllByRecursion Q xs
all_so P Q so [] all = tt
all_so P Q so (x ∷ xs) all = (so x all.0, all_so P Q so xs all.1)

front_get : (xs more : List Entry) (i : ℕ) (x : Entry) → slice_get xs i ≡ Some x → slice_get (xs ++ more) i ≡ Some x
front_get [] more i x h = absurd cc
front_get (y ∷ xs) more zero x h = h
front_get (y ∷ xs) more (suc i) x h = front_get xs more i x h

-- ---- how many numbers pass a test

abbrev count : (ℕ → Bool) → List ℕ → ℕ
count test xs = length (filter test xs)

-- one number more
abbrev one_more : Bool → ℕ → ℕ
one_more b n = cond b (suc n) n

count_one : (test : ℕ → Bool) (x : ℕ) (xs : List ℕ) → count test (x ∷ xs) ≡ one_more (test x) (count test xs)
count_one test x xs = go (test x)
  where
    go : (b : Bool) → length (cond b (x ∷ filter test xs) (filter test xs)) ≡ one_more b (count test xs)
    go true = refl
    go false = refl

more_swap : (b d : Bool) (n : ℕ) → one_more b (one_more d n) ≡ one_more d (one_more b n)
more_swap true true n = refl
more_swap true false n = refl
more_swap false true n = refl
more_swap false false n = refl

-- wherever it stands
count_push : (test : ℕ → Bool) (xs : List ℕ) (x : ℕ) → count test (xs ++ x ∷ []) ≡ one_more (test x) (count test xs)
count_push test [] x = count_one test x []
count_push test (y ∷ xs) x =
    count_one test y (xs ++ x ∷ []) ∙ ap (one_more (test y)) (count_push test xs x) ∙ more_swap (test y) (test x) (count test xs)
    ∙ ap (one_more (test x)) (sym (count_one test y xs))

count_from : (test : ℕ → Bool) (n : ℕ) (xs : List ℕ) → count test (from n xs) ≡ count (λ i. nat_le n i && test i) xs
count_from test n [] = refl
count_from test n (x ∷ xs) = go (nat_le n x) (count_from test n xs) ∙ sym (count_one (λ i. nat_le n i && test i) x xs)
  where
    go : (b : Bool) → count test (from n xs) ≡ count (λ i. nat_le n i && test i) xs →
        count test (cond b (x ∷ from n xs) (from n xs)) ≡ one_more (b && test x) (count (λ i. nat_le n i && test i) xs)
    go true rest = count_one test x (from n xs) ∙ ap (one_more (test x)) rest
    go false rest = rest

abbrev is_any : ℕ → Bool
is_any zero = false
is_any (suc n) = true

-- a number is held where any is it
held_count : (i : ℕ) (xs : List ℕ) → is_held i xs ≡ is_any (count (λ j. nat_eq j i) xs)
held_count i [] = refl
held_count i (x ∷ xs) = go (nat_eq x i) (held_count i xs) ∙ ap is_any (sym (count_one (λ j. nat_eq j i) x xs))
  where
    go : (b : Bool) → is_held i xs ≡ is_any (count (λ j. nat_eq j i) xs) → (b || is_held i xs) ≡ is_any (one_more b (count (λ j. nat_eq j i) xs))
    go true rest = refl
    go false rest = rest

none_left : (xs : List ℕ) → 0 ≡ count (λ i. true) xs → xs ≡ []
none_left [] e = refl
none_left (x ∷ xs) e = absurd (omega (arith, e))

-- ---- while the group grows

pub nothing_held : (journal : List Entry) (ran position : ℕ) (holdback : List ℕ) → holdback ≡ [] → HoldStands journal ran position holdback []
nothing_held journal ran position holdback none = record { numbers = λ test. ap (count test) (sym none); each = tt }

held_on : (journal more : List Entry) (ran later position : ℕ) → ran ≤ later → (o : HeldOrder) → IsHeld journal ran position o → IsHeld (journal ++ more) later position o
held_on journal more ran later position le o h = record {
  to_come = h.to_come;
  has_run = omega (arith, h.has_run, le);
  entry = h.entry;
  there = front_get journal more o.0 h.entry h.there;
  same = h.same;
}

hold_on : (journal more : List Entry) (ran later position : ℕ) (holdback : List ℕ) (orders : List HeldOrder) → ran ≤ later →
    HoldStands journal ran position holdback orders → HoldStands (journal ++ more) later position holdback orders
hold_on journal more ran later position holdback orders le s = record {
  numbers = s.numbers;
  each = all_so (IsHeld journal ran position) (IsHeld (journal ++ more) later position) (held_on journal more ran later position le) orders s.each;
}

pub hold_grown : (c later : Common) (position : ℕ) (holdback : List ℕ) (orders : List HeldOrder) →
    HoldStands c.journal c.ran position holdback orders → Grows c later → HoldStands later.journal later.ran position holdback orders
hold_grown c later position holdback orders s g =
    subst (λ (es : List Entry). HoldStands es later.ran position holdback orders) (sym g.journal)
    (hold_on c.journal g.more c.ran later.ran position holdback orders g.ran s)

pub hold_joined : (c : Common) (position : ℕ) (holdback : List ℕ) (orders : List HeldOrder) →
    HoldStands c.journal c.ran position holdback orders → (now : ℕ) (request : Request) →
    HoldStands (joined c now request).journal (joined c now request).ran position holdback orders
hold_joined c position holdback orders s now request =
    hold_on c.journal (record { at = now; request = request } ∷ []) c.ran c.ran position holdback orders (omega arith) s

held_ran : (journal : List Entry) (ran later position : ℕ) → ran ≤ later → (o : HeldOrder) → IsHeld journal ran position o → IsHeld journal later position o
held_ran journal ran later position le o h =
    record { to_come = h.to_come; has_run = omega (arith, h.has_run, le); entry = h.entry; there = h.there; same = h.same }

pub hold_ran : (c : Common) (position : ℕ) (holdback : List ℕ) (orders : List HeldOrder) →
    HoldStands c.journal c.ran position holdback orders → (n : ℕ) → HoldStands c.journal (with_ran n c).ran position holdback orders
hold_ran c position holdback orders s n = record {
  numbers = s.numbers;
  each = all_so (IsHeld c.journal c.ran position) (IsHeld c.journal (max c.ran n) position) (held_ran c.journal c.ran (max c.ran n) position (omega arith)) orders s.each;
}

-- ---- from a position on

numbers_from : (n : ℕ) (orders : List HeldOrder) → indices (orders_from n orders) ≡ from n (indices orders)
numbers_from n [] = refl
numbers_from n (o ∷ orders) = go (nat_le n o.0) (numbers_from n orders)
  where
    go : (b : Bool) → indices (orders_from n orders) ≡ from n (indices orders) →
        indices (cond b (o ∷ orders_from n orders) (orders_from n orders)) ≡ cond b (o.0 ∷ from n (indices orders)) (from n (indices orders))
    go true rest = ap (λ (is : List ℕ). o.0 ∷ is) rest
    go false rest = rest

each_from : (journal : List Entry) (ran position n : ℕ) (orders : List HeldOrder) → AllByRecursion (IsHeld journal ran position) orders →
    AllByRecursion (IsHeld journal ran n) (orders_from n orders)
each_from journal ran position n [] all = tt
each_from journal ran position n (o ∷ orders) all = go (nat_le n o.0) refl (each_from journal ran position n orders all.1)
  where
    go : (b : Bool) → nat_le n o.0 ≡ b → AllByRecursion (IsHeld journal ran n) (orders_from n orders) →
        AllByRecursion (IsHeld journal ran n) (cond b (o ∷ orders_from n orders) (orders_from n orders))
    go true t rest = (record { to_come = leb-true n o.0 t; has_run = all.0.has_run; entry = all.0.entry; there = all.0.there; same = all.0.same }, rest)
    go false t rest = rest

pub hold_dropped : (journal : List Entry) (ran position : ℕ) (holdback : List ℕ) (orders : List HeldOrder) →
    HoldStands journal ran position holdback orders → (n : ℕ) → HoldStands journal ran n (from n holdback) (orders_from n orders)
hold_dropped journal ran position holdback orders s n = record {
  numbers = λ test.
      ap (count test) (numbers_from n orders) ∙ count_from test n (indices orders)
      ∙ s.numbers (λ i. nat_le n i && test i) ∙ sym (count_from test n holdback);
  each = each_from journal ran position n orders s.each;
}

pub hold_nothing : (journal : List Entry) (ran position : ℕ) (holdback : List ℕ) (orders : List HeldOrder) →
    HoldStands journal ran position holdback orders → ran ≤ position → (holdback ≡ []) × (orders ≡ [])
hold_nothing journal ran position holdback [] s le = (none_left holdback (s.numbers (λ i. true)), refl)
hold_nothing journal ran position holdback (o ∷ orders) s le = absurd (omega (arith, s.each.0.to_come, s.each.0.has_run, le))

-- ---- what is held

-- a key that a number compares to is that number
at_is : (i j : ℕ) → is_at (nat_cmp i) j ≡ nat_eq j i
at_is i j = grind (arith, nat_tests)

holds_so : (i : ℕ) (orders : List HeldOrder) → holds i orders ≡ is_held i (indices orders)
holds_so i [] = refl
holds_so i (o ∷ orders) = go (is_at (nat_cmp i) o.0) (holds_so i orders) ∙ ap (λ (b : Bool). b || is_held i (indices orders)) (at_is i o.0)
  where
    go : (b : Bool) → holds i orders ≡ is_held i (indices orders) → is_some (cond b (Some o.1) (request_of i orders)) ≡ (b || is_held i (indices orders))
    go true rest = refl
    go false rest = rest

pub hold_tells : (journal : List Entry) (ran position : ℕ) (holdback : List ℕ) (orders : List HeldOrder) →
    HoldStands journal ran position holdback orders → (i : ℕ) → is_held i holdback ≡ holds i orders
hold_tells journal ran position holdback orders s i =
    held_count i holdback ∙ ap is_any (sym (s.numbers (λ j. nat_eq j i))) ∙ sym (held_count i (indices orders)) ∙ sym (holds_so i orders)

-- what holds of each holds of the one that is found
found_all : (P : HeldOrder → Type 0) (i : ℕ) (orders : List HeldOrder) (request : Request) → AllByRecursion P orders → request_of i orders ≡ Some request → P (i, request)
found_all P i [] request all there = absurd cc
found_all P i (o ∷ orders) request all there = go (is_at (nat_cmp i) o.0) refl there (found_all P i orders request all.1)
  where
    some_is : (x y : Request) → Some x ≡ Some y → x ≡ y
    some_is x y e = cc

    go : (b : Bool) → is_at (nat_cmp i) o.0 ≡ b → cond b (Some o.1) (request_of i orders) ≡ Some request → (request_of i orders ≡ Some request → P (i, request)) → P (i, request)
    go true at is rest =
        subst (λ (q : Request). P (i, q)) (some_is o.1 request is) (subst (λ (k : ℕ). P (k, o.1)) (eqb-true o.0 i (sym (at_is i o.0) ∙ at)) all.0)
    go false at is rest = rest is

pub held_ordered : (c : Common) (position : ℕ) (holdback : List ℕ) (orders : List HeldOrder) →
    HoldStands c.journal c.ran position holdback orders → (i : ℕ) (request : Request) → request_of i orders ≡ Some request →
    IsOrdered c i request × (is_held i holdback ≡ true)
held_ordered c position holdback orders s i request there =
    let h = found_all (IsHeld c.journal c.ran position) i orders request s.each there in
    (record { ran = h.has_run; entry = h.entry; there = h.there; same = h.same }, hold_tells c.journal c.ran position holdback orders s i ∙ ap is_some there)

-- ---- one more

-- of an entry of which none is held
module _ (i : ℕ) (request : Request) where
  not_at : (o : HeldOrder) (orders : List HeldOrder) → holds i (o ∷ orders) ≡ false → (is_at (nat_cmp i) o.0 ≡ false) × (holds i orders ≡ false)
  not_at o orders free = go (is_at (nat_cmp i) o.0) free
    where
      go : (b : Bool) → is_some (cond b (Some o.1) (request_of i orders)) ≡ false → (b ≡ false) × (holds i orders ≡ false)
      go true e = absurd cc
      go false e = (refl, e)

  numbers_more : (test : ℕ → Bool) (orders : List HeldOrder) → holds i orders ≡ false →
      count test (indices (insert_entry nat_cmp orders i request)) ≡ one_more (test i) (count test (indices orders))
  numbers_more test [] free = count_one test i []
  numbers_more test (o ∷ orders) free = go (nat_cmp i o.0) refl (numbers_more test orders (not_at o orders free).1)
    where
      go : (r : Ordering) → nat_cmp i o.0 ≡ r → count test (indices (insert_entry nat_cmp orders i request)) ≡ one_more (test i) (count test (indices orders)) →
          count test (indices (match_ordering r ((i, request) ∷ o ∷ orders) ((o.0, request) ∷ orders) (o ∷ insert_entry nat_cmp orders i request)))
          ≡ one_more (test i) (count test (o.0 ∷ indices orders))
      go Less is rest = count_one test i (o.0 ∷ indices orders)
      go Equal is rest = let no : true ≡ false = sym (ap is_eq is) ∙ (not_at o orders free).0 in absurd cc
      go Greater is rest =
          count_one test o.0 (indices (insert_entry nat_cmp orders i request)) ∙ ap (one_more (test o.0)) rest
          ∙ more_swap (test o.0) (test i) (count test (indices orders)) ∙ ap (one_more (test i)) (sym (count_one test o.0 (indices orders)))

  each_more : (P : HeldOrder → Type 0) (orders : List HeldOrder) → holds i orders ≡ false → AllByRecursion P orders → P (i, request) →
      AllByRecursion P (insert_entry nat_cmp orders i request)
  each_more P [] free all p = (p, tt)
  each_more P (o ∷ orders) free all p = go (nat_cmp i o.0) refl (each_more P orders (not_at o orders free).1 all.1 p)
    where
      go : (r : Ordering) → nat_cmp i o.0 ≡ r → AllByRecursion P (insert_entry nat_cmp orders i request) →
          AllByRecursion P (match_ordering r ((i, request) ∷ o ∷ orders) ((o.0, request) ∷ orders) (o ∷ insert_entry nat_cmp orders i request))
      go Less is rest = (p, all)
      go Equal is rest = let no : true ≡ false = sym (ap is_eq is) ∙ (not_at o orders free).0 in absurd cc
      go Greater is rest = (all.0, rest)

pub order_held : (c : Common) (position : ℕ) (holdback : List ℕ) (orders : List HeldOrder) →
    HoldStands c.journal c.ran position holdback orders → (i : ℕ) (request : Request) → IsOrdered c i request → position ≤ i →
    HoldStands c.journal c.ran position (with_number i holdback) (with_order i request orders)
order_held c position holdback orders s i request is le = go (holds i orders) refl (is_held i holdback) (hold_tells c.journal c.ran position holdback orders s i)
  where
    go : (b : Bool) → holds i orders ≡ b → (d : Bool) → d ≡ holds i orders →
        HoldStands c.journal c.ran position (cond d holdback (holdback ++ i ∷ [])) (cond b orders (insert_entry nat_cmp orders i request))
    go true there true e = s
    go false free false e = record {
      numbers = λ test. numbers_more i request test orders free ∙ ap (one_more (test i)) (s.numbers test) ∙ sym (count_push test holdback i);
      each = each_more i request (IsHeld c.journal c.ran position) orders free s.each
          (record { to_come = le; has_run = is.ran; entry = is.entry; there = is.there; same = is.same });
    }
    go true there false e = absurd cc
    go false free true e = absurd cc

-- ---- it is run

pub order_fits : (machines : ℕ → Machine) (c : Common) → IsSoundCommon (machines c.kind) c → (i : ℕ) (request : Request) → IsOrdered c i request →
    Fits (machines c.kind) request × (i < JOURNAL_LIMIT)
order_fits machines c sound i request is = (
  subst (Fits (machines c.kind)) is.same (all_get (λ (e : Entry). Fits (machines c.kind) e.request) c.journal i is.entry sound.journal.fit is.there),
  omega (arith, slice_get_within c.journal i is.entry is.there, sound.journal.few),
)

pub order_runs : (machines : ℕ → Machine) (c : Common) (replica : ReplicaPicture) (place : Place) →
    ReplicaStands machines c replica place → place.loaded ≡ true → (request : Request) → IsOrdered c place.position request →
    ReplicaStands machines c (one_further (machines replica.kind) request replica) (moved place)
order_runs machines c replica place stands loaded request is =
    let m = machines c.kind in
    let kind = ap (λ (k : ℕ). ((machines k).step replica.state request).0) stands.kind in
    let state = ap (λ (s : List ℕ). (m.step s request).0) (stands.state loaded) in
    let entry = ap (λ (q : Request). (m.step (state_at m c place.position) q).0) (sym is.same) in
    record {
      kind = stands.kind;
      loaded = stands.loaded;
      position = ap (λ (n : ℕ). n + 1) stands.position;
      base = stands.base;
      state = λ _. kind ∙ state ∙ entry ∙ sym (state_next m c.opening c.journal place.position is.entry is.there);
      copied = stands.copied;
      order = omega (arith, stands.order);
      ran = omega (arith, is.ran);
    }
