-- How many hosts a change tells.
use Rattle.std.proofs.Common.{◌≡◌, ℕ, suc, ◌+◌, ◌≤◌, ◌||◌, Bool, true, false, cond, List, [], ◌∷◌, ◌++◌, length, length-append, refl, sym, ap, ◌∙◌, if◌then◌else◌, eqb-true, leb-false, arith}
use Rattle.std.specs.Prelude.{nat_eq, nat_le, not, None}
use Rattle.std.specs.List.{AllByRecursion, filter, fold}
use Rattle.ft_base.specs.Members.{is_member, AreDifferent}
use Rattle.ft_base.specs.declared.views.TheConstants.{MEMBER_LIMIT}
use Rattle.ft_base.specs.declared.views.Style.{Style}
use Rattle.ft_base.specs.declared.views.View.{View}
use Rattle.group_model.specs.declared.changes.Change.{Change}
use Rattle.group_model.specs.Changes.{change_rows, first_fault, host_of_change, spares_of, joins, leaves, before_spares, members_then}
use Rattle.group_model.specs.Spares.{with_spare}
use Rattle.group_model.specs.Views.{without}
use Rattle.group_model.proofs.Choosing.{either_so}
use Rattle.group_model.proofs.Viewing.{MayChange, may_change, all_without, fewer_without, if_not, nat_same, or_parts}

module _ (old : List ℕ) where
  -- those that aren't among the old
  abbrev news : List ℕ → List ℕ
  news members = filter (λ m. not (is_member m old)) members

  -- ---- the old are none of them

  more_in : (x : ℕ) (ys xs : List ℕ) → AllByRecursion (λ m. is_member m ys ≡ true) xs → AllByRecursion (λ m. is_member m (x ∷ ys) ≡ true) xs
  more_in x ys [] all = tt
  more_in x ys (m ∷ xs) all = (or_true (nat_eq x m) (is_member m ys) all.0, more_in x ys xs all.1)
    where
      or_true : (a b : Bool) → b ≡ true → (a || b) ≡ true
      or_true true b e = refl
      or_true false b e = e

  self_in : (xs : List ℕ) → AllByRecursion (λ m. is_member m xs ≡ true) xs
  self_in [] = tt
  self_in (x ∷ xs) = (ap (λ (b : Bool). b || is_member x xs) (nat_same x), more_in x xs xs (self_in xs))

  none_new : (xs : List ℕ) → AllByRecursion (λ m. is_member m old ≡ true) xs → length (news xs) ≡ 0
  none_new [] all = refl
  none_new (x ∷ xs) all = ap (λ (b : Bool). length (cond (not b) (x ∷ news xs) (news xs))) all.0 ∙ none_new xs all.1

  -- ---- each that comes is one more

  one_new : (xs : List ℕ) (x : ℕ) → length (news (xs ++ x ∷ [])) ≤ length (news xs) + 1
  one_new [] x = either_so (λ (l : List ℕ). length l ≤ 1) (not (is_member x old)) (x ∷ []) [] (λ new. omega arith) (λ known. omega arith)
  one_new (y ∷ xs) x = go (not (is_member y old)) (one_new xs x)
    where
      go : (b : Bool) → length (news (xs ++ x ∷ [])) ≤ length (news xs) + 1 →
          length (cond b (y ∷ news (xs ++ x ∷ [])) (news (xs ++ x ∷ []))) ≤ length (cond b (y ∷ news xs) (news xs)) + 1
      go true le = omega (arith, le)
      go false le = le

  -- no more are new than came, and those that came found room
  record Few (from now : List ℕ) : Type 0 where
    come : length (news now) + length from ≤ length (news from) + length now
    room : length now ≤ MEMBER_LIMIT

  spare_few : (from members : List ℕ) (spare : ℕ) → Few from members → Few from (with_spare members spare)
  spare_few from members spare few =
      either_so (Few from) (is_member spare members || nat_le MEMBER_LIMIT (length members)) members (members ++ spare ∷ []) (λ stays. few)
      (λ comes. let both = or_parts (is_member spare members) (nat_le MEMBER_LIMIT (length members)) comes in record {
        come = omega (arith, few.come, one_new members spare, length-append members (spare ∷ []));
        room = omega (arith, leb-false MEMBER_LIMIT (length members) both.1, length-append members (spare ∷ []));
      })

  spares_few : (from spares members : List ℕ) → Few from members → Few from (fold with_spare members spares)
  spares_few from [] members few = few
  spares_few from (spare ∷ spares) members few = spares_few from spares (with_spare members spare) (spare_few from members spare few)

  -- ---- one at most leaves

  without_none : (host : ℕ) (xs : List ℕ) → is_member host xs ≡ false → length (without host xs) ≡ length xs
  without_none host [] e = refl
  without_none host (x ∷ xs) e =
      let both = or_parts (nat_eq x host) (is_member host xs) e in
      ap (λ (b : Bool). length (cond (not b) (x ∷ without host xs) (without host xs))) both.0 ∙ ap suc (without_none host xs both.1)

  one_leaves : (host : ℕ) (xs : List ℕ) → AreDifferent xs → length xs ≤ length (without host xs) + 1
  one_leaves host [] all = omega arith
  one_leaves host (x ∷ xs) all = go (one_leaves host xs all.1) (nat_eq x host) refl
    where
      go : length xs ≤ length (without host xs) + 1 → (b : Bool) → nat_eq x host ≡ b → suc (length xs) ≤ length (cond (not b) (x ∷ without host xs) (without host xs)) + 1
      go later true same =
          let gone : is_member host xs ≡ false = ap (λ (n : ℕ). is_member n xs) (sym (eqb-true x host same)) ∙ all.0 in
          omega (arith, without_none host xs gone)
      go later false other = omega (arith, later)

-- ---- a change

-- the members before the spares come: what is new among them, what has left, and their room
record IsFirst (old members : List ℕ) : Type 0 where
  left : length old + length (news old members) ≤ length members + 1
  room : length members ≤ MEMBER_LIMIT

first_few : (style : Style) (view : View) (change : Change) → MayChange style view change → AreDifferent view.members → length view.members ≤ MEMBER_LIMIT →
    IsFirst view.members (before_spares change view.members)
first_few style view change may different few =
    let old = view.members in
    let host = (host_of_change change).0 in
    let known = none_new old old (self_in old old) in
    either_so (IsFirst old) (joins change) (old ++ host ∷ []) (if leaves change then without host old else old)
    (λ joining. record {
      left = omega (arith, known, one_new old old host, length-append old (host ∷ []));
      room = omega (arith, length-append old (host ∷ []), leb-false MEMBER_LIMIT (length old) (if_not (joins change) (nat_le MEMBER_LIMIT (length old)) joining may.room));
    })
    (λ staying. either_so (IsFirst old) (leaves change) (without host old) old
    (λ leaving. record {
      left = omega (arith, one_leaves old host old different, none_new old (without host old) (all_without (λ m. is_member m old ≡ true) host old (self_in old old)));
      room = omega (arith, fewer_without host old, few);
    })
    (λ same. record { left = omega (arith, known); room = few }))

-- the old members, and those that join
pub few_told : (style : Style) (view : View) (change : Change) → AreDifferent view.members → length view.members ≤ MEMBER_LIMIT →
    first_fault (change_rows style view change) ≡ None →
    length view.members + length (news view.members (members_then change view.members)) ≤ MEMBER_LIMIT + 1
few_told style view change different few none =
    let old = view.members in
    let first = before_spares change old in
    let is = first_few style view change (may_change style view change none) different few in
    let come = spares_few old first (without (host_of_change change).0 (spares_of change)) first (record { come = omega arith; room = is.room }) in
    omega (arith, is.left, come.come, come.room)
