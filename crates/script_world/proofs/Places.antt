-- Places by name and by number.
use Rattle.std.proofs.Common.{◌≡◌, ℕ, zero, suc, ◌+◌, ◌-◌, ◌<◌, ◌≤◌, arith, Bool, true, false, cond, Option, None, List, [], ◌∷◌, length, Some, refl, sym, ap, subst, ◌∙◌, add-one}
use Rattle.std.specs.Prelude.{◌==◌, ◌||◌, is_some, map, option_map, slice_get}
use Rattle.std.specs.List.{list_any, position_from}
use Rattle.std.specs.Str.{bytes_eq}
use Rattle.std.proofs.lemmas.Bool.{ne_eqb}
use Rattle.std.proofs.lemmas.Option.{slice_get_past}
use Rattle.script_groups.specs.Groups.{ScriptGroup, found, group_numbered, placed}
use Rattle.script_groups.specs.Lists.{some_at}
use Rattle.script_world.specs.Worlds.{IsPlace}

-- the first place of a name among the names of what stands in a list, from a place on
placed_from : {A : Type 0} (name_of : A → List ℕ) (name : List ℕ) (all : List A) (i : ℕ) (xs : List A) → ((k : ℕ) → slice_get all (i + k) ≡ slice_get xs k) →
    IsPlace (found (λ x. bytes_eq (name_of x) name) i xs) all (position_from (λ n. bytes_eq n name) i (map name_of xs))
placed_from name_of name all i [] same = refl
placed_from {A} name_of name all i (x ∷ xs) same = by (bytes_eq (name_of x) name) (placed_from name_of name all (i + 1) xs behind)
  where
    first : slice_get all i ≡ Some x
    first = ap (slice_get all) (omega arith) ∙ same 0

    behind : (k : ℕ) → slice_get all (i + 1 + k) ≡ slice_get xs k
    behind k = ap (slice_get all) (omega arith) ∙ same (suc k)

    left : Option ℕ
    left = position_from (λ n. bytes_eq n name) (i + 1) (map name_of xs)

    by : (b : Bool) → IsPlace (found (λ y. bytes_eq (name_of y) name) (i + 1) xs) all left →
        IsPlace (cond b (Some (placed i x)) (found (λ y. bytes_eq (name_of y) name) (suc i) xs)) all (cond b (Some i) left)
    by true rest = (x, refl, first)
    by false rest = subst (λ (n : ℕ). IsPlace (found (λ y. bytes_eq (name_of y) name) n xs) all left) (add-one i) rest

pub placed_by_name : {A : Type 0} (name_of : A → List ℕ) (name : List ℕ) (xs : List A) →
    IsPlace (found (λ x. bytes_eq (name_of x) name) 0 xs) xs (position_from (λ n. bytes_eq n name) 0 (map name_of xs))
placed_by_name name_of name xs = placed_from name_of name xs 0 xs (λ k. ap (slice_get xs) (omega arith))

found_any : {A : Type 0} (test : A → Bool) (i : ℕ) (xs : List A) → is_some (found test i xs) ≡ list_any test xs
found_any test i [] = refl
found_any test i (x ∷ xs) = by (test x) (found_any test (suc i) xs)
  where
    by : (b : Bool) → is_some (found test (suc i) xs) ≡ list_any test xs → is_some (cond b (Some (placed i x)) (found test (suc i) xs)) ≡ (b || list_any test xs)
    by true rest = refl
    by false rest = rest

-- a place is found where a test holds of any
pub placed_any : {A : Type 0} (test : A → Bool) (xs : List A) (place : Option ℕ) → IsPlace (found test 0 xs) xs place → is_some place ≡ list_any test xs
placed_any test xs None is = sym (ap is_some is) ∙ found_any test 0 xs
placed_any test xs (Some i) is = sym (ap is_some is.1) ∙ found_any test 0 xs

-- groups by number, from 1
pub numbered_at : (gs : List ScriptGroup) (number place : ℕ) (o : Option ScriptGroup) → number ≡ place + 1 → slice_get gs place ≡ o →
    group_numbered gs number ≡ option_map (placed place) o
numbered_at gs number place o is at =
    let less : number - 1 ≡ place = omega arith in
    let filled : (number == 0) ≡ false = ne_eqb number 0 (λ zero_is. omega arith) in
    ap (λ (b : Bool). cond b None (option_map (placed (number - 1)) (slice_get gs (number - 1)))) filled
    ∙ ap (λ (n : ℕ). option_map (placed n) (slice_get gs n)) less ∙ ap (option_map (placed place)) at

pub numbered_here : (gs : List ScriptGroup) (number place : ℕ) → number ≡ place + 1 → place < length gs → IsPlace (group_numbered gs number) gs (Some place)
numbered_here gs number place is h =
    let at : (g : ScriptGroup) × (slice_get gs place ≡ Some g) = some_at gs place h in
    (at.0, numbered_at gs number place (Some at.0) is at.1, at.1)

pub numbered_none : (gs : List ScriptGroup) (number place : ℕ) → number ≡ place + 1 → length gs ≤ place → group_numbered gs number ≡ None
numbered_none gs number place is h = numbered_at gs number place None is (slice_get_past gs place h)

pub less_one : (n : ℕ) → (n ≡ 0 → ⊥) → n ≡ (n - 1) + 1
less_one zero f = absurd (f refl)
less_one (suc n) f = omega arith
