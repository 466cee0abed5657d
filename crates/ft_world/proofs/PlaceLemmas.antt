-- Elements of lists by their places, messages by their numbers, and groups by what they are named.
use Rattle.std.proofs.Common.{◌≡◌, ℕ, suc, ◌+◌, arith, Bool, true, false, List, [], ◌∷◌, Option, Some, None, refl, sym, ap, subst}
use Rattle.std.proofs.lemmas.Bool.{eqb-false}
use Rattle.std.specs.Prelude.{◌==◌, ◌-◌, if◌then◌else◌, option_map, slice_get, IfSome}
use Rattle.script_groups.specs.Groups.{ScriptGroup, Placed, found, group_named, group_numbered, placed}
use Rattle.script_groups.specs.Lists.{same_some}
use Rattle.script_world.specs.World.{World, is_deleted, message_numbered}
use Rattle.script_world.specs.declared.messages.Message.{Message}
use Rattle.world_turns.specs.Naming.{Naming, NeverMade, Deleted, There, group_called, group_with_number, naming_of, there_only}

-- it stands at its place
abbrev pub IsOneOf : {A : Type 0} → List A → Option (Placed A) → Type 0
IsOneOf xs None = Unit {0}
IsOneOf {A} xs (Some p) = slice_get xs p.place ≡ Some p.value

pub found_at : {A : Type 0} (test : A → Bool) (i : ℕ) (xs : List A) (p : Placed A) → found test i xs ≡ Some p →
    (k : ℕ) × (p.place ≡ i + k) × (slice_get xs k ≡ Some p.value)
found_at test i [] p e = absurd cc
found_at {A = A} test i (x ∷ xs) p e = go (found_at test (suc i) xs p) (test x) e
  where
    go : (found test (suc i) xs ≡ Some p → (k : ℕ) × (p.place ≡ suc i + k) × (slice_get xs k ≡ Some p.value)) → (b : Bool) → (if b then Some (placed i x) else found test (suc i) xs) ≡ Some p → (k : ℕ) × (p.place ≡ i + k) × (slice_get (x ∷ xs) k ≡ Some p.value)
    go behind true f =
        let is : placed i x ≡ p = same_some (placed i x) p f in
        let place : p.place ≡ i = ap (λ (q : Placed A). q.place) (sym is) in
        (0, omega (arith, place), ap (λ (q : Placed A). Some q.value) is)
    go behind false f = let at = behind f in (suc at.0, omega (arith, at.1), at.2)

pub found_one : {A : Type 0} (test : A → Bool) (xs : List A) → IsOneOf xs (found test 0 xs)
found_one {A = A} test xs = go (found test 0 xs) refl
  where
    go : (o : Option (Placed A)) → found test 0 xs ≡ o → IsOneOf xs o
    go None e = tt
    go (Some p) e =
        let at = found_at test 0 xs p e in
        subst (λ (k : ℕ). slice_get xs k ≡ Some p.value) (let same : at.0 ≡ p.place = omega (arith, at.1) in same) at.2

pub numbered_one : (gs : List ScriptGroup) (number : ℕ) → IsOneOf gs (group_numbered gs number)
numbered_one gs number = choose (number - 1) (number == 0) (slice_get gs (number - 1)) refl
  where
    choose : (i : ℕ) (b : Bool) (o : Option ScriptGroup) → slice_get gs i ≡ o → IsOneOf gs (if b then None else option_map (placed i) o)
    choose i true o at = tt
    choose i false None at = tt
    choose i false (Some g) at = at

-- a group that is there, or was deleted, stands at its place
abbrev pub IsOneNamed : List ScriptGroup → Naming → Type 0
IsOneNamed gs NeverMade = Unit {0}
IsOneNamed gs (Deleted p) = slice_get gs p.place ≡ Some p.value
IsOneNamed gs (There p) = slice_get gs p.place ≡ Some p.value

pub naming_one : (w : World) (o : Option (Placed ScriptGroup)) → IsOneOf w.groups o → IsOneNamed w.groups (naming_of w o)
unfolding naming_of
naming_one w None is = tt
naming_one w (Some p) is = go (is_deleted w p.value)
  where
    go : (b : Bool) → IsOneNamed w.groups (if b then Deleted p else There p)
    go true = is
    go false = is

pub called_one : (w : World) (name : List ℕ) → IsOneNamed w.groups (group_called w name)
called_one w name = naming_one w (group_named w.groups name) (found_one _ w.groups)

pub with_number_one : (w : World) (number : ℕ) → IsOneNamed w.groups (group_with_number w number)
with_number_one w number = naming_one w (group_numbered w.groups number) (numbered_one w.groups number)

-- by its number: that is one more than its place
abbrev pub IsAtNumber : ℕ → Naming → Type 0
IsAtNumber number NeverMade = Unit {0}
IsAtNumber number (Deleted p) = p.place + 1 ≡ number
IsAtNumber number (There p) = p.place + 1 ≡ number

pub number_place : (w : World) (number : ℕ) → IsAtNumber number (group_with_number w number)
unfolding naming_of
number_place w number = choose (number == 0) refl (slice_get w.groups (number - 1))
  where
    go : (g : ScriptGroup) (b : Bool) → number - 1 + 1 ≡ number → IsAtNumber number (if b then Deleted (placed (number - 1) g) else There (placed (number - 1) g))
    go g true is = is
    go g false is = is

    choose : (b : Bool) → (number == 0) ≡ b → (o : Option ScriptGroup) → IsAtNumber number (naming_of w (if b then None else option_map (placed (number - 1)) o))
    choose true e o = tt
    choose false e None = tt
    choose false e (Some g) = let some = eqb-false number 0 e in go g (is_deleted w g) (omega (arith, some))

-- a message stands at its place
pub message_one : (w : World) (k : ℕ) → IfSome (message_numbered w k) (λ (m : Message). slice_get w.messages (k - 1) ≡ Some m)
message_one w k = choose (k == 0) (slice_get w.messages (k - 1)) refl
  where
    choose : (b : Bool) (o : Option Message) → slice_get w.messages (k - 1) ≡ o → IfSome (if b then None else o) (λ (m : Message). slice_get w.messages (k - 1) ≡ Some m)
    choose true o at = tt
    choose false None at = tt
    choose false (Some m) at = at

pub there_one : (gs : List ScriptGroup) (n : Naming) → IsOneNamed gs n → IsOneOf gs (there_only n)
there_one gs NeverMade is = tt
there_one gs (Deleted p) is = tt
there_one gs (There p) is = is
