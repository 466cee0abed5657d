-- The first who listens by a name, by the first place of the name.
use Rattle.std.proofs.Common.{◌≡◌, ◌+◌, ◌∷◌, ◌++◌, [], ℕ, zero, suc, Bool, true, false, List, Option, Some, None, cond, length, refl, sym, ap, ◌∙◌, arith}
use Rattle.std.specs.Prelude.{◌&&◌, ◌||◌, ◌<◌, IfSome, if◌then◌else◌, is_some, slice_get}
use Rattle.std.specs.List.{list_any, position, position_from}
use Rattle.std.specs.Str.{bytes_eq}
use Rattle.std.proofs.lemmas.Iterator.Adapters.{position_from-zero}
use Rattle.fault_notifier.specs.declared.subscribers.Sub.{Sub}
use Rattle.name_places.specs.Places.{first_place}
use Rattle.script_subscribers.specs.Filing.{Filed, IsReadyFor, names_of, ready_for}
use Rattle.script_subscribers.specs.Firsts.{has, change_first, without_sub}
use Rattle.script_subscribers.specs.declared.named.Named.{Named}

abbrev is : List ℕ → List ℕ → Bool
is name n = bytes_eq n name

any_from : (name : List ℕ) (i : ℕ) (zs : List Named) → is_some (position_from (is name) i (names_of zs)) ≡ list_any (λ (z : Named). bytes_eq z.name name) zs
any_from name i [] = refl
any_from name i (z ∷ zs) = by (bytes_eq z.name name) (any_from name (i + 1) zs)
  where
    by : (b : Bool) → is_some (position_from (is name) (i + 1) (names_of zs)) ≡ list_any (λ (y : Named). bytes_eq y.name name) zs
        → is_some (cond b (Some i) (position_from (is name) (i + 1) (names_of zs))) ≡ (b || list_any (λ (y : Named). bytes_eq y.name name) zs)
    by true rest = refl
    by false rest = rest

-- a name has a place where somebody has it
pub any_placed : (name : List ℕ) (zs : List Named) → is_some (first_place name (names_of zs)) ≡ list_any (λ (z : Named). bytes_eq z.name name) zs
any_placed name zs = any_from name 0 zs

none_from : (name : List ℕ) (i : ℕ) (zs : List Named) → position_from (is name) i (names_of zs) ≡ None → position_from (has name) i zs ≡ None
none_from name i [] e = refl
none_from name i (z ∷ zs) e = by (is_some z.sub) (bytes_eq z.name name) (none_from name (i + 1) zs) e
  where
    by : (a b : Bool) → (position_from (is name) (i + 1) (names_of zs) ≡ None → position_from (has name) (i + 1) zs ≡ None)
        → cond b (Some i) (position_from (is name) (i + 1) (names_of zs)) ≡ None → cond (a && b) (Some i) (position_from (has name) (i + 1) zs) ≡ None
    by a true rest f = absurd cc
    by true false rest f = rest f
    by false false rest f = rest f

-- by a name that stands nowhere nobody listens
pub nowhere : (name : List ℕ) (zs : List Named) → first_place name (names_of zs) ≡ None → position (has name) zs ≡ None
nowhere name zs e = position_from-zero (has name) zs ∙ none_from name 0 zs e

within_from : (name : List ℕ) (i p : ℕ) (zs : List Named) → position_from (is name) i (names_of zs) ≡ Some p → p < i + length zs
within_from name i p [] e = absurd cc
within_from name i p (z ∷ zs) e = by (bytes_eq z.name name) (within_from name (i + 1) p zs) e
  where
    by : (b : Bool) → (position_from (is name) (i + 1) (names_of zs) ≡ Some p → p < i + 1 + length zs)
        → cond b (Some i) (position_from (is name) (i + 1) (names_of zs)) ≡ Some p → p < i + length (z ∷ zs)
    by true rest f = let here : i ≡ p = cc in omega (arith, here)
    by false rest f = let behind : p < i + 1 + length zs = rest f in omega (arith, behind)

pub within : (name : List ℕ) (p : ℕ) (zs : List Named) → first_place name (names_of zs) ≡ Some p → p < length zs
within name p zs e = let behind : p < 0 + length zs = within_from name 0 p zs e in omega (arith, behind)

-- the first place of a name is one of the list
pub all_within : (name : List ℕ) (zs : List Named) (o : Option ℕ) → o ≡ first_place name (names_of zs) → IfSome o (λ place. place < length zs)
all_within name zs None e = tt
all_within name zs (Some p) e = within name p zs (sym e)

here_from : (name : List ℕ) (i p : ℕ) (zs : List Named) (z : Named) → position_from (is name) i (names_of zs) ≡ Some (i + p)
    → slice_get zs p ≡ Some z → has name z ≡ true → position_from (has name) i zs ≡ Some (i + p)
here_from name i p [] z e at listens = absurd cc
here_from name i zero (y ∷ zs) z e at listens =
    by (has name y) (let same : y ≡ z = cc in ap (has name) same ∙ listens)
  where
    by : (b : Bool) → b ≡ true → cond b (Some i) (position_from (has name) (i + 1) zs) ≡ Some (i + 0)
    by true t = ap Some (omega arith)
    by false t = absurd cc
here_from name i (suc p) (y ∷ zs) z e at listens =
    by (is_some y.sub) (bytes_eq y.name name) (λ f. here_from name (i + 1) p zs z f at listens) e
  where
    next : i + suc p ≡ i + 1 + p
    next = omega arith

    by : (a b : Bool) → (position_from (is name) (i + 1) (names_of zs) ≡ Some (i + 1 + p) → position_from (has name) (i + 1) zs ≡ Some (i + 1 + p))
        → cond b (Some i) (position_from (is name) (i + 1) (names_of zs)) ≡ Some (i + suc p)
        → cond (a && b) (Some i) (position_from (has name) (i + 1) zs) ≡ Some (i + suc p)
    by a true rest f = let here : i ≡ i + suc p = cc in absurd (omega (arith, here))
    by true false rest f = rest (f ∙ ap Some next) ∙ ap Some (sym next)
    by false false rest f = rest (f ∙ ap Some next) ∙ ap Some (sym next)

-- who stands at the first place of a name and listens is the first who listens by it
pub here : (name : List ℕ) (p : ℕ) (zs : List Named) (z : Named) → first_place name (names_of zs) ≡ Some p
    → slice_get zs p ≡ Some z → has name z ≡ true → position (has name) zs ≡ Some p
here name p zs z e at listens =
    let from : 0 + p ≡ p = omega arith in
    position_from-zero (has name) zs ∙ here_from name 0 p zs z (e ∙ ap Some (sym from)) at listens ∙ ap Some from

-- names stay where somebody leaves
pub names_stay : (name : List ℕ) (zs : List Named) → names_of (change_first without_sub name zs) ≡ names_of zs
unfolding change_first
names_stay name [] = refl
names_stay name (z ∷ zs) = by (has name z) (names_stay name zs)
  where
    by : (b : Bool) → names_of (change_first without_sub name zs) ≡ names_of zs
        → names_of (if b then without_sub z ∷ zs else z ∷ change_first without_sub name zs) ≡ names_of (z ∷ zs)
    by true rest = refl
    by false rest = ap (λ (ns : List (List ℕ)). z.name ∷ ns) rest

-- one who was made room for is behind all others
pub added : (f g h : Filed) (name : List ℕ) (sub : Sub) → g ≡ ready_for f name
    → ((n : List ℕ) → IsReadyFor g n → h.all ≡ g.all ++ record { name = n; sub = Some sub } ∷ [])
    → h.all ≡ f.all ++ record { name = name; sub = Some sub } ∷ []
added f g h name sub ready is =
    is name (ap (λ (r : Filed). r.next) ready) ∙ ap (λ (r : Filed). r.all ++ record { name = name; sub = Some sub } ∷ []) ready
