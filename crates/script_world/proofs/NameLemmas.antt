-- What is found by its name stays where it is while names stay.
use Rattle.std.proofs.Common.{◌≡◌, ℕ, zero, suc, inl, inr, List, [], ◌∷◌, Some, refl, sym, ap, ◌∙◌}
use Rattle.std.specs.Prelude.{map, slice_get, slice_set}
use Rattle.group_model.specs.declared.events.Event.{Event}
use Rattle.group_model.specs.declared.events.GroupAnswer.{GroupAnswer}
use Rattle.group_model.specs.declared.events.GroupAnswer.TheVariants as answers
use Rattle.name_places.specs.Places.{Places, ArePlaces, first_place}
use Rattle.script_groups.specs.Acting.{IsActed}
use Rattle.script_groups.specs.Groups.{ScriptGroup, all_acted}
use Rattle.script_world.specs.Names.{group_names}
use Rattle.script_world.specs.Worlds.{AreOrHave, IsOrHas}
use Rattle.script_groups.specs.Lists.{same_some}

-- places stay those of the names where these are the same
pub places_stay : (p : Places) (names later : List (List ℕ)) → ArePlaces p names → later ≡ names → ArePlaces p later
places_stay p names later are same = λ name. are name ∙ ap (first_place name) (sym same)

-- names are the same where one of those that have them changes and keeps its own
pub names_stay : {A : Type 0} (name_of : A → List ℕ) (xs : List A) (i : ℕ) (x later : A) → slice_get xs i ≡ Some x → name_of later ≡ name_of x →
    map name_of (slice_set xs i later) ≡ map name_of xs
names_stay name_of [] i x later at same = refl
names_stay name_of (y ∷ xs) zero x later at same = ap (λ (n : List ℕ). n ∷ map name_of xs) (same ∙ ap name_of (sym (same_some y x at)))
names_stay name_of (y ∷ xs) (suc i) x later at same = ap (λ (ns : List (List ℕ)). name_of y ∷ ns) (names_stay name_of xs i x later at same)

-- ---- a group keeps its name through whatever comes to it

pub all_keep : (e : Event) (gs : List ScriptGroup) → group_names (all_acted e gs) ≡ group_names gs
all_keep e [] = refl
all_keep e (g ∷ gs) = ap (λ (ns : List (List ℕ)). g.name ∷ ns) (all_keep e gs)

one_keeps : (g h : ScriptGroup) (e : Event) → IsOrHas g e h → h.name ≡ g.name
one_keeps g h e (inl is) = ap (λ (x : ScriptGroup). x.name) is
one_keeps g h e (inr (inl is)) = ap (λ (x : ScriptGroup). x.name) is
one_keeps g h e (inr (inr is)) = ap (λ (x : ScriptGroup). x.name) is

pub partly_keep : (gs hs : List ScriptGroup) (e : Event) → AreOrHave gs e hs → group_names hs ≡ group_names gs
partly_keep [] [] e are = refl
partly_keep [] (h ∷ hs) e are = absurd are
partly_keep (g ∷ gs) [] e are = absurd are
partly_keep (g ∷ gs) (h ∷ hs) e are =
    ap (λ (n : List ℕ). n ∷ group_names hs) (one_keeps g h e are.0) ∙ ap (λ (ns : List (List ℕ)). g.name ∷ ns) (partly_keep gs hs e are.1)

pub acted_keeps : (g later : ScriptGroup) (e : Event) (answer : GroupAnswer) (before now : ℕ) → IsActed g e answer later before now → later.name ≡ g.name
acted_keeps g later e answers.NoMemory before now it = ap (λ (x : ScriptGroup). x.name) it.is
acted_keeps g later e (answers.Reply decision answer out) before now it = ap (λ (x : ScriptGroup). x.name) it.is
acted_keeps g later e (answers.Known version) before now it = ap (λ (x : ScriptGroup). x.name) it.is
acted_keeps g later e (answers.Applied n) before now it = ap (λ (x : ScriptGroup). x.name) it.is
acted_keeps g later e (answers.Held n) before now it = ap (λ (x : ScriptGroup). x.name) it.is
acted_keeps g later e (answers.Ignored cause) before now it = ap (λ (x : ScriptGroup). x.name) it.is
acted_keeps g later e (answers.Taken from position out) before now it = ap (λ (x : ScriptGroup). x.name) it.is
acted_keeps g later e (answers.Changed view out) before now it = ap (λ (x : ScriptGroup). x.name) it.is
acted_keeps g later e (answers.Refused fault) before now it = ap (λ (x : ScriptGroup). x.name) it.is
acted_keeps g later e answers.LogFault before now it = ap (λ (x : ScriptGroup). x.name) it.is
acted_keeps g later e answers.Down before now it = ap (λ (x : ScriptGroup). x.name) it.is
acted_keeps g later e answers.Up before now it = ap (λ (x : ScriptGroup). x.name) it.is
