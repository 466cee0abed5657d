-- The map of types, and the same as a list of texts with their levels.
use Rattle.std.proofs.Common.{◌≡◌, ℕ, Bool, true, false, cond, List, [], ◌∷◌, Option, Some, None, Vec, refl, sym, ap, ◌∙◌}
use Rattle.std.specs.Prelude.{nat_eq}
use Rattle.std.specs.Cmp.Lexicographic.{pointwise, bytes_decides, same_text}
use Rattle.std.specs.Map.{lookup}
use Rattle.std.specs.Option.{unwrap_or}
use Rattle.std.specs.Str.{bytes_eq}
use Rattle.std.proofs.lemmas.Slice.Eq.{bytes_eq-Decides}
use Rattle.indexmap.specs.IndexMap.{insert_entry}
use Rattle.property_manager.specs.declared.settings.Property.{Property}
use Rattle.property_manager.specs.Groups.{types_of, level_of, put_level}

same_bool : (a b : Bool) → (a ≡ true → b ≡ true) → (b ≡ true → a ≡ true) → a ≡ b
same_bool true b f g = sym (f refl)
same_bool false true f g = g refl
same_bool false false f g = refl

same_test : (x y : List ℕ) → pointwise nat_eq x y ≡ bytes_eq x y
same_test x y =
    same_bool _ _
    (λ t. (bytes_eq-Decides x y).1 (same_text x y (sym t)))
    (λ t. (bytes_decides x y).1 ((bytes_eq-Decides x y).0 t))

lookup_in_types : {A : Type 0} (id : List ℕ) (es : List (Vec ℕ A × List Property))
    → lookup (λ k. pointwise nat_eq id k.items) es ≡ lookup (bytes_eq id) (types_of es)
lookup_in_types id [] = refl
lookup_in_types id (e ∷ es) =
    ap (λ b. cond b (Some e.1) (lookup (λ k. pointwise nat_eq id k.items) es)) (same_test id e.0.items)
    ∙ ap (λ o. cond (bytes_eq id e.0.items) (Some e.1) o) (lookup_in_types id es)

level_is : {A : Type 0} (id : List ℕ) (es : List (Vec ℕ A × List Property)) (o : Option (List Property))
    → o ≡ lookup (λ k. pointwise nat_eq id k.items) es → unwrap_or o [] ≡ level_of (types_of es) id
unfolding level_of
level_is id es o is = ap (λ o. unwrap_or o []) (is ∙ lookup_in_types id es)

pub no_level : {A : Type 0} (id text : List ℕ) (es : List (Vec ℕ A × List Property)) (none : List Property)
    → text ≡ id → None ≡ lookup (λ k. pointwise nat_eq text k.items) es → none ≡ [] → none ≡ level_of (types_of es) id
no_level id text es none same absent empty = empty ∙ level_is text es None absent ∙ ap (level_of (types_of es)) same

pub level_found : {A : Type 0} (id text : List ℕ) (es : List (Vec ℕ A × List Property)) (level copy : List Property)
    → text ≡ id → Some level ≡ lookup (λ k. pointwise nat_eq text k.items) es → copy ≡ level → copy ≡ level_of (types_of es) id
level_found id text es level copy same there copied = copied ∙ level_is text es (Some level) there ∙ ap (level_of (types_of es)) same

if_put : {B : Type 0} (f : List (Vec ℕ B × List Property) → List (List ℕ × List Property)) (b : Bool) (x y : List (Vec ℕ B × List Property)) → f (cond b x y) ≡ cond b (f x) (f y)
if_put f true x y = refl
if_put f false x y = refl

entry_put : {A : Type 0} (es : List (Vec ℕ A × List Property)) (k : Vec ℕ A) (level : List Property)
    → types_of (insert_entry (λ x y. pointwise nat_eq x.items y.items) es k level) ≡ insert_entry bytes_eq (types_of es) k.items level
entry_put [] k level = refl
entry_put (e ∷ es) k level =
    if_put types_of (pointwise nat_eq k.items e.0.items) ((e.0, level) ∷ es) (e ∷ insert_entry (λ x y. pointwise nat_eq x.items y.items) es k level)
    ∙ ap (λ b. cond b ((e.0.items, level) ∷ types_of es) ((e.0.items, e.1) ∷ types_of (insert_entry (λ x y. pointwise nat_eq x.items y.items) es k level))) (same_test k.items e.0.items)
    ∙ ap (λ rest. cond (bytes_eq k.items e.0.items) ((e.0.items, level) ∷ types_of es) ((e.0.items, e.1) ∷ rest)) (entry_put es k level)

pub level_put : {A : Type 0} (es new : List (Vec ℕ A × List Property)) (k : Vec ℕ A) (id text : List ℕ) (level : List Property)
    → text ≡ id → k.items ≡ text → new ≡ insert_entry (λ x y. pointwise nat_eq x.items y.items) es k level → types_of new ≡ put_level (types_of es) id level
unfolding put_level
level_put es new k id text level same key is =
    ap types_of is ∙ entry_put es k level ∙ ap (λ i. insert_entry bytes_eq (types_of es) i level) (key ∙ same)
