-- Rows of names with their first places, and one more name behind them.
use Rattle.std.proofs.Common.{◌≡◌, ℕ, ◌+◌, arith, Bool, true, false, cond, true≢false, List, [], ◌∷◌, ◌++◌, length, Option, Some, None, Vec, Bor, refl, sym, ap, ◌∙◌}
use Rattle.std.specs.Prelude.{nat_eq, is_some, option_copied}
use Rattle.std.specs.List.{position_from}
use Rattle.std.specs.Map.{lookup}
use Rattle.std.specs.Option.{option_or}
use Rattle.std.specs.Cmp.Lexicographic.{pointwise}
use Rattle.std.specs.Str.{bytes_eq}
use Rattle.std.proofs.lemmas.Slice.Eq.{bytes_eq-Decides}
use Rattle.name_places.specs.Places.{AreFiled, filed, first_place}

-- the map's look-up by a text
pub lookup_filed : {A : Type 0} (name : List ℕ) (rows : List (Vec ℕ A × ℕ)) → lookup (λ k. pointwise nat_eq name k.items) rows ≡ lookup (bytes_eq name) (filed rows)
lookup_filed name [] = refl
lookup_filed name (row ∷ rows) = ap (cond (bytes_eq name row.0.items) (Some row.1)) (lookup_filed name rows)

same_bool : (a b : Bool) → (a ≡ true → b ≡ true) → (b ≡ true → a ≡ true) → a ≡ b
same_bool true b f g = sym (f refl)
same_bool false true f g = g refl
same_bool false false f g = refl

turned : (a b : List ℕ) → bytes_eq a b ≡ bytes_eq b a
turned a b =
    same_bool _ _
    (λ t. (bytes_eq-Decides b a).1 (sym ((bytes_eq-Decides a b).0 t)))
    (λ t. (bytes_eq-Decides a b).1 (sym ((bytes_eq-Decides b a).0 t)))

or_at : {X : Type 0} (b : Bool) (x : X) (o p : Option X) → cond b (Some x) (option_or o p) ≡ option_or (cond b (Some x) o) p
or_at true x o p = refl
or_at false x o p = refl

-- a look-up in rows with one more behind them
lookup_behind : {K X : Type 0} (test : K → Bool) (rows : List (K × X)) (k : K) (x : X) →
    lookup test (rows ++ (k, x) ∷ []) ≡ option_or (lookup test rows) (cond (test k) (Some x) None)
lookup_behind test [] k x = refl
lookup_behind test (row ∷ rows) k x = ap (cond (test row.0) (Some row.1)) (lookup_behind test rows k x) ∙ or_at (test row.0) row.1 _ _

filed_behind : {A : Type 0} (rows : List (Vec ℕ A × ℕ)) (k : Vec ℕ A) (place : ℕ) → filed (rows ++ (k, place) ∷ []) ≡ filed rows ++ (k.items, place) ∷ []
filed_behind [] k place = refl
filed_behind (row ∷ rows) k place = ap (λ rs. (row.0.items, row.1) ∷ rs) (filed_behind rows k place)

-- the first place in a list with one more behind it, whose place is n
place_behind : {X : Type 0} (test : X → Bool) (i : ℕ) (xs : List X) (y : X) (n : ℕ) → n ≡ i + length xs →
    position_from test i (xs ++ y ∷ []) ≡ option_or (position_from test i xs) (cond (test y) (Some n) None)
place_behind test i [] y n is =
    let same : i ≡ n = omega (arith, is) in
    ap (λ m. cond (test y) (Some m) None) same
place_behind test i (x ∷ xs) y n is =
    ap (cond (test x) (Some i)) (place_behind test (i + 1) xs y n (omega (arith, is))) ∙ or_at (test x) i _ _

-- a new name is filed behind all others
pub filed_new : {A : Type 0} (rows : List (Vec ℕ A × ℕ)) (names : List (List ℕ)) (k : Vec ℕ A) (place : ℕ) → AreFiled (filed rows) names → place ≡ length names →
    AreFiled (filed (rows ++ (k, place) ∷ [])) (names ++ k.items ∷ [])
filed_new rows names k place are at = λ name.
    ap (lookup (bytes_eq name)) (filed_behind rows k place)
    ∙ lookup_behind (bytes_eq name) (filed rows) k.items place
    ∙ ap (λ o. option_or o (cond (bytes_eq name k.items) (Some place) None)) (are name)
    ∙ ap (λ b. option_or (first_place name names) (cond b (Some place) None)) (turned name k.items)
    ∙ sym (place_behind (λ n. bytes_eq n name) 0 names k.items place (omega (arith, at)))

-- a name that is filed already keeps its first place
there_first : (o p : Option ℕ) (n : ℕ) → (o ≡ None → ⊥) → o ≡ option_or o p
there_first None p n not = absurd (not refl)
there_first (Some m) p n not = refl

pub filed_again : (rows : List (List ℕ × ℕ)) (names : List (List ℕ)) (text : List ℕ) → AreFiled rows names → (lookup (bytes_eq text) rows ≡ None → ⊥) →
    AreFiled rows (names ++ text ∷ [])
filed_again rows names text are there = λ name. are name ∙ again name ∙ sym (place_behind (λ n. bytes_eq n name) 0 names text (length names) (omega arith))
  where
    again : (name : List ℕ) → first_place name names ≡ option_or (first_place name names) (cond (bytes_eq text name) (Some (length names)) None)
    again name = by (bytes_eq text name) refl
      where
        by : (b : Bool) → bytes_eq text name ≡ b → first_place name names ≡ option_or (first_place name names) (cond b (Some (length names)) None)
        by true same =
            let is : text ≡ name = (bytes_eq-Decides text name).0 same in
            there_first _ _ 0 (λ none. there (are text ∙ ap (λ t. first_place t names) is ∙ none))
        by false same = at_none (first_place name names)
          where
            at_none : (o : Option ℕ) → o ≡ option_or o None
            at_none None = refl
            at_none (Some m) = refl

-- what the map lends, as a value
pub none_lent : (lent : Option (Bor ℕ)) → is_some lent ≡ false → option_copied lent ≡ None
none_lent None is = refl
none_lent (Some place) is = absurd (true≢false is)

pub some_lent : (lent : Option (Bor ℕ)) → is_some lent ≡ true → option_copied lent ≡ None → ⊥
some_lent None is none = absurd (true≢false (sym is))
some_lent (Some place) is none = absurd (true≢false (ap is_some none))
