-- The views of a log, by their versions.
use Rattle.std.proofs.Common.{◌≡◌, ℕ, zero, suc, ◌+◌, ◌-◌, ◌<◌, ◌≤◌, ◌⊎◌, inl, inr, Bool, true, false, cond, drop, List, [], ◌∷◌, Some, None, refl, sym, ap, subst, ◌∙◌, arith}
use Rattle.std.specs.Prelude.{◌==◌, slice_get, slice_index_or}
use Rattle.std.specs.List.{find}
use Rattle.std.proofs.lemmas.Bool.Decides.{nat_tests}
use Rattle.std.proofs.lemmas.Option.{slice_get_within}
use Rattle.ft_base.specs.Machine.{Machine}
use Rattle.ft_base.specs.declared.views.View.{View}
use Rattle.message_log.specs.Picture.{Picture as LogPicture}
use Rattle.message_log.specs.Picture as pictures
use Rattle.group_model.specs.Plain.{Common}
use Rattle.group_model.specs.Views.{StillHas, kept_views, newest, view_at, no_view}
use Rattle.group_stands.specs.Stands.{LogStands}
use Rattle.group_stands.proofs.Places.{get_within, find_there}

or_got : (views : List View) (n : ℕ) (v d : View) → slice_get views n ≡ Some v → slice_index_or views n d ≡ v
or_got [] n v d h = absurd cc
or_got (w ∷ views) zero v d h = let same : w ≡ v = cc in same
or_got (w ∷ views) (suc n) v d h = or_got views n v d h

none_found : {X : Type 0} (test : X → Bool) (xs : List X) → ((i : ℕ) (x : X) → slice_get xs i ≡ Some x → test x ≡ false) → find test xs ≡ None
none_found test [] none = refl
none_found test (x ∷ xs) none = ap (λ b. cond b (Some x) (find test xs)) (none zero x refl) ∙ none_found test xs (λ i y at. none (suc i) y at)

is_same : (m n : ℕ) → m ≡ n → (m == n) ≡ true
is_same m n is = grind (arith, nat_tests)

same_is : (m n : ℕ) → (m == n) ≡ true → m ≡ n
same_is m n is = grind (arith, nat_tests)

differs : (version first newest : ℕ) → (version < first) ⊎ (newest < version) → (k : ℕ) → first ≤ k + 1 → k < newest → (m : ℕ) → m ≡ k + 1 → (m == version) ≡ false
differs version first newest (inl below) k from lt m is = grind (arith, nat_tests)
differs version first newest (inr above) k from lt m is = grind (arith, nat_tests)

-- the views that are kept, by their places among all
drop_get : {X : Type 0} (n : ℕ) (xs : List X) (i k : ℕ) → k ≡ n + i → slice_get (drop n xs) i ≡ slice_get xs k
drop_get zero xs i k is = let same : i ≡ k = omega (arith, is) in ap (slice_get xs) same
drop_get (suc n) [] i zero is = refl
drop_get (suc n) [] i (suc k) is = refl
drop_get (suc n) (x ∷ xs) i zero is = absurd (omega (arith, is))
drop_get (suc n) (x ∷ xs) i (suc k) is = drop_get n xs i k (omega (arith, is))

pub shows : (machines : ℕ → Machine) (c : Common) (log : LogPicture) → LogStands machines c log →
    (version : ℕ) → StillHas c version → pictures.view_at log version ≡ Some (view_at c.views version)
shows machines c log s version has =
    let test : View → Bool = λ v. v.version.0 == version in
    let some = s.sound.kept.some in
    let lost = c.first_kept - 1 in
    let there = get_within c.views (version - 1) (omega (arith, some, has.0, has.1)) in
    let numbered = (s.sound.views.each (version - 1) there.0 there.1).numbered in
    let passes = is_same there.0.version.0 version (omega (arith, numbered, some, has.0)) in
    let kept = drop_get lost c.views (version - c.first_kept) (version - 1) (omega (arith, some, has.0)) ∙ there.1 in
    let f = find_there test (kept_views c) (version - c.first_kept) there.0 kept passes in
    let whole = sym (drop_get lost c.views f.place (lost + f.place) refl) ∙ f.at in
    let found = (s.sound.views.each (lost + f.place) f.value whole).numbered in
    let is = same_is f.value.version.0 version f.passes in
    let place : lost + f.place ≡ version - 1 = omega (arith, found, is) in
    let at = subst (λ (n : ℕ). slice_get c.views n ≡ Some f.value) place whole in
    ap (find test) s.views ∙ f.is ∙ ap Some (sym (or_got c.views (version - 1) f.value no_view at))

pub shows_no_other : (machines : ℕ → Machine) (c : Common) (log : LogPicture) → LogStands machines c log →
    (version : ℕ) → (version < c.first_kept) ⊎ (newest c < version) → pictures.view_at log version ≡ None
shows_no_other machines c log s version out =
    let lost = c.first_kept - 1 in
    ap (find (λ (v : View). v.version.0 == version)) s.views
    ∙ none_found (λ (v : View). v.version.0 == version) (kept_views c)
    (λ i v at. let whole = sym (drop_get lost c.views i (lost + i) refl) ∙ at in
    differs version c.first_kept (newest c) out (lost + i) (omega arith) (slice_get_within c.views (lost + i) v whole) v.version.0
    (s.sound.views.each (lost + i) v whole).numbered)
