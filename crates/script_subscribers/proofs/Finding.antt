-- The first who listens by a name, found by its place.
use Rattle.std.proofs.Common.{◌≡◌, ◌+◌, ◌∷◌, [], ℕ, suc, Bool, true, false, not, List, Some, None, cond, ltb, set, get_or, length, refl, sym, ap, ◌∙◌, arith}
use Rattle.std.specs.Prelude.{if◌then◌else◌}
use Rattle.std.specs.List.{find, position, position_or_len}
use Rattle.std.specs.Option.{option_and_then}
use Rattle.std.proofs.lemmas.Bool.{ltb-false}
use Rattle.std.proofs.lemmas.List.{length-set, set_past as std_set_past}
use Rattle.std.proofs.lemmas.Option.{cond_some}
use Rattle.script_subscribers.specs.declared.named.Named.{Named}
use Rattle.script_subscribers.specs.Firsts.{has, first_sub, change_first}

ltb_suc : (a b : ℕ) → ltb (suc a) (suc b) ≡ ltb a b
ltb_suc a b = grind arith

ltb_zero : (n : ℕ) → ltb 0 (suc n) ≡ true
ltb_zero n = grind arith

module _ (change : Named → Named) (name : List ℕ) (d : Named) where
  -- at the first place, where there is one, and else nowhere
  at_place : (zs : List Named)
      → (first_sub name zs ≡ cond (ltb (position_or_len (has name) zs) (length zs)) (get_or zs (position_or_len (has name) zs) d).sub None)
      × (change_first change name zs ≡ set zs (position_or_len (has name) zs) (change (get_or zs (position_or_len (has name) zs) d)))
  unfolding first_sub change_first
  at_place [] = (refl, refl)
  at_place (z ∷ zs) = go (has name z) (at_place zs)
    where
      go : (b : Bool)
          → ((option_and_then (λ (y : Named). y.sub) (find (has name) zs) ≡ cond (ltb (position_or_len (has name) zs) (length zs)) (get_or zs (position_or_len (has name) zs) d).sub None)
          × (change_first change name zs ≡ set zs (position_or_len (has name) zs) (change (get_or zs (position_or_len (has name) zs) d))))
          → (option_and_then (λ (y : Named). y.sub) (cond b (Some z) (find (has name) zs))
          ≡ cond (ltb (cond (not b) (1 + position_or_len (has name) zs) 0) (length (z ∷ zs))) (get_or (z ∷ zs) (cond (not b) (1 + position_or_len (has name) zs) 0) d).sub None)
          × ((if b then change z ∷ zs else z ∷ change_first change name zs)
          ≡ set (z ∷ zs) (cond (not b) (1 + position_or_len (has name) zs) 0) (change (get_or (z ∷ zs) (cond (not b) (1 + position_or_len (has name) zs) 0) d)))
      go true more = (ap (λ t. cond t z.sub None) (sym (ltb_zero (length zs))), refl)
      go false more =
          let next : suc (position_or_len (has name) zs) ≡ 1 + position_or_len (has name) zs = omega arith in (
            more.0 ∙ ap (λ t. cond t (get_or zs (position_or_len (has name) zs) d).sub None) (sym (ltb_suc (position_or_len (has name) zs) (length zs)))
                ∙ ap (λ j. cond (ltb j (length (z ∷ zs))) (get_or (z ∷ zs) j d).sub None) next,
            (λ i. z ∷ more.1 i) ∙ ap (λ j. set (z ∷ zs) j (change (get_or (z ∷ zs) j d))) next,
          )

  pub length_same : (zs : List Named) → length (change_first change name zs) ≡ length zs
  length_same zs =
      ap length (at_place zs).1 ∙ length-set zs (position_or_len (has name) zs) (change (get_or zs (position_or_len (has name) zs) d))

  pub found : (zs : List Named) (i : ℕ) → position (has name) zs ≡ Some i
      → (first_sub name zs ≡ (get_or zs i d).sub) × (change_first change name zs ≡ set zs i (change (get_or zs i d)))
  found zs i e =
      let h = cond_some (ltb (position_or_len (has name) zs) (length zs)) (position_or_len (has name) zs) i e in
      let at = at_place zs in (
        at.0 ∙ ap (λ b. cond b (get_or zs (position_or_len (has name) zs) d).sub None) h.0 ∙ ap (λ k. (get_or zs k d).sub) h.1,
        at.1 ∙ ap (λ k. set zs k (change (get_or zs k d))) h.1,
      )

  none_passes : (b : Bool) (n : ℕ) → cond b (Some n) None ≡ None → b ≡ false
  none_passes true n e = absurd cc
  none_passes false n e = refl

  set_past : (zs : List Named) (i : ℕ) (y : Named) → ltb i (length zs) ≡ false → set zs i y ≡ zs
  set_past zs i y past = std_set_past zs i y (ltb-false i (length zs) past)

  pub missing : (zs : List Named) → position (has name) zs ≡ None → (first_sub name zs ≡ None) × (change_first change name zs ≡ zs)
  missing zs e =
      let past = none_passes (ltb (position_or_len (has name) zs) (length zs)) (position_or_len (has name) zs) e in
      let at = at_place zs in (
        at.0 ∙ ap (λ b. cond b (get_or zs (position_or_len (has name) zs) d).sub None) past,
        at.1 ∙ set_past zs (position_or_len (has name) zs) (change (get_or zs (position_or_len (has name) zs) d)) past,
      )
