-- The ports of hosts, as their doors are bound.
use Rattle.std.proofs.Common.{◌≡◌, ℕ, ◌+◌, ◌-◌, ◌<◌, List, [], ◌∷◌, ◌++◌, length, set, map, replicate, refl, sym, ap, ◌∙◌, append_assoc, add-one, arith, length-append}
use Rattle.std.proofs.lemmas.List.{set_at, length_push, map-append, length-map}
use Rattle.ft_base.specs.declared.limits.TheConstants.{HOST_LIMIT}
use Rattle.live_net.specs.Doors.{ports_of}

pub one_longer : {A : Type 0} (xs ys : List A) (x : A) (n : ℕ) → ys ≡ xs ++ x ∷ [] → length xs ≡ n → length ys ≡ n + 1
one_longer xs ys x n more long = ap length more ∙ length_push xs x ∙ ap (λ (k : ℕ). k + 1) long

placed : (ports : List ℕ) (left port : ℕ) → set (ports ++ replicate (left + 1) 0) (length ports) port ≡ (ports ++ port ∷ []) ++ replicate left 0
placed ports left port =
    rw add-one (set_at ports 0 (replicate left 0) port (length ports) refl ∙ sym (append_assoc ports (port ∷ []) (replicate left 0)))

no_ports : replicate HOST_LIMIT 0 ≡ ports_of []
unfolding ports_of
no_ports = refl

-- one more
one_placed : (ports : List ℕ) (port : ℕ) → length ports < HOST_LIMIT → set (ports_of ports) (length ports) port ≡ ports_of (ports ++ port ∷ [])
unfolding ports_of
one_placed ports port within =
    let left : ℕ = HOST_LIMIT - (length ports + 1) in
    let before : HOST_LIMIT - length ports ≡ left + 1 = omega arith in
    let long : length (ports ++ port ∷ []) ≡ length ports + 1 = length-append ports (port ∷ []) in
    ap (λ (n : ℕ). set (ports ++ replicate n 0) (length ports) port) before ∙ placed ports left port ∙ ap (λ (n : ℕ). (ports ++ port ∷ []) ++ replicate (HOST_LIMIT - n) 0) (sym long)

module _ {A : Type 0} (own_port : A → ℕ) where
  pub none_bound : (doors : List A) (ports : List ℕ) → doors ≡ [] → ports ≡ replicate HOST_LIMIT 0 → ports ≡ ports_of (map own_port doors)
  none_bound doors ports none are = are ∙ no_ports ∙ ap (λ (l : List A). ports_of (map own_port l)) (sym none)

  -- one more is bound
  pub one_bound : (doors doors' : List A) (door : A) (before : List ℕ) (place port : ℕ) → before ≡ ports_of (map own_port doors) → length doors ≡ place → place < HOST_LIMIT
      → port ≡ own_port door → doors' ≡ doors ++ door ∷ [] → set before place port ≡ ports_of (map own_port doors')
  one_bound doors doors' door before place port are long within is more =
      let here : length (map own_port doors) ≡ place = length-map doors own_port ∙ long in
      let small : length (map own_port doors) < HOST_LIMIT = omega (arith, here, within) in
      ap (λ (l : List ℕ). set l place port) are ∙ ap (λ (n : ℕ). set (ports_of (map own_port doors)) n port) (sym here)
      ∙ one_placed (map own_port doors) port small ∙ ap (λ (n : ℕ). ports_of (map own_port doors ++ n ∷ [])) is
      ∙ ap ports_of (sym (map-append own_port doors (door ∷ []))) ∙ ap (λ (l : List A). ports_of (map own_port l)) (sym more)
