-- What a sound group says of a host stays so in each of its turns.
use Rattle.std.proofs.Common.{◌≡◌, ℕ, zero, suc, ◌+◌, ◌<◌, ◌≤◌, ◌⊎◌, inl, max, Bool, true, false, List, [], ◌∷◌, ◌++◌, length, refl, sym, subst, ap, ◌∙◌, eqb-true, leb-true, arith}
use Rattle.std.specs.Prelude.{nat_eq, nat_le, ◌||◌}
use Rattle.std.specs.List.{AllByRecursion}
use Rattle.std.proofs.lemmas.Bool.{and_parts}
use Rattle.group_model.specs.Plain.{Common, Host, Place, blank, loaded_at, from, with_number, is_held, past_held, reach, goes_on, start_of, moved_to, caught_up, caught_up_to, with_ran}
use Rattle.group_model.specs.Transfers.{rebased, holding}
use Rattle.ft_base.specs.Views.{is_passive}
use Rattle.group_model.specs.Views.{MayKnow, newest}
use Rattle.group_model.specs.Agreeing.{IsSoundHost, AreNumbers}
use Rattle.group_model.proofs.Choosing.{either_so, not_both}

-- ---- numbers that are held

-- all are below what has run
abbrev pub AreBelow : ℕ → List ℕ → Type 0
AreBelow ran holdback = AllByRecursion (λ i. i < ran) holdback

abbrev AreIn : ℕ → ℕ → List ℕ → Type 0
AreIn position ran holdback = AllByRecursion (λ i. (position ≤ i) × (i < ran)) holdback

pub below : (position ran : ℕ) (xs : List ℕ) → AreIn position ran xs → AreBelow ran xs
below position ran [] all = tt
below position ran (x ∷ xs) all = (all.0.1, below position ran xs all.1)

in_more : (position ran more : ℕ) (xs : List ℕ) → ran ≤ more → AreIn position ran xs → AreIn position more xs
in_more position ran more [] le all = tt
in_more position ran more (x ∷ xs) le all = ((all.0.0, omega (arith, le, all.0.1)), in_more position ran more xs le all.1)

pub below_more : (ran more : ℕ) (xs : List ℕ) → ran ≤ more → AreBelow ran xs → AreBelow more xs
below_more ran more [] le all = tt
below_more ran more (x ∷ xs) le all = (omega (arith, le, all.0), below_more ran more xs le all.1)

from_in : (n ran : ℕ) (xs : List ℕ) → AreBelow ran xs → AreIn n ran (from n xs)
from_in n ran [] all = tt
from_in n ran (x ∷ xs) all =
    either_so (AreIn n ran) (nat_le n x) (x ∷ from n xs) (from n xs)
    (λ later. ((leb-true n x later, all.0), from_in n ran xs all.1)) (λ early. from_in n ran xs all.1)

below_push : (ran i : ℕ) (xs : List ℕ) → AreBelow ran xs → i < ran → AreBelow ran (xs ++ i ∷ [])
below_push ran i [] all lt = (lt, tt)
below_push ran i (x ∷ xs) all lt = (all.0, below_push ran i xs all.1 lt)

pub below_with : (ran i : ℕ) (xs : List ℕ) → AreBelow ran xs → i < ran → AreBelow ran (with_number i xs)
below_with ran i xs all lt =
    either_so (AreBelow ran) (is_held i xs) xs (xs ++ i ∷ []) (λ held. all) (λ new. below_push ran i xs all lt)

one_held : (i j ran : ℕ) (b rest : Bool) → nat_eq j i ≡ b → (b || rest) ≡ true → j < ran → (rest ≡ true → i < ran) → i < ran
one_held i j ran true rest same either lt more = subst (λ (k : ℕ). k < ran) (eqb-true j i same) lt
one_held i j ran false rest same either lt more = more either

held_below : (i ran : ℕ) (xs : List ℕ) → AreBelow ran xs → is_held i xs ≡ true → i < ran
held_below i ran [] all held = absurd cc
held_below i ran (x ∷ xs) all held = one_held i x ran (nat_eq x i) (is_held i xs) refl held all.0 (held_below i ran xs all.1)

past_within : (xs : List ℕ) (ran position most : ℕ) → AreBelow ran xs → position ≤ ran → (position ≤ past_held xs position most) × (past_held xs position most ≤ ran)
unfolding past_held
past_within xs ran position zero all le = (omega arith, le)
past_within xs ran position (suc most) all le =
    either_so (λ (n : ℕ). (position ≤ n) × (n ≤ ran)) (is_held position xs) (past_held xs (position + 1) most) position
    (λ held. let lt = held_below position ran xs all held in
    let more = past_within xs ran (position + 1) most all (omega (arith, lt)) in (omega (arith, more.0), more.1))
    (λ open-place. (omega arith, le))

pub reach_within : (xs : List ℕ) (ran position : ℕ) → AreBelow ran xs → position ≤ ran → (position ≤ reach xs position) × (reach xs position ≤ ran)
reach_within xs ran position all le = past_within xs ran position (length xs) all le

-- ---- hosts

pub blank_sound : (c : Common) (up : Bool) → IsSoundHost c (blank up)
blank_sound c up = record {
  known = (omega arith, inl refl);
  base = omega arith;
  position = omega arith;
  unloaded = λ u. (refl, refl);
  held = tt;
  passive = λ p. refl;
  down = λ e. ap blank e;
}

-- more views and more that has run
pub host_stays : (c after : Common) (h : Host) → after.style ≡ c.style → after.first_kept ≡ c.first_kept → newest c ≤ newest after → c.ran ≤ after.ran → IsSoundHost c h → IsSoundHost after h
host_stays c after h style first views ran s = record {
  known = (omega (arith, s.known.0, views), subst (λ (n : ℕ). (h.known ≡ 0) ⊎ (n ≤ h.known)) (sym first) s.known.1);
  base = s.base;
  position = omega (arith, s.position, ran);
  unloaded = s.unloaded;
  held = in_more h.place.position c.ran after.ran h.holdback ran s.held;
  passive = λ p. s.passive (ap is_passive (sym style) ∙ p);
  down = s.down;
}

-- only one that is up learns of a view
pub knowing_sound : (c : Common) (h : Host) (known : ℕ) → h.up ≡ true → MayKnow c known → IsSoundHost c h → IsSoundHost c (record h { known = known })
knowing_sound c h known up may s =
    record { known = may; base = s.base; position = s.position; unloaded = s.unloaded; held = s.held; passive = s.passive; down = λ d. absurd (not_both h.up up d) }

pub up_sound : (c : Common) (h : Host) → IsSoundHost c h → IsSoundHost c (record h { up = true })
up_sound c h s =
    record { known = s.known; base = s.base; position = s.position; unloaded = s.unloaded; held = s.held; passive = s.passive; down = λ d. absurd cc }

pub rebased_sound : (c : Common) (h : Host) → h.up ≡ true → IsSoundHost c h → IsSoundHost c (rebased h)
rebased_sound c h up s =
    record { known = s.known; base = omega arith; position = s.position; unloaded = s.unloaded; held = s.held; passive = s.passive; down = λ d. absurd (not_both h.up up d) }

-- what a host needs to run on to a position
pub record MayMove (c : Common) (h : Host) (n : ℕ) : Type 0 where
  pub up : h.up ≡ true
  pub known : MayKnow c h.known
  pub base : h.place.base ≤ n
  pub to : n ≤ c.ran
  pub loaded : h.place.loaded ≡ true
  pub held : AreBelow c.ran h.holdback
  pub passive : is_passive c.style ≡ true → h.holdback ≡ []

pub moved_sound : (c : Common) (h : Host) (n : ℕ) → MayMove c h n → IsSoundHost c (moved_to n h)
moved_sound c h n s = record {
  known = s.known;
  base = s.base;
  position = s.to;
  unloaded = λ u. absurd (let both = sym s.loaded ∙ u in cc);
  held = from_in n c.ran h.holdback s.held;
  passive = λ p. ap (from n) (s.passive p);
  down = λ d. absurd (not_both h.up s.up d);
}

-- a host that is brought to a position in a passive group
pub brought_sound : (c : Common) (h : Host) (n : ℕ) → h.up ≡ true → is_passive c.style ≡ true → n ≤ c.ran → IsSoundHost c h →
    IsSoundHost c (record h { place = loaded_at n })
brought_sound c h n up passive le s = record {
  known = s.known;
  base = omega arith;
  position = le;
  unloaded = λ u. absurd cc;
  held = subst (AreIn n c.ran) (sym (s.passive passive)) tt;
  passive = s.passive;
  down = λ d. absurd (not_both h.up up d);
}

-- ---- catching up

pub start_loaded : (c : Common) (place : Place) → (start_of c place).loaded ≡ true
start_loaded c place =
    either_so (λ (p : Place). p.loaded ≡ true) (goes_on c place) place (loaded_at c.mark)
    (λ goes. (and_parts place.loaded (nat_le c.mark place.position) goes).0) (λ loads. refl)

pub start_within : (c : Common) (place : Place) (n : ℕ) → place.base ≤ n → c.mark ≤ n → (start_of c place).base ≤ n
start_within c place n base mark =
    either_so (λ (p : Place). p.base ≤ n) (goes_on c place) place (loaded_at c.mark) (λ goes. base) (λ loads. mark)

-- a host that has caught up is sound, and may move on
pub record HasCaughtUp (c : Common) (h : Host) : Type 0 where
  pub sound : IsSoundHost c h
  pub up : h.up ≡ true
  pub loaded : h.place.loaded ≡ true

-- a host is sound all the way from where its catch-up begins
pub on_the_way_sound : (c : Common) (h : Host) (n : ℕ) → h.up ≡ true → (start_of c h.place).base ≤ n → IsSoundHost c h → IsSoundHost (with_ran n c) (caught_up_to c h n)
on_the_way_sound c h n up base s =
    let begun : Host = record h { place = start_of c h.place } in
    moved_sound (with_ran n c) begun n (record {
      up = up;
      known = s.known;
      base = base;
      to = omega arith;
      loaded = start_loaded c h.place;
      held = below_more c.ran (max c.ran n) h.holdback (omega arith) (below h.place.position c.ran h.holdback s.held);
      passive = s.passive;
    })

-- its base is there, or before
pub start_based : (c : Common) (h : Host) → IsSoundHost c h → (start_of c h.place).base ≤ (start_of c h.place).position
start_based c h s =
    either_so (λ (p : Place). p.base ≤ p.position) (goes_on c h.place) h.place (loaded_at c.mark) (λ goes. s.base) (λ loads. omega arith)

-- and within the journal
pub start_inside : (c : Common) (h : Host) → AreNumbers c → IsSoundHost c h → (start_of c h.place).base ≤ length c.journal
start_inside c h numbers s =
    start_within c h.place (length c.journal) (omega (arith, s.base, s.position, numbers.ran)) (omega (arith, numbers.mark, numbers.ran))

pub caught_up_sound : (c : Common) (h : Host) → h.up ≡ true → AreNumbers c → IsSoundHost c h → HasCaughtUp (with_ran (length c.journal) c) (caught_up c h)
caught_up_sound c h up numbers s = record {
  sound = on_the_way_sound c h (length c.journal) up (start_inside c h numbers s) s;
  up = up;
  loaded = start_loaded c h.place;
}

-- ---- orders

pub order_sound : (c : Common) (h : Host) (i : ℕ) → h.up ≡ true → (is_passive c.style ≡ true → ⊥) → i < c.ran → h.place.loaded ≡ true → IsSoundHost c h →
    IsSoundHost c (moved_to (reach (holding h i).holdback h.place.position) (holding h i))
order_sound c h i up active lt loaded s =
    let held = below_with c.ran i h.holdback (below h.place.position c.ran h.holdback s.held) lt in
    let within = reach_within (with_number i h.holdback) c.ran h.place.position held s.position in
    moved_sound c (holding h i) (reach (holding h i).holdback h.place.position) (record {
      up = up;
      known = s.known;
      base = omega (arith, s.base, within.0);
      to = within.1;
      loaded = loaded;
      held = held;
      passive = λ p. absurd (active p);
    })
