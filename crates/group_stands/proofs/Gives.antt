-- What one host gives another.
use Rattle.std.proofs.Common.{◌≡◌, ℕ, zero, suc, ◌+◌, ◌≤◌, true, List, [], ◌∷◌, ◌++◌, length, take, drop, take-add, Some, refl, sym, ap, subst, ◌∙◌, arith}
use Rattle.std.specs.Prelude.{◌-◌}
use Rattle.std.specs.List.{AllByRecursion}
use Rattle.ft_base.specs.Machine.{Machine, Fits}
use Rattle.ft_base.specs.Journal.{Entry, after, AllFit}
use Rattle.ft_base.specs.Laws.{Stays, StatesStay}
use Rattle.ft_replica.specs.Picture.{Picture as ReplicaPicture, opened, settled, rebased}
use Rattle.group_model.specs.Agreeing.{IsSoundCommon}
use Rattle.group_model.specs.Laws.{Grows}
use Rattle.group_model.specs.Plain.{Common, Place, loaded_at, state_at, delta_at}
use Rattle.group_stands.specs.Stands.{ReplicaStands}
use Rattle.group_stands.specs.Giving.{Updates, IsStateAt, IsUpdateBetween}
use Rattle.group_stands.proofs.Places.{all_take}
use Rattle.group_stands.proofs.Replicas.{replica_stays}

-- ---- what a replica gives

pub gives_state : (machines : ℕ → Machine) (c : Common) (replica : ReplicaPicture) (place : Place) →
    ReplicaStands machines c replica place → place.loaded ≡ true → IsStateAt (machines c.kind) c place.position replica.state
gives_state machines c replica place s loaded = record { ran = s.ran; is = s.state loaded }

pub gives_update : (machines : ℕ → Machine) (c : Common) (replica : ReplicaPicture) (place : Place) →
    ReplicaStands machines c replica place → place.loaded ≡ true →
    IsUpdateBetween (machines c.kind) c place.base place.position ((machines replica.kind).delta replica.copied replica.state)
gives_update machines c replica place s loaded = record {
  order = s.order;
  ran = s.ran;
  is =
      ap (λ (k : ℕ). (machines k).delta replica.copied replica.state) s.kind
      ∙ ap (λ (b : List ℕ). (machines c.kind).delta b replica.state) (s.copied loaded)
      ∙ ap (λ (b : List ℕ). (machines c.kind).delta (state_at (machines c.kind) c place.base) b) (s.state loaded);
}

pub leads_on : (machines : ℕ → Machine) (c : Common) (replica : ReplicaPicture) (place : Place) →
    ReplicaStands machines c replica place → ReplicaStands machines c (rebased replica) (record place { base = place.position })
leads_on machines c replica place s = record {
  kind = s.kind;
  loaded = s.loaded;
  position = s.position;
  base = s.position;
  state = s.state;
  copied = s.state;
  order = omega arith;
  ran = s.ran;
}

pub given_loads : (machines : ℕ → Machine) (c : Common) (replica : ReplicaPicture) → replica.kind ≡ c.kind →
    (n : ℕ) (bytes : List ℕ) → IsStateAt (machines c.kind) c n bytes → ReplicaStands machines c (settled n bytes replica) (loaded_at n)
given_loads machines c replica kind n bytes at = record {
  kind = kind;
  loaded = refl;
  position = refl;
  base = refl;
  state = λ _. at.is;
  copied = λ _. at.is;
  order = omega arith;
  ran = at.ran;
}

-- ---- on its way

-- a replica in that state goes on standing
same_state : (machines : ℕ → Machine) (c later : Common) (n : ℕ) → c.ran ≤ length c.journal → Grows c later → n ≤ c.ran →
    state_at (machines c.kind) c n ≡ state_at (machines later.kind) later n
same_state machines c later n few g le =
    let bytes = state_at (machines c.kind) c n in
    let stands = given_loads machines c (opened c.kind []) refl n bytes (record { ran = le; is = refl }) in
    (replica_stays machines c later (settled n bytes (opened c.kind [])) (loaded_at n) stands few g).state refl

pub state_stays : (machines : ℕ → Machine) (c later : Common) (n : ℕ) (bytes : List ℕ) → c.ran ≤ length c.journal → Grows c later →
    IsStateAt (machines c.kind) c n bytes → IsStateAt (machines later.kind) later n bytes
state_stays machines c later n bytes few g at = record {
  ran = omega (arith, at.ran, g.ran);
  is = at.is ∙ same_state machines c later n few g at.ran;
}

pub update_stays : (machines : ℕ → Machine) (c later : Common) (n k : ℕ) (bytes : List ℕ) → c.ran ≤ length c.journal → Grows c later →
    IsUpdateBetween (machines c.kind) c n k bytes → IsUpdateBetween (machines later.kind) later n k bytes
update_stays machines c later n k bytes few g at =
    let first = same_state machines c later n few g (omega (arith, at.order, at.ran)) in
    let last = same_state machines c later k few g at.ran in
    record {
      order = at.order;
      ran = omega (arith, at.ran, g.ran);
      is =
          at.is
          ∙ ap (λ (b : List ℕ). (machines c.kind).delta b (state_at (machines c.kind) c k)) first
          ∙ ap (λ (b : List ℕ). (machines c.kind).delta (state_at (machines later.kind) later n) b) last
          ∙ ap (λ (i : ℕ). (machines i).delta (state_at (machines later.kind) later n) (state_at (machines later.kind) later k)) (sym g.kind);
    }

-- ---- what a replica is given

state_valid : StatesStay → (m : Machine) → Stays m → (c : Common) → IsSoundCommon m c → (n : ℕ) → m.is_state (state_at m c n) ≡ true
state_valid law m stays c sound n = law m stays c.opening (take n c.journal) sound.opens (all_take (λ (e : Entry). Fits m e.request) n c.journal sound.journal.fit)

pub given_is_state : StatesStay → (machines : ℕ → Machine) → ((k : ℕ) → Stays (machines k)) → (c : Common) → IsSoundCommon (machines c.kind) c →
    (n : ℕ) (bytes : List ℕ) → IsStateAt (machines c.kind) c n bytes → (machines c.kind).is_state bytes ≡ true
given_is_state law machines stays c sound n bytes at = ap (machines c.kind).is_state at.is ∙ state_valid law (machines c.kind) (stays c.kind) c sound n

after_more : (m : Machine) (s : List ℕ) (es more : List Entry) → after m s (es ++ more) ≡ after m (after m s es) more
unfolding after
after_more m s [] more = refl
after_more m s (e ∷ es) more = after_more m (m.step s e.request).0 es more

-- the entries between lead from the one state to the other
state_between : (m : Machine) (c : Common) (n k : ℕ) → n ≤ k → state_at m c k ≡ after m (state_at m c n) (take (k - n) (drop n c.journal))
state_between m c n k le =
    let e : k ≡ n + (k - n) = omega arith in
    ap (state_at m c) e ∙ ap (after m c.opening) (take-add n (k - n) c.journal) ∙ after_more m c.opening (take n c.journal) (take (k - n) (drop n c.journal))

all_drop : (P : Entry → Type 0) (n : ℕ) (es : List Entry) → AllByRecursion P es → AllByRecursion P (drop n es)
all_drop P zero es all = all
all_drop P (suc n) [] all = tt
all_drop P (suc n) (e ∷ es) all = all_drop P n es all.1

leads : StatesStay → (m : Machine) → Stays m → Updates m → (c : Common) → IsSoundCommon m c → (n k : ℕ) → n ≤ k →
    m.applied (state_at m c n) (delta_at m c n k) ≡ Some (state_at m c k)
leads law m stays updates c sound n k le =
    let between = take (k - n) (drop n c.journal) in
    let fit : AllFit m between = all_take (λ (e : Entry). Fits m e.request) (k - n) (drop n c.journal) (all_drop (λ (e : Entry). Fits m e.request) n c.journal sound.journal.fit) in
    subst (λ (t : List ℕ). m.applied (state_at m c n) (m.delta (state_at m c n) t) ≡ Some t) (sym (state_between m c n k le))
    (updates (state_at m c n) between (state_valid law m stays c sound n) fit)

pub given_leads : StatesStay → (machines : ℕ → Machine) → ((k : ℕ) → Stays (machines k)) → ((k : ℕ) → Updates (machines k)) →
    (c : Common) (replica : ReplicaPicture) (place : Place) → IsSoundCommon (machines c.kind) c → ReplicaStands machines c replica place → place.loaded ≡ true →
    (n k : ℕ) (update : List ℕ) → replica.position ≡ n → IsUpdateBetween (machines c.kind) c n k update →
    (machines replica.kind).applied replica.state update ≡ Some (state_at (machines c.kind) c k)
given_leads law machines stays updates c replica place sound s loaded n k update here at =
    let m = machines c.kind in
    ap (λ (i : ℕ). (machines i).applied replica.state update) s.kind
    ∙ ap (λ (b : List ℕ). m.applied b update) (s.state loaded ∙ ap (state_at m c) (sym s.position ∙ here))
    ∙ ap (m.applied (state_at m c n)) at.is
    ∙ leads law m (stays c.kind) (updates c.kind) c sound n k at.order
