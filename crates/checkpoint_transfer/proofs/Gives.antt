-- A state or an update that was given.
use Rattle.std.proofs.Common.{◌≡◌, ℕ, Bool, true, false, List, Some, refl, sym, ap, subst, ◌∙◌, arith}
use Rattle.std.specs.Prelude.{◌&&◌, nat_le, nat_lt, nat_eq}
use Rattle.std.proofs.lemmas.Bool.Decides.{nat_tests}
use Rattle.ft_base.specs.Machine.{Machine}
use Rattle.ft_base.specs.Laws.{Stays}
use Rattle.ft_base.specs.declared.decisions.Ignored.TheVariants as causes
use Rattle.ft_replica.specs.Picture.{Picture as ReplicaPicture, settled}
use Rattle.group_model.specs.Agreeing.{IsSoundCommon}
use Rattle.group_model.specs.Plain.{Common, Host}
use Rattle.group_model.specs.Transfers.{on_state, on_update, ignoring, brought_to}
use Rattle.group_model.specs.Turns.{Turn}
use Rattle.group_stands.specs.Giving.{Updates, IsStateAt, IsUpdateBetween, GivenStatesLoad, GivenUpdatesLead}
use Rattle.group_stands.specs.Stands.{ReplicaStands}
use Rattle.checkpoint_transfer.specs.Giving.{IsGiven}
use Rattle.checkpoint_transfer.specs.declared.giving.Given.TheVariants.{Applied, Ignored}

-- ---- a state

-- whether a replica is as far as a state
abbrev is_past : Bool → ℕ → ℕ → Bool
is_past loaded n position = loaded && nat_le n position

-- so far is its host's place
past_there : (machines : ℕ → Machine) (c : Common) (h : Host) (replica : ReplicaPicture) (n : ℕ) → ReplicaStands machines c replica h.place →
    is_past replica.loaded n replica.position ≡ is_past h.place.loaded n h.place.position
past_there machines c h replica n s = ap (λ (b : Bool). is_past b n replica.position) s.loaded ∙ ap (is_past h.place.loaded n) s.position

goes_on : (c : Common) (h : Host) (n : ℕ) → is_past h.place.loaded n h.place.position ≡ false → on_state c h n ≡ brought_to n c h
goes_on c h n e = go h.place.loaded refl
  where
    go : (l : Bool) → h.place.loaded ≡ l → on_state c h n ≡ brought_to n c h
    go false l = rw l refl
    go true l =
        let le : nat_le n h.place.position ≡ false = rw l at e in
        let lt : nat_lt h.place.position n ≡ true = grind (arith, nat_tests) in
        rw (l, lt) refl

stays_back : (c : Common) (h : Host) (n : ℕ) → is_past h.place.loaded n h.place.position ≡ true → on_state c h n ≡ ignoring c h (causes.Position n h.place.position)
stays_back c h n e = go h.place.loaded refl
  where
    go : (l : Bool) → h.place.loaded ≡ l → on_state c h n ≡ ignoring c h (causes.Position n h.place.position)
    go false l = let no : false ≡ true = rw l at e in absurd cc
    go true l =
        let le : nat_le n h.place.position ≡ true = rw l at e in
        let lt : nat_lt h.place.position n ≡ false = grind (arith, nat_tests) in
        rw (l, lt) refl

pub state_loaded : (machines : ℕ → Machine) (c : Common) (h : Host) (replica replica' : ReplicaPicture) (n : ℕ) (bytes : List ℕ) →
    GivenStatesLoad → ReplicaStands machines c replica h.place → IsStateAt (machines c.kind) c n bytes →
    is_past replica.loaded n replica.position ≡ false → replica' ≡ settled n bytes replica →
    IsGiven machines c (on_state c h n) (Applied n) replica'
state_loaded machines c h replica replica' n bytes loads s at past is =
    let on = goes_on c h n (sym (past_there machines c h replica n s) ∙ past) in
    subst (λ (t : Turn). IsGiven machines c t (Applied n) replica') (sym on) (refl, rw is (loads machines c replica s.kind n bytes at))

pub state_ignored : (machines : ℕ → Machine) (c : Common) (h : Host) (replica : ReplicaPicture) (n : ℕ) →
    ReplicaStands machines c replica h.place → is_past replica.loaded n replica.position ≡ true →
    IsGiven machines c (on_state c h n) (Ignored (causes.Position n replica.position)) replica
state_ignored machines c h replica n s past =
    let back = stays_back c h n (sym (past_there machines c h replica n s) ∙ past) in
    subst (λ (t : Turn). IsGiven machines c t (Ignored (causes.Position n replica.position)) replica) (sym back) (rw s.position refl, s)

-- ---- an update

pub not_loaded : (machines : ℕ → Machine) (c : Common) (h : Host) (replica : ReplicaPicture) (n k : ℕ) →
    ReplicaStands machines c replica h.place → replica.loaded ≡ false → IsGiven machines c (on_update c h n k) (Ignored causes.NotLoaded) replica
not_loaded machines c h replica n k s loaded =
    let l : h.place.loaded ≡ false = sym s.loaded ∙ loaded in
    let back : on_update c h n k ≡ ignoring c h causes.NotLoaded = rw l refl in
    subst (λ (t : Turn). IsGiven machines c t (Ignored causes.NotLoaded) replica) (sym back) (refl, s)

pub update_ignored : (machines : ℕ → Machine) (c : Common) (h : Host) (replica : ReplicaPicture) (n k : ℕ) →
    ReplicaStands machines c replica h.place → replica.loaded ≡ true → nat_eq replica.position n ≡ false →
    IsGiven machines c (on_update c h n k) (Ignored (causes.From n replica.position)) replica
update_ignored machines c h replica n k s loaded other =
    let l : h.place.loaded ≡ true = sym s.loaded ∙ loaded in
    let p : nat_eq h.place.position n ≡ false = ap (λ (i : ℕ). nat_eq i n) (sym s.position) ∙ other in
    let back : on_update c h n k ≡ ignoring c h (causes.From n h.place.position) = rw (l, p) refl in
    subst (λ (t : Turn). IsGiven machines c t (Ignored (causes.From n replica.position)) replica) (sym back) (rw s.position refl, s)

some_is : (s t : List ℕ) → Some s ≡ Some t → s ≡ t
some_is s t h = cc

pub update_applied : (machines : ℕ → Machine) (c : Common) (h : Host) (replica replica' : ReplicaPicture) (n k : ℕ) (update : List ℕ) →
    ((i : ℕ) → Stays (machines i)) → ((i : ℕ) → Updates (machines i)) → GivenStatesLoad → GivenUpdatesLead →
    IsSoundCommon (machines c.kind) c → ReplicaStands machines c replica h.place → IsUpdateBetween (machines c.kind) c n k update →
    replica.loaded ≡ true → replica.position ≡ n → replica' ≡ settled k replica'.state replica →
    (machines replica.kind).applied replica.state update ≡ Some replica'.state →
    IsGiven machines c (on_update c h n k) (Applied k) replica'
update_applied machines c h replica replica' n k update stays updates loads leads sound s at loaded here is applied =
    let l : h.place.loaded ≡ true = sym s.loaded ∙ loaded in
    let p : h.place.position ≡ n = sym s.position ∙ here in
    let same : nat_eq h.place.position n ≡ true = grind (arith, nat_tests) in
    let on : on_update c h n k ≡ brought_to k c h = rw (l, same) refl in
    let state = some_is _ _ (sym applied ∙ leads machines stays updates c replica h.place sound s l n k update here at) in
    subst (λ (t : Turn). IsGiven machines c t (Applied k) replica') (sym on) (refl, rw is (loads machines c replica s.kind k replica'.state (record { ran = at.ran; is = state })))
