-- An event at its host is an event of the group.
use Rattle.std.proofs.Common.{◌≡◌, ℕ, suc, zero, ◌<◌, inl, inr, Bool, true, false, List, [], ◌∷◌, set, get_or, length, length-set, refl, sym, subst, ap, ◌∙◌, arith, eq-eqb}
use Rattle.std.specs.Prelude.{Some, nat_eq, slice_get, if◌then◌else◌}
use Rattle.std.proofs.lemmas.Bool.{cases_eq}
use Rattle.std.proofs.lemmas.Bool.Decides.{nat_tests}
use Rattle.ft_base.specs.Machine.{Machine}
use Rattle.ft_base.specs.Laws.{Stays}
use Rattle.message_log.specs.Picture.{Picture as LogPicture}
use Rattle.group_model.specs.declared.events.Event.{Event}
use Rattle.group_model.specs.declared.events.GroupAnswer.{GroupAnswer}
use Rattle.group_model.specs.declared.events.GroupAnswer.TheVariants.{NoMemory}
use Rattle.group_model.specs.Agreeing.{IsSoundHost, IsSound, Agrees}
use Rattle.group_model.specs.Events.{after_event, host_of, turn_of, shows_fault}
use Rattle.group_model.specs.Laws.{Grows, GroupsGrow, GroupsStaySound}
use Rattle.group_model.specs.Lean.{IsLean, nothing, partly, unrun}
use Rattle.group_model.specs.Plain.{Host, Group, blank, put}
use Rattle.group_model.specs.Runs.{Step}
use Rattle.group_model.specs.Steps.{LeanGrows}
use Rattle.group_stands.specs.Going.{ReplicasGoOn}
use Rattle.group_stands.specs.Holding.{HoldbacksGoOn}
use Rattle.group_stands.specs.Stands.{LogStands}
use Rattle.group_hosts.specs.Hosts.{HostPicture, HostStands}
use Rattle.group_hosts.specs.Turning.{seen}
use Rattle.group_hosts.specs.Turning as turns
use Rattle.group_core.specs.Acting.{IsActed}
use Rattle.group_core.specs.Cores.{CorePicture, Stands}
use Rattle.group_core.proofs.Growing.{event_sound, event_grows, sound_stays, host_stays}

-- ---- places of a list

slice_get-set_same : {X : Type 0} (xs : List X) (i : ℕ) (x y : X) → slice_get (set xs i x) i ≡ Some y → x ≡ y
slice_get-set_same [] i x y h = cc
slice_get-set_same (z ∷ xs) zero x y h = cc
slice_get-set_same (z ∷ xs) (suc i) x y h = slice_get-set_same xs i x y h

slice_get-set_other : {X : Type 0} (xs : List X) (i j : ℕ) (x : X) → (j ≡ i → ⊥) → slice_get (set xs i x) j ≡ slice_get xs j
slice_get-set_other [] i j x ne = refl
slice_get-set_other (z ∷ xs) zero zero x ne = absurd (ne refl)
slice_get-set_other (z ∷ xs) zero (suc j) x ne = refl
slice_get-set_other (z ∷ xs) (suc i) zero x ne = refl
slice_get-set_other (z ∷ xs) (suc i) (suc j) x ne = slice_get-set_other xs i j x (λ e. ne (ap suc e))

pub slice_get-read : {X : Type 0} (xs : List X) (i : ℕ) (x : X) → i < length xs → x ≡ get_or xs i x → slice_get xs i ≡ Some x
slice_get-read [] i x lt e = absurd (omega arith)
slice_get-read (y ∷ xs) zero x lt e = ap Some (sym e)
slice_get-read (y ∷ xs) (suc i) x lt e = slice_get-read xs i x (omega arith) e

-- ---- one host in place of another

put-same : (hosts : ℕ → Host) (at : ℕ) (h : Host) → put hosts at h at ≡ h
put-same hosts at h = ap (λ (b : Bool). if b then h else hosts at) (eq-eqb at at refl)

put-other : (hosts : ℕ → Host) (at : ℕ) (h : Host) (i : ℕ) → (i ≡ at → ⊥) → put hosts at h i ≡ hosts i
put-other hosts at h i ne = let off : nat_eq i at ≡ false = grind (arith, nat_tests) in ap (λ (b : Bool). if b then h else hosts i) off

-- a group that differs from another in its common part and in one host
abbrev IsBeside : Group → ℕ → Group → Type 0
IsBeside g at left = (i : ℕ) → (i ≡ at → ⊥) → left.hosts i ≡ g.hosts i

beside_event : (m : Machine) (g : Group) (e : Event) (fails : Bool) → IsBeside g (host_of e) (after_event m g e fails)
beside_event m g e fails = λ i ne. put-other g.hosts (host_of e) (turn_of m g e fails).host i ne

beside_lean : (m : Machine) (g : Group) (e : Event) (left : Group) → IsLean m g e left → IsBeside g (host_of e) left
beside_lean m g e left (nothing same) = λ i ne. ap (λ (x : Group). x.hosts i) same
beside_lean m g e left (partly is) = λ i ne. ap (λ (x : Group). x.hosts i) is.is ∙ put-other g.hosts (host_of e) is.host i ne
beside_lean m g e left (unrun is) = λ i ne. ap (λ (x : Group). x.hosts i) is.is ∙ put-other g.hosts (host_of e) (blank true) i ne

module _ (replicas : ReplicasGoOn) (holdbacks : HoldbacksGoOn) (machines : ℕ → Machine) (core : CorePicture) (g : Group) (stands : Stands machines core g) where
  -- the core with another log and one host in place of another
  abbrev moved_core : ℕ → LogPicture → HostPicture → CorePicture
  moved_core at log host = record core { log = log; hosts = set core.hosts at host }

  stands_after : (at : ℕ) (left : Group) (log : LogPicture) (host : HostPicture) → IsBeside g at left → Grows g.common left.common → LogStands machines left.common log →
      HostStands machines left.common host (left.hosts at) → IsSound (machines left.common.kind) left → Stands machines (moved_core at log host) left
  stands_after at left log host beside grows log_stands host_stands sound = record {
    id = stands.id ∙ sym grows.id;
    style = stands.style ∙ sym grows.style;
    opening = record { kind = stands.opening.kind ∙ sym grows.kind; state = stands.opening.state ∙ sym grows.opening };
    first_kept = stands.first_kept ∙ sym grows.first_kept;
    log = log_stands;
    count = length-set core.hosts at host ∙ stands.count;
    hosts = λ i other there. elim (cases_eq i at) [
      | inl same ↦
          let there' : slice_get (set core.hosts at host) at ≡ Some other = subst (λ (j : ℕ). slice_get (set core.hosts at host) j ≡ Some other) same there in
          let e : host ≡ other = slice_get-set_same core.hosts at host other there' in
          subst (λ (j : ℕ). HostStands machines left.common other (left.hosts j)) (sym same) (subst (λ (p : HostPicture). HostStands machines left.common p (left.hosts at)) e host_stands)
      | inr ne ↦
          let there' = sym (slice_get-set_other core.hosts at i host ne) ∙ there in
          subst (λ (x : Host). HostStands machines left.common other x) (sym (beside i ne))
          (host_stays replicas holdbacks machines g.common left.common other (g.hosts i) stands.log.sound.numbers.ran grows (stands.hosts i other there'))
    ];
    sound = sound;
  }

  -- what want of memory leaves is sound
  left_sound : (at : ℕ) (left : Group) (log : LogPicture) → IsBeside g at left → Grows g.common left.common → LogStands machines left.common log → IsSoundHost left.common (left.hosts at) →
      IsSound (machines left.common.kind) left
  left_sound at left log beside grows log_stands sound = record {
    common = log_stands.sound;
    hosts = λ i. elim (cases_eq i at) [
      | inl same ↦ subst (λ (j : ℕ). IsSoundHost left.common (left.hosts j)) (sym same) sound
      | inr ne ↦ subst (λ (x : Host). IsSoundHost left.common x) (sym (beside i ne)) (sound_stays g.common left.common (g.hosts i) grows (stands.sound.hosts i))
    ];
  }

  module _ (sounds : GroupsStaySound) (all_grow : GroupsGrow) (lean_grows : LeanGrows) (stays : (k : ℕ) → Stays (machines k)) (e : Event) (agrees : Agrees (machines g.common.kind) e g) where
    pub acted : (answer : GroupAnswer) (log : LogPicture) (host : HostPicture) (before now : ℕ) → turns.IsTurn machines g e answer before (seen log host now) →
        IsActed machines g e answer (moved_core (host_of e) log host) before now
    acted NoMemory log host before now short =
        let m = machines g.common.kind in
        let grows = lean_grows m g e short.left stands.log.sound.numbers.ran short.lean in
        let beside = beside_lean m g e short.left short.lean in
        record {
          left = short.left;
          lean = short.lean;
          stands = stands_after (host_of e) short.left log host beside grows short.log short.host (left_sound (host_of e) short.left log beside grows short.log short.sound);
          calls = short.calls;
          unwritten = short.unwritten;
        }
    acted answer log host before now taken =
        let m = machines g.common.kind in
        let step : Step = record { event = e; fails = shows_fault answer } in
        let after = after_event m g e (shows_fault answer) in
        let grows = event_grows all_grow m g step in
        let sound : IsSound (machines after.common.kind) after = rw grows.kind (event_sound sounds m (stays g.common.kind) g step stands.sound agrees) in
        let host_stands = subst (λ (x : Host). HostStands machines after.common host x) (sym (put-same g.hosts (host_of e) (turn_of m g e (shows_fault answer)).host)) taken.host in
        record {
          stands = stands_after (host_of e) after log host (beside_event m g e (shows_fault answer)) grows taken.log host_stands sound;
          told = taken.told;
          calls = taken.calls;
        }
