-- A core at its opening stands for a group at its opening.
use Rattle.std.proofs.Common.{◌≡◌, ℕ, suc, zero, ◌+◌, ◌<◌, ◌≤◌, Bool, true, false, List, [], ◌∷◌, ◌++◌, length, length-append, refl, sym, subst, ap, ◌∙◌, arith, inl, inr, ◌⊎◌}
use Rattle.std.specs.Prelude.{Option, Some, slice_get, if◌then◌else◌}
use Rattle.std.specs.List.{AllByRecursion}
use Rattle.ft_base.specs.Machine.{Machine}
use Rattle.ft_base.specs.Members.{AreDifferent, is_member}
use Rattle.ft_base.specs.Views.{IsView, IsPassivePrimary}
use Rattle.ft_base.specs.declared.limits.TheConstants.{HOST_LIMIT}
use Rattle.ft_base.specs.declared.views.TheConstants.{MEMBER_LIMIT}
use Rattle.ft_base.specs.declared.views.Style.{Style}
use Rattle.ft_base.specs.declared.views.Style.TheVariants.{Cold, Warm, Active}
use Rattle.ft_base.specs.declared.views.View.{View}
use Rattle.message_log.specs.Calls.{fresh}
use Rattle.message_log.specs.Picture.{Picture as LogPicture, IsLogged, IsPrimaryOf}
use Rattle.ft_replica.specs.Picture.{opened as opened_picture}
use Rattle.group_model.specs.Agreeing.{IsSoundHost}
use Rattle.ft_base.specs.Members.{first_of}
use Rattle.group_model.specs.Openings.{first_view, opens_loaded, opening_host, opening_common, opening_group}
use Rattle.group_model.specs.Plain.{Common, Host, blank, nowhere, loaded_at}
use Rattle.group_stands.specs.Going.{FreshLogsStand, OpenedReplicasStand, BlanksStand}
use Rattle.group_stands.specs.Holding.{NothingIsHeld}
use Rattle.group_stands.specs.Stands.{LogStands}
use Rattle.group_hosts.specs.Hosts.{HostPicture, HostStands, opening_picture}
use Rattle.group_core.specs.Cores.{Stands}
use Rattle.group_core.specs.Opening.{AreOpening}

-- ---- the first view

first_is_member : (members : List ℕ) → IsPassivePrimary members (first_of members)
first_is_member [] = refl
first_is_member (m ∷ members) = own m (is_member m members) where
  own : (m : ℕ) (rest : Bool) → is_member m (m ∷ members) ≡ true
  own m rest = grind arith

pub is_view : (style : Style) (members : List ℕ) → length members ≤ MEMBER_LIMIT → AreDifferent members → IsView style (first_view style members)
is_view Cold members few different = record { numbered = omega arith; last = omega arith; few = few; different = different; primary = first_is_member members }
is_view Warm members few different = record { numbered = omega arith; last = omega arith; few = few; different = different; primary = first_is_member members }
is_view Active members few different = record { numbered = omega arith; last = omega arith; few = few; different = different; primary = refl }

pub is_primary_of : (members : List ℕ) → IsPrimaryOf members (first_of members)
is_primary_of [] = tt
is_primary_of (m ∷ members) = first_is_member (m ∷ members)

pub is_logged : (style : Style) (members : List ℕ) → AllByRecursion (λ host. host < HOST_LIMIT) members → IsLogged (first_view style members)
is_logged Cold members hosts = record { hosts = hosts; primary = is_primary_of members }
is_logged Warm members hosts = record { hosts = hosts; primary = is_primary_of members }
is_logged Active members hosts = record { hosts = hosts; primary = tt }

-- ---- the hosts, one by one

pub slice_get-push : {X : Type 0} (xs : List X) (x y : X) (i : ℕ) → slice_get (xs ++ x ∷ []) i ≡ Some y → (slice_get xs i ≡ Some y) ⊎ ((i ≡ length xs) × (x ≡ y))
slice_get-push [] x y zero h = inr (refl, cc)
slice_get-push [] x y (suc i) h = cc
slice_get-push (z ∷ xs) x y zero h = inl h
slice_get-push (z ∷ xs) x y (suc i) h = elim (slice_get-push xs x y i h) [
  | inl before ↦ inl before
  | inr last ↦ inr (ap suc last.0, last.1)
]

module _ (kind : ℕ) (state : List ℕ) (style : Style) (view : View) where
  pub none_yet : AreOpening kind state style view [] 0
  none_yet = record { count = refl; each = λ i host there. cc }

  pub one_more : (hosts : List HostPicture) (host : HostPicture) (n : ℕ) → AreOpening kind state style view hosts n → host ≡ opening_picture kind state (opening_host style view n) →
      AreOpening kind state style view (hosts ++ host ∷ []) (n + 1)
  one_more hosts host n so is = record {
    count = let e = length-append hosts (host ∷ []) in omega (arith, e, so.count);
    each = λ i other there. elim (slice_get-push hosts host other i there) [
      | inl before ↦ so.each i other before
      | inr last ↦ sym last.1 ∙ is ∙ ap (λ (k : ℕ). opening_picture kind state (opening_host style view k)) (sym (last.0 ∙ so.count))
    ];
  }

-- ---- they stand for the plain group's

module _ (opened : OpenedReplicasStand) (blanks : BlanksStand) (nothing_held : NothingIsHeld) (machines : ℕ → Machine) (id : ℕ) (style : Style) (kind : ℕ) (state members : List ℕ) where
  abbrev opens : Common
  opens = opening_common id style kind state members

  loaded_stands : HostStands machines opens (opening_picture kind state (record { up = true; known = 1; place = loaded_at 0; holdback = [] })) (record { up = true; known = 1; place = loaded_at 0; holdback = [] })
  loaded_stands = record {
    up = refl;
    known = refl;
    replica = opened machines opens kind state (record { kind = refl; state = refl });
    held = nothing_held [] 0 0 [] refl;
  }

  blank_stands : (known : ℕ) → HostStands machines opens (opening_picture kind state (record { up = true; known = known; place = nowhere; holdback = [] })) (record { up = true; known = known; place = nowhere; holdback = [] })
  blank_stands known = record {
    up = refl;
    known = refl;
    replica = blanks machines opens (opened_picture kind state) refl;
    held = nothing_held [] 0 0 [] refl;
  }

  member_stands : (loaded : Bool) → HostStands machines opens
      (opening_picture kind state (record { up = true; known = 1; place = if loaded then loaded_at 0 else nowhere; holdback = [] }))
      (record { up = true; known = 1; place = if loaded then loaded_at 0 else nowhere; holdback = [] })
  member_stands true = loaded_stands
  member_stands false = blank_stands 1

  abbrev host_there : Bool → Bool → Host
  host_there is_one loaded = if is_one then record { up = true; known = 1; place = if loaded then loaded_at 0 else nowhere; holdback = [] } else blank true

  there_stands : (is_one loaded : Bool) → HostStands machines opens (opening_picture kind state (host_there is_one loaded)) (host_there is_one loaded)
  there_stands true loaded = member_stands loaded
  there_stands false loaded = blank_stands 0

  there_sound : (is_one loaded : Bool) → IsSoundHost opens (host_there is_one loaded)
  there_sound true true = record { known = (omega arith, inr (omega arith)); base = omega arith; position = omega arith; unloaded = λ e. cc; held = tt; passive = λ e. refl; down = λ e. absurd cc }
  there_sound true false = record { known = (omega arith, inr (omega arith)); base = omega arith; position = omega arith; unloaded = λ e. (refl, refl); held = tt; passive = λ e. refl; down = λ e. absurd cc }
  there_sound false loaded = record { known = (omega arith, inl refl); base = omega arith; position = omega arith; unloaded = λ e. (refl, refl); held = tt; passive = λ e. refl; down = λ e. absurd cc }

  module _ (fresh_logs : FreshLogsStand) (is_state : (machines kind).is_state state ≡ true) (few : length members ≤ MEMBER_LIMIT) (different : AreDifferent members)
      (hosts_there : AllByRecursion (λ host. host < HOST_LIMIT) members) where
    pub opening_stands : (hosts : List HostPicture) (log : LogPicture) (plan : Option (List Bool)) (faults : ℕ) →
        AreOpening kind state style (first_view style members) hosts HOST_LIMIT → log ≡ fresh (first_view style members) plan faults →
        Stands machines (record { id = id; style = style; kind = kind; opening = state; first_kept = 1; log = log; hosts = hosts }) (opening_group id style kind state members)
    opening_stands hosts log plan faults so is =
        let log_stands : LogStands machines opens log = rw is (fresh_logs machines id style kind state members plan faults is_state (is_view style members few different) hosts_there) in
        record {
          id = refl;
          style = refl;
          opening = record { kind = refl; state = refl };
          first_kept = refl;
          log = log_stands;
          count = so.count;
          hosts = λ i host there.
              subst (λ (p : HostPicture). HostStands machines opens p (opening_host style (first_view style members) i)) (sym (so.each i host there))
              (there_stands (is_member i members) (opens_loaded style (first_view style members) i));
          sound = record {
            common = log_stands.sound;
            hosts = λ i. there_sound (is_member i members) (opens_loaded style (first_view style members) i);
          };
        }
