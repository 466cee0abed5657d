-- A core, as its group goes on.
use Rattle.std.proofs.Common.{◌≡◌, ℕ, ◌<◌, ◌≤◌, ◌+◌, ◌∙◌, inl, inr, true, List, [], ◌∷◌, length, refl, sym, ap, subst, arith}
use Rattle.std.specs.Prelude.{Option, Some, slice_get}
use Rattle.std.specs.Option.{unwrap_or}
use Rattle.std.specs.List.{AllByRecursion}
use Rattle.std.specs.Str.{bytes_eq}
use Rattle.std.proofs.lemmas.Bool.{cases_lt}
use Rattle.std.proofs.lemmas.List.{same_lists}
use Rattle.std.proofs.lemmas.Option.{unwrap_or-slice_get}
use Rattle.std.proofs.lemmas.Slice.Eq.{bytes_eq-Decides}
use Rattle.ft_base.specs.Machine.{Machine}
use Rattle.ft_base.specs.Members.{AreDifferent}
use Rattle.ft_base.specs.declared.decisions.Stop.{Stop}
use Rattle.ft_base.specs.declared.limits.TheConstants.{HOST_LIMIT}
use Rattle.ft_base.specs.declared.numbers.HostNo.{HostNo}
use Rattle.ft_base.specs.declared.numbers.Tick.{Tick}
use Rattle.group_model.specs.declared.asking.Asked.{Asked}
use Rattle.group_model.specs.declared.events.Event.{Event}
use Rattle.group_model.specs.declared.events.Event.TheVariants as events
use Rattle.group_model.specs.declared.events.GroupAnswer.{GroupAnswer}
use Rattle.group_model.specs.declared.events.GroupAnswer.TheVariants.{NoMemory}
use Rattle.group_model.specs.Agreeing.{IsShortAsked}
use Rattle.group_model.specs.Events.{after_event, shows_fault}
use Rattle.group_model.specs.Plain.{Group}
use Rattle.group_model.specs.Takers.{taker, TakersMayTake}
use Rattle.group_core.specs.Acting.{IsActed}
use Rattle.group_core.specs.Cores.{CorePicture, Stands}
use Rattle.group_core.specs.Trying.{IsSome, MayCome}

module _ (machines : ℕ → Machine) where
  pub goes_on : (g : Group) (e : Event) (answer : GroupAnswer) (core : CorePicture) (before now : ℕ) → IsActed machines g e answer core before now → IsSome machines core
  goes_on g e NoMemory core before now short = record { group = short.left; stands = short.stands }
  goes_on g e answer core before now taken = record { group = after_event (machines g.common.kind) g e (shows_fault answer); stands = taken.stands }

  pub may_ask : (core : CorePicture) (host : HostNo) (clock : Tick) (asked : Asked) (stop : Stop) → host.0 < HOST_LIMIT → IsShortAsked asked → MayCome machines core (events.Request host clock asked stop)
  may_ask core host clock asked stop there short g stands = record { host = there; brought = short }

  pub may_take : TakersMayTake → (core : CorePicture) (host : HostNo) (clock : Tick) → ((g : Group) → Stands machines core g → Some host ≡ taker g) → MayCome machines core (events.Checkpoint host clock)
  may_take law core host clock takes g stands = (law (machines g.common.kind) g host clock stands.sound (sym (takes g stands))).agrees

pub one_there : (members : List ℕ) → members ≡ 0 ∷ [] → AllByRecursion (λ host. host < HOST_LIMIT) members × AreDifferent members
one_there members is = rw is ((omega arith, tt), (refl, tt))

-- ---- two keepers with the same records

pub same_record : (one other : List (List ℕ)) (i : ℕ) (piece copy : List ℕ) → Some piece ≡ slice_get one i → Some copy ≡ slice_get other i → bytes_eq piece copy ≡ true → slice_get one i ≡ slice_get other i
same_record one other i piece copy there here same = sym there ∙ ap (λ (r : List ℕ). Some r) ((bytes_eq-Decides piece copy).0 same) ∙ here

pub one_more : (one other : List (List ℕ)) (n : ℕ) → ((i : ℕ) → i < n → slice_get one i ≡ slice_get other i) → slice_get one n ≡ slice_get other n →
    (i : ℕ) → i < n + 1 → slice_get one i ≡ slice_get other i
one_more one other n before now i within = elim (cases_lt i n) [
  | inl less ↦ before i less
  | inr past ↦ let is : n ≡ i = omega (arith, within, past) in subst (λ (k : ℕ). slice_get one k ≡ slice_get other k) is now
]

pub same_at_each : (one other : List (List ℕ)) (n : ℕ) → length one ≡ n → length other ≡ n → ((i : ℕ) → i < n → slice_get one i ≡ slice_get other i) → one ≡ other
same_at_each one other n long even each = same_lists one other (long ∙ sym even) (λ i d within.
    let here : i < n = rw long at within in
    sym (unwrap_or-slice_get one i d) ∙ ap (λ (x : Option (List ℕ)). unwrap_or x d) (each i here) ∙ unwrap_or-slice_get other i d)
