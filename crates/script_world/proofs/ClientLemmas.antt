-- Clients that change one at a place, and keep their names.
use Rattle.std.proofs.Common.{◌≡◌, ℕ, List, Option, Some, None, Result, Ok, Err, refl, sym, ap, ◌∙◌}
use Rattle.std.specs.Prelude.{IfOk, OnErr, OnOk, slice_get, slice_set}
use Rattle.ft_base.specs.declared.numbers.GroupId.{GroupId}
use Rattle.ft_base.specs.declared.numbers.Tick.{Tick}
use Rattle.client_retry.specs.Clients as retries
use Rattle.client_retry.specs.declared.answers.Heard.{Heard}
use Rattle.iogr_reference.specs.declared.references.GroupRef.{GroupRef}
use Rattle.script_clients.specs.Clients.{Client, Turn, going_on, binding, failing, hearing, taking}
use Rattle.script_clients.specs.declared.answers.Call.{Call}
use Rattle.script_clients.specs.declared.answers.Told.{Told}
use Rattle.script_world.specs.World.{World, with_client}
use Rattle.script_groups.specs.Lists.{same_some}

-- ---- each call keeps the name

going_keeps : (c : Client) (call : Option Call) (turn : retries.Turn) → (going_on c call turn).client.name ≡ c.name
going_keeps c None turn = refl
going_keeps c (Some call) turn = refl

pub heard_keeps : (c later : Client) (id : ℕ) (heard : Heard) (now : Tick) → later ≡ (hearing c id heard now).client → later.name ≡ c.name
heard_keeps c later id heard now is = ap (λ (x : Client). x.name) is ∙ going_keeps c c.call _

pub failed_keeps : (c later : Client) (now : Tick) → later ≡ (failing c now).client → later.name ≡ c.name
failed_keeps c later now is = ap (λ (x : Client). x.name) is ∙ going_keeps c c.call _

pub taken_keeps : {E : Type 0} (group : GroupId) (c later : Client) (r : Result (Option GroupRef) E) →
    IfOk r (λ reference. (reference ≡ (taking c group).reference) × (later ≡ (taking c group).client)) → OnErr r (later ≡ c) → later.name ≡ c.name
taken_keeps group c later (Ok reference) taken kept = ap (λ (x : Client). x.name) taken.1
taken_keeps group c later (Err e) taken kept = ap (λ (x : Client). x.name) kept

pub bound_keeps : {E : Type 0} (reference : GroupRef) (c later : Client) (r : Result (Unit {0}) E) → OnOk r (later ≡ binding c reference) → OnErr r (later ≡ c) → later.name ≡ c.name
bound_keeps reference c later (Ok done) bound kept = ap (λ (x : Client). x.name) bound
bound_keeps reference c later (Err e) bound kept = ap (λ (x : Client). x.name) kept

-- ---- what a call says of the client is what it says of the clients

module _ (items now : List Client) (same : items ≡ now) (place : ℕ) (x later : Client) (at : slice_get items place ≡ Some x) where
  here : (s : Client) → slice_get now place ≡ Some s → x ≡ s
  here s there = same_some x s (sym at ∙ ap (λ (cs : List Client). slice_get cs place) same ∙ there)

  set : (f : Client → Client) (s : Client) → slice_get now place ≡ Some s → later ≡ f x → slice_set items place later ≡ slice_set now place (f s)
  set f s there is = ap (λ (cs : List Client). slice_set cs place later) same ∙ ap (λ (c : Client). slice_set now place c) (is ∙ ap f (here s there))

  pub turned_at : {E : Type 0} (turn : Client → Turn) (r : Result Told E) → IfOk r (λ told. told ≡ (turn x).told) → later ≡ (turn x).client → (s : Client) → slice_get now place ≡ Some s →
      IfOk r (λ told. (told ≡ (turn s).told) × (slice_set items place later ≡ slice_set now place (turn s).client))
  turned_at turn (Ok told) is client s there = (is ∙ ap (λ (c : Client). (turn c).told) (here s there), set (λ c. (turn c).client) s there client)
  turned_at turn (Err e) is client s there = tt

  pub taken_at : {E : Type 0} (group : GroupId) (r : Result (Option GroupRef) E) →
      IfOk r (λ reference. (reference ≡ (taking x group).reference) × (later ≡ (taking x group).client)) → (s : Client) → slice_get now place ≡ Some s →
      IfOk r (λ reference. (reference ≡ (taking s group).reference) × (slice_set items place later ≡ slice_set now place (taking s group).client))
  taken_at group (Ok reference) is s there = (is.0 ∙ ap (λ (c : Client). (taking c group).reference) (here s there), set (λ c. (taking c group).client) s there is.1)
  taken_at group (Err e) is s there = tt

  pub bound_at : {E : Type 0} (reference : GroupRef) (r : Result (Unit {0}) E) → OnOk r (later ≡ binding x reference) → (s : Client) → slice_get now place ≡ Some s →
      OnOk r (slice_set items place later ≡ slice_set now place (binding s reference))
  bound_at reference (Ok done) is s there = set (λ c. binding c reference) s there is
  bound_at reference (Err e) is s there = tt

-- ---- and of the world

pub world_has : {A E : Type 0} (w : World) (place : ℕ) (c : Client) (says : A → Type 0) (clients : List Client) (r : Result A E) →
    IfOk r (λ a. says a × (clients ≡ slice_set w.clients place c)) → IfOk r (λ a. says a × (record w { clients = clients } ≡ with_client w place c))
world_has w place c says clients (Ok a) is = (is.0, ap (λ (cs : List Client). record w { clients = cs }) is.1)
world_has w place c says clients (Err e) is = tt

pub world_is : {A E : Type 0} (w : World) (place : ℕ) (c : Client) (clients : List Client) (r : Result A E) →
    OnOk r (clients ≡ slice_set w.clients place c) → OnOk r (record w { clients = clients } ≡ with_client w place c)
world_is w place c clients (Ok a) is = ap (λ (cs : List Client). record w { clients = cs }) is
world_is w place c clients (Err e) is = tt
