-- A request that comes to its host.
use Rattle.std.proofs.Common.{◌≡◌, ℕ, ◌+◌, ◌≤◌, arith, Bool, true, false, List, [], Option, Some, None, refl, sym, ap, subst, ◌∙◌}
use Rattle.std.specs.Prelude.{if◌then◌else◌, slice_get, option_map, Result}
use Rattle.ft_base.specs.declared.memory.NoMemory.{NoMemory}
use Rattle.ft_base.specs.declared.numbers.GroupId.{GroupId}
use Rattle.ft_base.specs.declared.decisions.Stop.{Stop}
use Rattle.ft_report.specs.declared.reports.ReportLine.{ReportLine}
use Rattle.group_model.specs.declared.events.Out.{Out}
use Rattle.group_model.specs.Sending.{brought}
use Rattle.script_clients.specs.Clients.{Client}
use Rattle.script_groups.specs.Acting.{MayCome}
use Rattle.script_groups.specs.Groups.{ScriptGroup, Placed, group_numbered, placed}
use Rattle.script_groups.specs.Lists.{same_some}
use Rattle.script_world.specs.Sound.{IsOnItsWay, MayComeTo}
use Rattle.script_world.specs.World.{World, carried, is_deleted}
use Rattle.world_turns.specs.Answers.{Does}
use Rattle.world_turns.specs.Doing.{does_behind}
use Rattle.ft_world.specs.Delivering.{answered, asker_of, requested, turned_away}
use Rattle.ft_world.specs.Requests.{Asking, HasAsked, ask}
use Rattle.ft_world.specs.declared.asking.Said.{Said}
use Rattle.ft_world.specs.declared.deliveries.Asker.{Asker}
use Rattle.ft_world.specs.declared.deliveries.Arrival.{Arrival}
use Rattle.world_turns.specs.Naming.{Deleted, There, group_with_number, naming_of}
use Rattle.world_turns.specs.Turns.{Effect, costing, says}

none_mapped : {A B : Type 0} (f : A → B) (o : Option A) → option_map f o ≡ None → o ≡ None
none_mapped f None e = refl
none_mapped f (Some x) e = absurd cc

module _ (w : World) (k : ℕ) (r : Arrival) (stop : Stop) (place : ℕ) (g : ScriptGroup) where
  -- of a client that isn't there
  pub nobody_asks : option_map (asker_of r g) (slice_get w.clients r.client) ≡ None →
      requested w k r stop (There (placed place g)) (slice_get w.clients r.client) ≡ says w []
  nobody_asks none = ap (requested w k r stop (There (placed place g))) (none_mapped (asker_of r g) (slice_get w.clients r.client) none)

  asks_as : (asker : Asker) → option_map (asker_of r g) (slice_get w.clients r.client) ≡ Some asker →
      requested w k r stop (There (placed place g)) (slice_get w.clients r.client)
      ≡ costing (ask w (placed place g) r.host r.asked stop).calls (answered (ask w (placed place g) r.host r.asked stop).world k asker (ask w (placed place g) r.host r.asked stop).said)
  asks_as asker some = go (slice_get w.clients r.client) some
    where
      go : (o : Option Client) → option_map (asker_of r g) o ≡ Some asker →
          requested w k r stop (There (placed place g)) o
          ≡ costing (ask w (placed place g) r.host r.asked stop).calls (answered (ask w (placed place g) r.host r.asked stop).world k asker (ask w (placed place g) r.host r.asked stop).said)
      go None e = absurd cc
      go (Some c) e =
          ap (λ (x : Asker). costing (ask w (placed place g) r.host r.asked stop).calls (answered (ask w (placed place g) r.host r.asked stop).world k x (ask w (placed place g) r.host r.asked stop).said))
          (same_some (asker_of r g c) asker e)

  -- of a group that was deleted
  pub turned_away_is : (asker : Asker) → option_map (asker_of r g) (slice_get w.clients r.client) ≡ Some asker →
      requested w k r stop (Deleted (placed place g)) (slice_get w.clients r.client) ≡ turned_away w k asker
  turned_away_is asker some = go (slice_get w.clients r.client) some
    where
      go : (o : Option Client) → option_map (asker_of r g) o ≡ Some asker → requested w k r stop (Deleted (placed place g)) o ≡ turned_away w k asker
      go None e = absurd cc
      go (Some c) e = ap (turned_away w k) (same_some (asker_of r g c) asker e)

  pub nobody_turned_away : option_map (asker_of r g) (slice_get w.clients r.client) ≡ None →
      requested w k r stop (Deleted (placed place g)) (slice_get w.clients r.client) ≡ says w []
  nobody_turned_away none = ap (requested w k r stop (Deleted (placed place g))) (none_mapped (asker_of r g) (slice_get w.clients r.client) none)

  -- whom it is from
  pub asker_is : (asker : Asker) → option_map (asker_of r g) (slice_get w.clients r.client) ≡ Some asker → (asker.host ≡ r.host) × (asker.group ≡ g.id)
  asker_is asker some = go (slice_get w.clients r.client) some
    where
      go : (o : Option Client) → option_map (asker_of r g) o ≡ Some asker → (asker.host ≡ r.host) × (asker.group ≡ g.id)
      go None e = absurd cc
      go (Some c) e = (let same = same_some (asker_of r g c) asker e in (ap (λ (x : Asker). x.host) (sym same), ap (λ (x : Asker). x.group) (sym same)))

  -- no memory for it
  pub short_request : (asker : Asker) → option_map (asker_of r g) (slice_get w.clients r.client) ≡ Some asker → (before now : ℕ) →
      now ≤ before + (ask w (placed place g) r.host r.asked stop).calls →
      now ≤ before + (requested w k r stop (There (placed place g)) (slice_get w.clients r.client)).calls
  short_request asker some before now calls = subst (λ (f : Effect). now ≤ before + f.calls) (sym (asks_as asker some)) (omega (arith, calls))

  -- it was asked, and what came of that was done
  pub request_done : (asker : Asker) → option_map (asker_of r g) (slice_get w.clients r.client) ≡ Some asker → (said : Said) (later new : World) (before between now : ℕ) →
      HasAsked (ask w (placed place g) r.host r.asked stop) said later before between →
      (result : Result (List ReportLine) NoMemory) → Does (answered later k asker said) result new between now →
      Does (requested w k r stop (There (placed place g)) (slice_get w.clients r.client)) result new before now
  request_done asker some said later new before between now had result done =
      let a : Asking = ask w (placed place g) r.host r.asked stop in
      subst (λ (f : Effect). Does f result new before now) (sym (asks_as asker some))
      (does_behind a.calls (answered a.world k asker a.said) result new before between now had.calls
      (subst (λ (s : Said). Does (answered a.world k asker s) result new between now) had.said
      (subst (λ (v : World). Does (answered v k asker said) result new between now) had.world done)))

-- ---- a group that is there

pub there_is : (w : World) (o : Option (Placed ScriptGroup)) (p : Placed ScriptGroup) → naming_of w o ≡ There p → o ≡ Some p
unfolding naming_of
there_is w None p e = absurd cc
there_is w (Some q) p e = go (is_deleted w q.value) e
  where
    go : (b : Bool) → (if b then Deleted q else There q) ≡ There p → Some q ≡ Some p
    go true f = absurd cc
    go false f = cc

-- what was sent may come to it
pub may_come : (w : World) (group : GroupId) (out : Out) (place : ℕ) (g h : ScriptGroup) → IsOnItsWay w.groups (carried group out) →
    group_with_number w group.0 ≡ There (placed place g) → slice_get w.groups place ≡ Some g → slice_get w.groups place ≡ Some h → MayCome h (brought out)
may_come w group out place g h comes named at there =
    subst (λ (x : ScriptGroup). MayCome x (brought out)) (same_some g h (sym at ∙ there))
    (subst (λ (o : Option (Placed ScriptGroup)). MayComeTo o out) (there_is w (group_numbered w.groups group.0) (placed place g) named) comes)
