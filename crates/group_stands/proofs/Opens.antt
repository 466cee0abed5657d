-- A fresh log and a replica that was just opened stand for a group at its opening.
use Rattle.std.proofs.Common.{◌≡◌, ℕ, zero, suc, ◌<◌, Bool, true, List, [], ◌∷◌, Option, Some, refl, sym, subst, ◌∙◌, arith}
use Rattle.std.specs.Prelude.{slice_get}
use Rattle.std.specs.List.{AllByRecursion}
use Rattle.ft_base.specs.Machine.{Machine}
use Rattle.ft_base.specs.Views.{IsView}
use Rattle.ft_base.specs.declared.limits.TheConstants.{HOST_LIMIT}
use Rattle.ft_base.specs.declared.views.Style.{Style}
use Rattle.ft_base.specs.declared.views.View.{View}
use Rattle.message_log.specs.Calls.{fresh}
use Rattle.message_log.specs.Laws.{StandsFresh}
use Rattle.ft_replica.specs.Picture.{opened}
use Rattle.group_model.specs.Agreeing.{IsViewAt, AreViews}
use Rattle.group_model.specs.Openings.{first_view, opening_common}
use Rattle.group_model.specs.Plain.{Common, loaded_at}
use Rattle.group_stands.specs.Stands.{LogStands, ReplicaStands, OpeningStands}
use Rattle.group_stands.proofs.Runs.{no_entries}

first_is : (style : Style) (v : View) → v.version.0 ≡ 1 → IsView style v → AllByRecursion (λ host. host < HOST_LIMIT) v.members →
    (k : ℕ) (w : View) → slice_get (v ∷ []) k ≡ Some w → IsViewAt style k w
first_is style v numbered is hosts zero w at =
    let same : v ≡ w = cc in
    subst (IsViewAt style 0) same (record { numbered = numbered; is = is; hosts = hosts })
first_is style v numbered is hosts (suc k) w at = absurd cc

first_views : (style : Style) (v : View) → v.version.0 ≡ 1 → IsView style v → AllByRecursion (λ host. host < HOST_LIMIT) v.members → AreViews style (v ∷ [])
first_views style v numbered is hosts = record {
  some = omega arith;
  few = omega arith;
  each = first_is style v numbered is hosts;
}

pub fresh_stands : StandsFresh → (machines : ℕ → Machine) (id : ℕ) (style : Style) (kind : ℕ) (opening members : List ℕ) (plan : Option (List Bool)) (faults : ℕ) →
    (machines kind).is_state opening ≡ true → IsView style (first_view style members) → AllByRecursion (λ host. host < HOST_LIMIT) members →
    LogStands machines (opening_common id style kind opening members) (fresh (first_view style members) plan faults)
fresh_stands law machines id style kind opening members plan faults opens is hosts =
    let stands = law (first_view style members) plan faults in
    record {
      views = refl;
      mark = refl;
      time = refl;
      journal = stands;
      state = refl;
      replies = λ n r at. absurd cc;
      sound = record {
        opens = opens;
        views = first_views style (first_view style members) refl is hosts;
        kept = record { some = omega arith; last = omega arith };
        journal = record { few = omega arith; so = stands.is_journal; fit = tt; short = tt };
        numbers = record { mark = omega arith; ran = omega arith; fresh = λ no. refl };
      };
    }

pub opened_stands : (machines : ℕ → Machine) (c : Common) (kind : ℕ) (opening : List ℕ) → OpeningStands c kind opening →
    ReplicaStands machines c (opened kind opening) (loaded_at 0)
opened_stands machines c kind opening opens =
    let is = opens.state ∙ sym (no_entries (machines c.kind) c.opening) in
    record {
      kind = opens.kind;
      loaded = refl;
      position = refl;
      base = refl;
      state = λ _. is;
      copied = λ _. is;
      order = omega arith;
      ran = omega arith;
    }
