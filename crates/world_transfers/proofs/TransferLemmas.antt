-- What was done behind an event at a group.
use Rattle.std.proofs.Common.{◌≡◌, ℕ, ◌+◌, ◌≤◌, arith, List, Some, sym, ap, subst, ◌∙◌}
use Rattle.std.specs.Prelude.{slice_get, Result}
use Rattle.ft_base.specs.declared.memory.NoMemory.{NoMemory}
use Rattle.ft_base.specs.declared.numbers.HostNo.{HostNo}
use Rattle.ft_report.specs.declared.reports.ReportLine.{ReportLine}
use Rattle.group_model.specs.declared.events.Event.{Event}
use Rattle.group_model.specs.declared.events.GroupAnswer.{GroupAnswer}
use Rattle.group_model.specs.declared.events.GroupAnswer.TheVariants as answers
use Rattle.script_groups.specs.Groups.{ScriptGroup, acted, turn}
use Rattle.script_groups.specs.Lists.{get_set, same_some}
use Rattle.script_world.specs.World.{World, with_event}
use Rattle.script_world.specs.Worlds.{HasTurnAt, IsShortAt}
use Rattle.world_turns.specs.Answers.{Does}
use Rattle.world_turns.specs.Doing.{does_behind}
use Rattle.world_turns.specs.Turns.{Effect, costing}

-- an event e of the code, which is the event f of the definition
module _ (w : World) (place : ℕ) (g : ScriptGroup) (there : slice_get w.groups place ≡ Some g) (e f : Event) (same_event : e ≡ f) where
  module _ (a : GroupAnswer) (later : World) (before between : ℕ) (it : HasTurnAt w place e a later before between) where
    same : it.group ≡ g
    same = same_some it.group g (sym it.there ∙ there)

    later_is : later ≡ with_event w place g f
    later_is = it.is ∙ ap (λ (s : ScriptGroup). with_event w place s e) same ∙ ap (with_event w place g) same_event

    -- the group that has had it stands at the place
    pub stands : slice_get later.groups place ≡ Some (acted g f)
    stands = subst (λ (v : World). slice_get v.groups place ≡ Some (acted g f)) (sym later_is) (get_set w.groups place (acted g f) g there)

    -- and what came of its answer was done
    pub done_behind : (made : World → HostNo → ScriptGroup → GroupAnswer → Effect) (host : HostNo) (result : Result (List ReportLine) NoMemory) (new : World) (now : ℕ) →
        Does (made later host (acted g f) a) result new between now →
        Does (costing (turn g f).calls (made (with_event w place g f) host (acted g f) (turn g f).answer)) result new before now
    done_behind made host result new now done =
        let answer_is : (turn g f).answer ≡ a =
        ap (λ (x : Event). (turn g x).answer) (sym same_event) ∙ ap (λ (s : ScriptGroup). (turn s e).answer) (sym same) ∙ it.told in
        let counted : between ≡ before + (turn g f).calls =
        it.calls ∙ ap (λ (s : ScriptGroup). before + (turn s e).calls) same ∙ ap (λ (x : Event). before + (turn g x).calls) same_event in
        does_behind (turn g f).calls (made (with_event w place g f) host (acted g f) (turn g f).answer) result new before between now counted
        (subst (λ (b : GroupAnswer). Does (made (with_event w place g f) host (acted g f) b) result new between now) (sym answer_is)
        (subst (λ (v : World). Does (made v host (acted g f) a) result new between now) later_is done))

  -- no memory for it
  pub short_behind : (made : World → HostNo → ScriptGroup → GroupAnswer → Effect) (host : HostNo) (before now : ℕ) → IsShortAt w place e before now →
      now ≤ before + (costing (turn g f).calls (made (with_event w place g f) host (acted g f) (turn g f).answer)).calls
  short_behind made host before now it =
      let same : it.group ≡ g = same_some it.group g (sym it.there ∙ there) in
      let calls : now ≤ before + (turn g f).calls =
      subst (λ (y : Event). now ≤ before + (turn g y).calls) same_event (subst (λ (s : ScriptGroup). now ≤ before + (turn s e).calls) same it.calls) in
      omega (arith, calls)
