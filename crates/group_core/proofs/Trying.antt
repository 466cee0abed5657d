-- A core of the tests, as its group goes on.
use Rattle.std.proofs.Common.{◌≡◌, ℕ, ◌<◌, Bool, true, false, List, [], ◌∷◌, refl, sym, ap, subst, ◌∙◌, arith}
use Rattle.std.specs.Prelude.{Option, Some}
use Rattle.std.specs.List.{AllByRecursion}
use Rattle.ft_base.specs.Machine.{Machine}
use Rattle.ft_base.specs.Members.{AreDifferent}
use Rattle.ft_base.specs.declared.decisions.Stop.{Stop}
use Rattle.ft_base.specs.declared.limits.TheConstants.{HOST_LIMIT}
use Rattle.ft_base.specs.declared.numbers.HostNo.{HostNo}
use Rattle.ft_base.specs.declared.numbers.Tick.{Tick}
use Rattle.ft_base.specs.declared.views.Style.{Style}
use Rattle.ft_base.specs.declared.views.Style.TheVariants.{Cold, Warm, Active}
use Rattle.message_log.specs.Opening.{IsReopened}
use Rattle.message_log.specs.Picture.{Picture as LogPicture}
use Rattle.message_log.specs.Written.{IsWrittenDown}
use Rattle.group_model.specs.declared.asking.Asked.{Asked}
use Rattle.group_model.specs.declared.events.Event.{Event}
use Rattle.group_model.specs.declared.events.Event.TheVariants as events
use Rattle.group_model.specs.declared.events.GroupAnswer.{GroupAnswer}
use Rattle.group_model.specs.declared.events.GroupAnswer.TheVariants as answers
use Rattle.group_model.specs.Agreeing.{IsShortAsked, taking_host}
use Rattle.group_model.specs.Plain.{Group}
use Rattle.group_model.specs.Reopening.{reopened}
use Rattle.ft_base.specs.Views.{is_passive}
use Rattle.group_model.specs.Views.{is_warm}
use Rattle.group_stands.specs.Telling.{LogsTell}
use Rattle.group_core.specs.Acting.{IsActed, IsTaken}
use Rattle.group_core.specs.Cores.{CorePicture, Stands}
use Rattle.group_core.specs.Resuming.{CoresMayGoOn, MayResume}
use Rattle.group_core.specs.Running.{is_short}
use Rattle.group_core.specs.Trying.{IsSome, MayCome}

warm_style : (style : Style) → is_warm style ≡ true → style ≡ Warm
warm_style Cold e = absurd cc
warm_style Warm e = refl
warm_style Active e = absurd cc

warm_passive : (style : Style) → is_warm style ≡ true → is_passive style ≡ true
warm_passive Cold e = refl
warm_passive Warm e = refl
warm_passive Active e = absurd cc

module _ (machines : ℕ → Machine) where
  pub opened : (core : CorePicture) (g : Group) → Stands machines core g → IsSome machines core
  opened core g stands = record { group = g; stands = stands }

  -- an event that memory sufficed for
  pub goes_on : (g : Group) (core : CorePicture) (e : Event) (answer : GroupAnswer) (calls now : ℕ) → IsActed machines g e answer core calls now → is_short answer ≡ false → IsSome machines core
  goes_on g core e answers.NoMemory calls now acted long = absurd cc
  goes_on g core e answer calls now acted long =
      let taken : IsTaken machines g e answer core calls now = acted in
      opened core _ taken.stands

  module _ (core : CorePicture) where
    pub may_ask : (host : HostNo) (clock : Tick) (asked : Asked) (stop : Stop) → host.0 < HOST_LIMIT → IsShortAsked asked → MayCome machines core (events.Request host clock asked stop)
    may_ask host clock asked stop there short g stands = record { host = there; brought = short }

    takes : LogsTell → (host : HostNo) → is_passive core.style ≡ true → core.log.newest.primary ≡ Some host → (g : Group) → Stands machines core g → taking_host g ≡ Some host
    takes tell host passive leads g stands =
        let so : is_passive g.common.style ≡ true = ap is_passive (sym stands.style) ∙ passive in
        let view = (tell machines g.common core.log stands.log).view in
        rw so (ap (λ v. v.primary) (sym view) ∙ leads)

    pub may_checkpoint : LogsTell → (host : HostNo) (clock : Tick) → host.0 < HOST_LIMIT → is_passive core.style ≡ true → core.log.newest.primary ≡ Some host → MayCome machines core (events.Checkpoint host clock)
    may_checkpoint tell host clock there passive leads g stands = record { host = there; brought = takes tell host passive leads g stands }

    pub may_send : LogsTell → (host : HostNo) → host.0 < HOST_LIMIT → is_warm core.style ≡ true → core.log.newest.primary ≡ Some host → MayCome machines core (events.SendUpdate host)
    may_send tell host there warm leads g stands = record {
      host = there;
      brought = (warm_style g.common.style (ap is_warm (sym stands.style) ∙ warm), takes tell host (warm_passive core.style warm) leads g stands);
    }

-- ---- a log that is opened again

pub goes_on_again : CoresMayGoOn → (machines : ℕ → Machine) (core now : CorePicture) (again : LogPicture) (kind : ℕ) (state : List ℕ) (pieces : List (List ℕ)) (plan : Option (List Bool)) (faults : ℕ) →
    IsSome machines core → IsWrittenDown core.log → pieces ≡ core.log.records → IsReopened pieces plan faults again → kind ≡ core.kind → state ≡ core.opening →
    ((g : Group) → MayResume machines core.id core.style kind state again g → Stands machines now g) → IsSome machines now
goes_on_again law machines core now again kind state pieces plan faults some written same opened is_kind is_state stands =
    let may = (law machines core some.group some.stands written).resumes again plan faults (subst (λ (ps : List (List ℕ)). IsReopened ps plan faults again) same opened) in
    record {
      group = reopened some.group;
      stands = stands (reopened some.group)
          (subst (λ (k : ℕ). MayResume machines core.id core.style k state again (reopened some.group)) (sym is_kind)
          (subst (λ (s : List ℕ). MayResume machines core.id core.style core.kind s again (reopened some.group)) (sym is_state) may));
    }

-- ---- four members

pub four_there : (members : List ℕ) → members ≡ 0 ∷ 1 ∷ 2 ∷ 3 ∷ [] → AllByRecursion (λ host. host < HOST_LIMIT) members × AreDifferent members
four_there members is = rw is ((omega arith, (omega arith, (omega arith, (omega arith, tt)))), (refl, (refl, (refl, (refl, tt)))))
