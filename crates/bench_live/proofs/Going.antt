-- A core, as its group goes on.
use Rattle.std.proofs.Common.{ℕ, ◌<◌}
use Rattle.ft_base.specs.Machine.{Machine}
use Rattle.ft_base.specs.declared.decisions.Stop.{Stop}
use Rattle.ft_base.specs.declared.limits.TheConstants.{HOST_LIMIT}
use Rattle.ft_base.specs.declared.numbers.HostNo.{HostNo}
use Rattle.ft_base.specs.declared.numbers.Tick.{Tick}
use Rattle.group_model.specs.declared.asking.Asked.{Asked}
use Rattle.group_model.specs.declared.events.Event.{Event}
use Rattle.group_model.specs.declared.events.Event.TheVariants as events
use Rattle.group_model.specs.declared.events.GroupAnswer.{GroupAnswer}
use Rattle.group_model.specs.declared.events.GroupAnswer.TheVariants.{NoMemory}
use Rattle.group_model.specs.Agreeing.{IsShortAsked}
use Rattle.group_model.specs.Events.{after_event, shows_fault}
use Rattle.group_model.specs.Plain.{Group}
use Rattle.group_core.specs.Acting.{IsActed}
use Rattle.group_core.specs.Cores.{CorePicture}
use Rattle.group_core.specs.Trying.{IsSome, MayCome}

module _ (machines : ℕ → Machine) where
  pub goes_on : (g : Group) (e : Event) (answer : GroupAnswer) (core : CorePicture) (before now : ℕ) → IsActed machines g e answer core before now → IsSome machines core
  goes_on g e NoMemory core before now short = record { group = short.left; stands = short.stands }
  goes_on g e answer core before now taken = record { group = after_event (machines g.common.kind) g e (shows_fault answer); stands = taken.stands }

  pub may_ask : (core : CorePicture) (host : HostNo) (clock : Tick) (asked : Asked) (stop : Stop) → host.0 < HOST_LIMIT → IsShortAsked asked → MayCome machines core (events.Request host clock asked stop)
  may_ask core host clock asked stop there short g stands = record { host = there; brought = short }
