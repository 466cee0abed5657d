-- What is seen of a group without changing it, as the answers of a turn; there may be no memory for them.
use Rattle.std.specs.Prelude.{◌≡◌, Option, Result, IfOk}
use Rattle.ft_base.specs.Machine.{Machine}
use Rattle.ft_base.specs.declared.memory.NoMemory.{NoMemory}
use Rattle.ft_base.specs.declared.requests.Key.{Key}
use Rattle.ft_base.specs.declared.requests.Outcome.{Outcome}
use Rattle.group_looks.specs.Looks.{AreFigures}
use Rattle.group_looks.specs.declared.figures.Figures.{Figures}
use Rattle.group_model.specs.Plain.{Group}
use Rattle.group_stands.specs.Replying.{held_reply}
use Rattle.shared_group.specs.declared.calls.CallAnswer.{CallAnswer}
use Rattle.shared_group.specs.declared.calls.CallAnswer.TheVariants as told

pub record ShowsFigures (m : Machine) (g : Group) (answer : CallAnswer) : Type 0 where
  pub of : Result Figures NoMemory
  pub is : answer ≡ told.Figures of
  pub are : IfOk of (AreFigures m g)

-- the reply of the entry that holds the key's retention id at the group's time, once some host has run it
pub record ShowsReply (m : Machine) (g : Group) (key : Key) (answer : CallAnswer) : Type 0 where
  pub of : Result (Option Outcome) NoMemory
  pub is : answer ≡ told.Reply of
  pub reply : IfOk of (λ found. found ≡ held_reply m g.common key)
