-- A list of events, one after another.
use Rattle.std.specs.Prelude.{ℕ, ◌+◌, Bool, List, [], ◌∷◌}
use Rattle.ft_base.specs.Machine.{Machine}
use Rattle.group_model.specs.declared.events.Event.{Event}
use Rattle.group_model.specs.declared.events.GroupAnswer.{GroupAnswer}
use Rattle.group_model.specs.Plain.{Group}
use Rattle.group_model.specs.Events.{turn_of, after_event}
use Rattle.group_model.specs.Agreeing.{Agrees}

-- an event, and whether the log's next write fails
pub record Step : Type 0 where
  pub event : Event
  pub fails : Bool

abbrev pub after_step : Machine → Group → Step → Group
after_step m g s = after_event m g s.event s.fails

-- the group after them
unfoldable pub after_steps : Machine → Group → List Step → Group
after_steps m g [] = g
after_steps m g (s ∷ steps) = after_steps m (after_step m g s) steps

-- each agrees with the group to which it comes
unfoldable pub AllAgree : Machine → Group → List Step → Type 0
AllAgree m g [] = Unit {0}
AllAgree m g (s ∷ steps) = Agrees m s.event g × AllAgree m (after_step m g s) steps

-- what the group made of each
unfoldable pub answers_to : Machine → Group → List Step → List GroupAnswer
answers_to m g [] = []
answers_to m g (s ∷ steps) = (turn_of m g s.event s.fails).answer ∷ answers_to m (after_step m g s) steps

-- how often the servant was called
unfoldable pub calls_of : Machine → Group → List Step → ℕ
calls_of m g [] = 0
calls_of m g (s ∷ steps) = (turn_of m g s.event s.fails).calls + calls_of m (after_step m g s) steps
