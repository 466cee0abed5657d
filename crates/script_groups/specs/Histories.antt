-- A group's history, from what has happened to it: the steps that it has had, and whether its log's next write fails.
use Rattle.std.specs.Prelude.{◌&&◌, not, Bool, true, false, List, [], ◌∷◌, ◌++◌}
use Rattle.ft_base.specs.Machine.{Machine}
use Rattle.group_model.specs.declared.events.Event.{Event}
use Rattle.group_model.specs.Events.{shows_fault, turn_of}
use Rattle.group_model.specs.Plain.{Group}
use Rattle.group_model.specs.Runs.{Step, after_steps}
use Rattle.script_groups.specs.declared.happenings.Happening.{Happening}
use Rattle.script_groups.specs.declared.happenings.Happening.TheVariants as happenings

pub record History : Type 0 where
  pub steps : List Step
  pub fails : Bool

abbrev pub none_yet : History
none_yet = record { steps = []; fails = false }

-- An event is a step, in which the next write fails where it was to. The failure is used up by the turn whose answer shows it.
abbrev pub with_event : Machine → Group → History → Event → History
with_event m opening h e = record {
  steps = h.steps ++ record { event = e; fails = h.fails } ∷ [];
  fails = h.fails && not (shows_fault (turn_of m (after_steps m opening h.steps) e h.fails).answer);
}

-- A failure that is asked for twice before a write comes once.
abbrev pub with_happening : Machine → Group → History → Happening → History
with_happening m opening h (happenings.Event e) = with_event m opening h e
with_happening m opening h happenings.FailNext = record h { fails = true }

-- one after another
unfoldable pub with_all : Machine → Group → History → List Happening → History
with_all m opening h [] = h
with_all m opening h (next ∷ more) = with_all m opening (with_happening m opening h next) more
