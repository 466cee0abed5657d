-- Which versions the hosts of a group know, whatever events it has. (Chapter 23, "Most Recent Object Group Reference".)
use Rattle.std.specs.Prelude.{ℕ, ◌≤◌, Bool}
use Rattle.std.specs.List.{AllByRecursion}
use Rattle.ft_base.specs.Machine.{Machine}
use Rattle.group_model.specs.declared.events.Event.{Event}
use Rattle.group_model.specs.declared.events.Event.TheVariants as events
use Rattle.group_model.specs.Plain.{Common, Group}
use Rattle.group_model.specs.Events.{turn_of, after_event}
use Rattle.group_model.specs.Sending.{brought, sent_by}
use Rattle.group_model.specs.Views.{newest, newest_view}

-- the newest view's version isn't past the number of views, and no host knows one that is
pub record KnowsItsViews (g : Group) : Type 0 where
  pub last : (newest_view g.common).version.0 ≤ newest g.common
  pub known : (i : ℕ) → (g.hosts i).known ≤ newest g.common

-- an event tells a host of no view that the group hasn't had
abbrev pub IsHad : Common → Event → Type 0
IsHad c (events.View host sent) = sent.0 ≤ newest c
IsHad c other = Unit {0}

-- So it stays over every event that tells of no other view, also where hosts are asked what they can't be asked.
abbrev pub OnlyViewsAreKnown : Type 0
OnlyViewsAreKnown = (m : Machine) (g : Group) (e : Event) (fails : Bool) → KnowsItsViews g → IsHad g.common e → KnowsItsViews (after_event m g e fails)

-- And no other view is sent.
abbrev pub OnlyViewsAreSent : Type 0
OnlyViewsAreSent = (m : Machine) (g : Group) (e : Event) (fails : Bool) → KnowsItsViews g → IsHad g.common e →
    AllByRecursion (λ out. IsHad (after_event m g e fails).common (brought out)) (sent_by (turn_of m g e fails).answer)
