-- Lines of those who are told of faults: `subscribe S FILTER`, `unsubscribe S`, `pull S`. (Chapter 23, FaultNotifier.)
use Rattle.std.specs.Prelude.{ℕ, List, [], ◌∷◌, Option, Some, None}
use Rattle.fault_notifier.specs.declared.events.FaultEvent.{FaultEvent}
use Rattle.fault_script.specs.declared.lines.LineFault.TheVariants.{Again, Unknown}
use Rattle.ft_report.specs.declared.reports.ReportLine.{ReportLine}
use Rattle.ft_report.specs.declared.reports.ReportLine.TheVariants as reports
use Rattle.ft_report.specs.declared.reports.SubscribeFault.TheVariants as causes
use Rattle.script_groups.specs.Groups.{ScriptGroup, Placed, group_numbered}
use Rattle.script_subscribers.specs.declared.answers.Pulled.{Pulled}
use Rattle.script_subscribers.specs.declared.answers.Pulled.TheVariants as pulls
use Rattle.script_subscribers.specs.Calls.{pulled_of}
use Rattle.script_subscribers.specs.Subscribers.{Listener, Judged, Bad, Good, filter_in, full, pulled, subscribed, subscriber_named, unsubscribed}
use Rattle.script_world.specs.World.{World, is_named, with_subscribers}
use Rattle.world_turns.specs.Turns.{Cause, Effect, Turn, Refused, cause, first_cause, goes, says, unless}

-- ---- `subscribe S FILTER`: the name first, then the filter, then whether there is room

abbrev pub subscribes_by : World → List ℕ → Judged → Option ℕ → Effect
subscribes_by w name (Bad place) room = says w (reports.RefusedSubscriber (causes.BadFilter place) ∷ [])
subscribes_by w name (Good f) (Some count) = says w (reports.RefusedSubscriber (causes.Full count) ∷ [])
subscribes_by w name (Good f) None = says (with_subscribers w (subscribed w.subscribers name f)) (reports.Subscribed name ∷ [])

abbrev pub subscribes : World → List ℕ → List ℕ → Effect
subscribes w name filter = subscribes_by w name (filter_in filter) (full w.subscribers)

abbrev pub subscriber_causes : World → List ℕ → List Cause
subscriber_causes w name = cause (is_named w name) Again ∷ []

abbrev pub subscribe_line : World → List ℕ → List ℕ → Turn
subscribe_line w name filter = unless (first_cause (subscriber_causes w name)) 0 (goes (subscribes w name filter))

-- ---- `unsubscribe S`

abbrev pub unsubscribe_from : World → List ℕ → Option Listener → Turn
unsubscribe_from w name None = Refused Unknown 0
unsubscribe_from w name (Some l) =
    goes (says (with_subscribers w (unsubscribed w.subscribers name)) (reports.Unsubscribed name ∷ []))

abbrev pub unsubscribe_line : World → List ℕ → Turn
unsubscribe_line w name = unsubscribe_from w name (subscriber_named w.subscribers name)

-- ---- `pull S`: the next event, with the name of its group

abbrev pub fault_lines : List ℕ → FaultEvent → Option (Placed ScriptGroup) → List ReportLine
fault_lines name event None = []
fault_lines name event (Some g) = reports.Fault name event.host event.group g.value.name ∷ []

abbrev pub pull_by : World → List ℕ → Pulled → Turn
pull_by w name pulls.Unknown = Refused Unknown 0
pull_by w name pulls.Nothing = goes (says w (reports.NoFault name ∷ []))
pull_by w name (pulls.Event event) =
    goes (says (with_subscribers w (pulled w.subscribers name)) (fault_lines name event (group_numbered w.groups event.group.0)))

abbrev pub pull_line : World → List ℕ → Turn
pull_line w name = pull_by w name (pulled_of (subscriber_named w.subscribers name))
