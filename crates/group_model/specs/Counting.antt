-- How often the servant is called: once for each accepted entry that is run, once for each entry that a host
-- catches up with, and once for each order that is applied.
use Rattle.std.specs.Prelude.{◌≡◌, ℕ, ◌+◌, ◌-◌, Bool, true, false, nat_lt, if◌then◌else◌, List, [], ◌∷◌, ◌≤◌, length}
use Rattle.ft_base.specs.Machine.{Machine}
use Rattle.ft_base.specs.declared.decisions.Decision.{Decision}
use Rattle.ft_base.specs.declared.decisions.Decision.TheVariants as decisions
use Rattle.group_model.specs.declared.events.Event.{Event}
use Rattle.group_model.specs.declared.events.Event.TheVariants as events
use Rattle.group_model.specs.declared.events.GroupAnswer.{GroupAnswer}
use Rattle.group_model.specs.declared.events.GroupAnswer.TheVariants as answers
use Rattle.group_model.specs.Plain.{Common, Host, Group}
use Rattle.group_model.specs.Turns.{Turn}
use Rattle.group_model.specs.Serving.{calls_behind}
use Rattle.group_model.specs.Events.{turn_of, host_of}
use Rattle.group_model.specs.Runs.{Step, after_step, calls_of}

-- the journal was asked, so the host had caught up
abbrev pub asks_journal : Decision → Bool
asks_journal (decisions.Append i) = true
asks_journal (decisions.Repeat i) = true
asks_journal (decisions.Expired expiration now) = true
asks_journal (decisions.Other i) = true
asks_journal (decisions.Full limit) = true
asks_journal decisions.LogFault = true
asks_journal other = false

-- ---- the three counts of a turn

-- the entry that was accepted, where it was run: some host has run it then
abbrev pub entry_run : ℕ → Decision → ℕ
entry_run ran (decisions.Append i) = if nat_lt i ran then 1 else 0
entry_run ran other = 0

abbrev pub entries_run : ℕ → GroupAnswer → ℕ
entries_run ran (answers.Reply decision answer out) = entry_run ran decision
entries_run ran other = 0

-- the entries that the host lacked, from where its catch-up began, where it has caught up
abbrev pub entries_caught_up : Common → Host → GroupAnswer → ℕ
entries_caught_up c h (answers.Reply decision answer out) = if asks_journal decision then calls_behind c h else 0
entries_caught_up c h (answers.Taken from position out) = calls_behind c h
entries_caught_up c h answers.LogFault = calls_behind c h
entries_caught_up c h other = 0

-- the orders over which the host went on
abbrev pub orders_applied : Event → Host → Host → ℕ
orders_applied (events.Order host index request) before after = after.place.position - before.place.position
orders_applied other before after = 0

-- ---- over a list of events

abbrev pub step_turn : Machine → Group → Step → Turn
step_turn m g s = turn_of m g s.event s.fails

-- a count of each, together
unfoldable pub total : (Group → Step → ℕ) → Machine → Group → List Step → ℕ
total count m g [] = 0
total count m g (s ∷ steps) = count g s + total count m (after_step m g s) steps

abbrev pub run_in : Machine → Group → Step → ℕ
run_in m g s = entries_run (step_turn m g s).common.ran (step_turn m g s).answer

abbrev pub caught_up_in : Machine → Group → Step → ℕ
caught_up_in m g s = entries_caught_up g.common (g.hosts (host_of s.event)) (step_turn m g s).answer

abbrev pub applied_in : Machine → Group → Step → ℕ
applied_in m g s = orders_applied s.event (g.hosts (host_of s.event)) (step_turn m g s).host

abbrev pub CallsAreCounted : Type 0
CallsAreCounted = (m : Machine) (g : Group) (steps : List Step) → g.common.ran ≤ length g.common.journal →
    calls_of m g steps ≡ total (run_in m) m g steps + total (caught_up_in m) m g steps + total (applied_in m) m g steps
