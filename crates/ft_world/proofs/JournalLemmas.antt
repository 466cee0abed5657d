-- What holds of every world that a script makes, from what holds of every group whatever events it has.
use Rattle.std.proofs.Common.{◌≡◌, ℕ, ◌+◌, ◌-◌, ◌<◌, arith, Bool, false, cond, List, [], ◌∷◌, ◌++◌, length, Option, Some, None, refl, ap, ◌∙◌}
use Rattle.std.proofs.lemmas.Bool.{ne_eqb}
use Rattle.std.specs.Prelude.{◌==◌, is_some, option_map, slice_get, sum_by}
use Rattle.std.specs.List.{AllByRecursion}
use Rattle.std.proofs.lemmas.List.Sums.{sum_by-cons}
use Rattle.group_model.specs.declared.events.Event.TheVariants as events
use Rattle.group_model.specs.Laws.{DeposedAppendNothing}
use Rattle.group_model.specs.Plain.{Group}
use Rattle.script_groups.specs.Groups.{ScriptGroup, common_of, entries_caught_up, entries_run, group_of, is_failing, machine_of, orders_applied, placed, servant_calls}
use Rattle.script_groups.specs.Laws.{CallsAreCounted, GroupsGrow, HistoriesGoOn, JournalsAcceptOnce, RepliesStay}
use Rattle.fault_script.specs.declared.lines.Line.{Line}
use Rattle.fault_script.specs.declared.lines.LineFault.{LineFault}
use Rattle.ft_report.specs.declared.reports.ReportLine.{ReportLine}
use Rattle.script_world.specs.World.{World, empty}
use Rattle.ft_base.specs.declared.numbers.GroupId.{GroupId}
use Rattle.iogr_reference.specs.declared.references.GroupRef.{GroupRef}
use Rattle.script_clients.specs.Clients.{Client, last_reference}
use Rattle.script_groups.specs.Lists.{some_at}
use Rattle.script_world.specs.declared.messages.Message.{Message}
use Rattle.script_world.specs.declared.messages.Message.TheVariants as messages
use Rattle.ft_world.specs.Acts.{act, act_first}
use Rattle.ft_world.specs.DeadArms.{GoesByMade, HasClient, HasGroup, NamesMade, ScriptsNameMade}
use Rattle.ft_world.specs.Laws.{AllLater, DeposedDoNothing, DeposedDoesNothing, HasMore, KeepsEntries, ScriptsAcceptOnce, ScriptsKeepEntries, ServantsAreCalled, calls_from, calls_of_groups, or_end, worked, world_after}
use Rattle.ft_world.specs.Leading.{ScriptsKnowTheirViews}
use Rattle.ft_world.specs.Messages.{RepliesOnce, ScriptsReplyOnce}
use Rattle.world_turns.specs.Answers.{calls_of}
use Rattle.world_turns.specs.Turns.{Turn, Goes, Refused, first_cause, judged, total_causes, totals_of, unless}
use Rattle.ft_world.proofs.KeptLemmas.{GoesOn, first_on}
use Rattle.ft_world.proofs.LaterLemmas.{KnownCalls, all_next, all_stay, keeps_entries}
use Rattle.ft_world.proofs.MadeLemmas.{AllMade, GoesBy, IsNumber, IsOfOne, Names, all_both, all_so}
use Rattle.ft_world.proofs.TruthLemmas.{AllTrue, IsTrue, KnownGroups, knows_views}

-- ---- what holds of every group

each : (P : ScriptGroup → Type 0) → ((g : ScriptGroup) → P g) → (gs : List ScriptGroup) → AllByRecursion P gs
each P all [] = tt
each P all (g ∷ gs) = (all g, each P all gs)

pub scripts_accept_once : JournalsAcceptOnce → ScriptsAcceptOnce
scripts_accept_once once script = each (λ g. Rattle.ft_base.specs.Journal.AtMostOnce (common_of g).journal) once (world_after empty script).groups

does_nothing : DeposedAppendNothing → HistoriesGoOn → (g : ScriptGroup) → DeposedDoesNothing g
does_nothing deposed histories g host clock asked stop older =
    let law = deposed (machine_of g) (group_of g) (is_failing g) host clock asked stop older in
    (ap (λ (p : Group). p.common) (histories g (events.Request host clock asked stop)) ∙ law.0, law.1)

pub deposed_do_nothing : DeposedAppendNothing → HistoriesGoOn → DeposedDoNothing
deposed_do_nothing deposed histories script = each DeposedDoesNothing (does_nothing deposed histories) (world_after empty script).groups

-- ---- what a line does

-- no line is said to have few ticks
abbrev LineGoes : World → Turn → Type 0
LineGoes w t = GoesOn ⊥ w t

line_goes : (w : World) (line : Line) → LineGoes w (act_first w line)
line_goes w line = first_on ⊥ w line (λ none. absurd none)

-- one of two worlds
either_so : (P : World → Type 0) (t : Turn) (rest end : World) → P rest → P end → P (or_end t rest end)
either_so P (Goes next report calls) rest end on ends = on
either_so P (Refused why calls) rest end on ends = ends

-- ---- the groups of a world, and those behind more lines

abbrev LaterGroups : World → World → Type 0
LaterGroups w new = AllLater HasMore w.groups new.groups

work_later : (w : World) (t : Turn) → LineGoes w t → LaterGroups w (worked w t)
work_later w (Goes next report calls) on = on.later
work_later w (Refused why calls) on = all_stay w.groups

groups_later : (w : World) (script : List Line) → LaterGroups w (world_after w script)
unfolding world_after
groups_later w [] = all_stay w.groups
groups_later w (line ∷ script) =
    let next = worked w (act_first w line) in
    let here = work_later w (act_first w line) (line_goes w line) in
    either_so (λ v. LaterGroups w v) (act w line) (world_after next script) next
    (all_next w.groups next.groups (world_after next script).groups here (groups_later next script)) here

module _ (grow : GroupsGrow) (stay : RepliesStay) where
  all_keep : (gs hs : List ScriptGroup) → AllLater HasMore gs hs → AllLater KeepsEntries gs hs
  all_keep [] hs all = tt
  all_keep (g ∷ gs) [] all = absurd all
  all_keep (g ∷ gs) (h ∷ hs) all = (keeps_entries grow stay g h all.0, all_keep gs hs all.1)

  pub scripts_keep_entries : ScriptsKeepEntries
  scripts_keep_entries w script = all_keep w.groups (world_after w script).groups (groups_later w script)

-- ---- servant calls

module _ (known : KnownCalls) where
  work_called : (w : World) (t : Turn) → LineGoes w t → calls_of_groups (worked w t).groups ≡ calls_of_groups w.groups + calls_of t
  work_called w (Goes next report calls) on = on.called known
  work_called w (Refused why calls) on = omega (arith, on)

  -- a line's calls are those of its work, whether a total refuses it or not
  unless_calls : (o : Option LineFault) (next : World) (report : List ReportLine) (calls : ℕ) → calls_of (unless o calls (Goes next report calls)) ≡ calls
  unless_calls None next report calls = refl
  unless_calls (Some why) next report calls = refl

  judged_calls : (t : Turn) → calls_of (judged t) ≡ calls_of t
  judged_calls (Goes next report calls) = unless_calls (first_cause (total_causes (totals_of next))) next report calls
  judged_calls (Refused why calls) = refl

  either_called : (before here more : ℕ) (t : Turn) (rest end : World) → calls_of_groups rest.groups ≡ before + here + more →
      calls_of_groups end.groups ≡ before + here → calls_of_groups (or_end t rest end).groups ≡ before + (here + or_end t more 0)
  either_called before here more (Goes next report calls) rest end on ends = omega (arith, on)
  either_called before here more (Refused why calls) rest end on ends = omega (arith, ends)

  all_called : (w : World) (script : List Line) → calls_of_groups (world_after w script).groups ≡ calls_of_groups w.groups + calls_from w script
  unfolding world_after calls_from
  all_called w [] = omega arith
  all_called w (line ∷ script) =
      let next = worked w (act_first w line) in
      let here = work_called w (act_first w line) (line_goes w line) in
      let same = judged_calls (act_first w line) in
      let there = all_called next script in
      either_called (calls_of_groups w.groups) (calls_of (act w line)) (calls_from next script) (act w line) (world_after next script) next
      (omega (arith, here, same, there)) (omega (arith, here, same))

  counted : CallsAreCounted → (gs : List ScriptGroup) → calls_of_groups gs ≡ sum_by entries_run gs + sum_by entries_caught_up gs + sum_by orders_applied gs
  counted law [] = refl
  counted law (g ∷ gs) =
      let here = law g in
      let there = counted law gs in
      let calls = sum_by-cons servant_calls g gs in
      let run = sum_by-cons entries_run g gs in
      let caught_up = sum_by-cons entries_caught_up g gs in
      let applied = sum_by-cons orders_applied g gs in
      omega (arith, here, there, calls, run, caught_up, applied)

  pub servants_are_called : CallsAreCounted → ServantsAreCalled
  servants_are_called law script =
      let all = all_called empty script in
      let are = counted law (world_after empty script).groups in
      omega (arith, all, are)

-- ---- groups and clients that are named

work_made : (w : World) (t : Turn) → LineGoes w t → AllMade w → AllMade (worked w t)
work_made w (Goes next report calls) on m = on.made m
work_made w (Refused why calls) on m = m

made_at_first : AllMade empty
made_at_first = record { ordered = λ i g at. absurd cc; clients = tt; messages = tt }

all_made : (w : World) (script : List Line) → AllMade w → AllMade (world_after w script)
unfolding world_after
all_made w [] m = m
all_made w (line ∷ script) m =
    let next = worked w (act_first w line) in
    let here = work_made w (act_first w line) (line_goes w line) m in
    either_so (λ v. AllMade v) (act w line) (world_after next script) next (all_made next script here) here

pub made_after : (script : List Line) → AllMade (world_after empty script)
made_after script = all_made empty script made_at_first

has_client : (w : World) (client : ℕ) → client < length w.clients → HasClient w client
has_client w client within = ap is_some (some_at w.clients client within).1

has_group : (w : World) (group : GroupId) → IsNumber (length w.groups) group → HasGroup w group
has_group w group is =
    let first = is.0 in
    let last = is.1 in
    let place : ℕ = group.0 - 1 in
    let filled : (group.0 == 0) ≡ false = ne_eqb group.0 0 (λ none. omega (arith, first, none)) in
    ap (λ (b : Bool). is_some (cond b None (option_map (placed place) (slice_get w.groups place)))) filled
    ∙ ap (λ (o : Option ScriptGroup). is_some (option_map (placed place) o)) (some_at w.groups place (omega (arith, first, last))).1

names_made : (w : World) (m : Message) → Names (length w.groups) (length w.clients) m → NamesMade w m
names_made w (messages.Request client host a) names = (has_client w client names.0, has_group w a.group names.1)
names_made w (messages.Reply r) names = (has_client w r.client names.0, has_group w r.group names.1)
names_made w (messages.Carried group out) names = has_group w group names
names_made w (messages.Ping group host) names = has_group w group names
names_made w (messages.Pong group host) names = has_group w group names

goes_by_made : (w : World) (c : Client) → GoesBy (length w.groups) c → GoesByMade w c
goes_by_made w c by =
    all_so (IsOfOne (length w.groups)) (λ (r : GroupRef). HasGroup w r.group) (last_reference c ++ c.others) (λ r is. has_group w r.group is)
    (all_both (IsOfOne (length w.groups)) (last_reference c) c.others by.0 by.1)

pub scripts_name_made : ScriptsNameMade
scripts_name_made script =
    let w : World = world_after empty script in
    let m : AllMade w = made_after script in (
      all_so (Names (length w.groups) (length w.clients)) (NamesMade w) w.messages (names_made w) m.messages,
      all_so (GoesBy (length w.groups)) (GoesByMade w) w.clients (goes_by_made w) m.clients,
    )

-- ---- what messages say, and what hosts know

module _ (known : KnownGroups) where
  work_true : (w : World) (t : Turn) → LineGoes w t → AllMade w → AllTrue w → AllTrue (worked w t)
  work_true w (Goes next report calls) on m t = on.told known m t
  work_true w (Refused why calls) on m t = t

  all_true : (w : World) (script : List Line) → AllMade w → AllTrue w → AllTrue (world_after w script)
  unfolding world_after
  all_true w [] m t = t
  all_true w (line ∷ script) m t =
      let next : World = worked w (act_first w line) in
      let goes : LineGoes w (act_first w line) = line_goes w line in
      let here : AllTrue next = work_true w (act_first w line) goes m t in
      either_so (λ v. AllTrue v) (act w line) (world_after next script) next (all_true next script (work_made w (act_first w line) goes m) here) here

  pub truth_after : (script : List Line) → AllTrue (world_after empty script)
  truth_after script = all_true empty script made_at_first (record { groups = tt; messages = tt })

  pub scripts_reply_once : ScriptsReplyOnce
  scripts_reply_once script =
      let w : World = world_after empty script in
      all_so (IsTrue w.groups w.messages) (RepliesOnce w.groups w.messages) w.messages (λ m is. is.0) (truth_after script).messages

  pub scripts_know_their_views : ScriptsKnowTheirViews
  scripts_know_their_views script = knows_views (world_after empty script) (truth_after script)
