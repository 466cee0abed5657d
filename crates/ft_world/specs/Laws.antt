-- What holds of every world that a script makes.
use Rattle.std.specs.Prelude.{◌≡◌, ℕ, ◌+◌, ◌<◌, List, [], ◌∷◌, ◌++◌, length, sum_by}
use Rattle.std.specs.List.{AllByRecursion}
use Rattle.ft_base.specs.Journal.{AtMostOnce, Entry}
use Rattle.ft_base.specs.declared.decisions.Stop.{Stop}
use Rattle.ft_base.specs.declared.numbers.HostNo.{HostNo}
use Rattle.ft_base.specs.declared.numbers.Tick.{Tick}
use Rattle.fault_script.specs.declared.lines.Line.{Line}
use Rattle.group_model.specs.declared.asking.Asked.{Asked}
use Rattle.group_model.specs.declared.events.Event.TheVariants as events
use Rattle.group_model.specs.Decisions.{known_then}
use Rattle.group_model.specs.Views.{newest}
use Rattle.script_groups.specs.Groups.{ScriptGroup, acted, common_of, entries_caught_up, entries_run, group_of, orders_applied, reply_of, servant_calls, turn, with_more}
use Rattle.script_groups.specs.declared.happenings.Happening.{Happening}
use Rattle.script_world.specs.World.{World, empty}
use Rattle.ft_world.specs.Acts.{act, act_first}
use Rattle.world_turns.specs.Answers.{calls_of}
use Rattle.world_turns.specs.Turns.{Turn, Goes, Refused}

-- what a line's work makes of a world, also where a total refuses the line then
abbrev pub worked : World → Turn → World
worked w (Goes next report calls) = next
worked w (Refused why calls) = w

-- lines end at the first that is refused
abbrev pub or_end : {A : Type 0} → Turn → A → A → A
or_end (Goes next report calls) rest end = rest
or_end (Refused why calls) rest end = end

-- the world after some lines, up to the first that is refused, and that one's work
unfoldable pub world_after : World → List Line → World
world_after w [] = w
world_after w (line ∷ lines) = let next = worked w (act_first w line) in or_end (act w line) (world_after next lines) next

-- At most once: each request with a key was accepted before its expiration, and a client's retention id again
-- only once the expiration of its earlier acceptance had come.
abbrev pub EachOnce : List ScriptGroup → Type 0
EachOnce gs = AllByRecursion (λ g. AtMostOnce (common_of g).journal) gs

abbrev pub ScriptsAcceptOnce : Type 0
ScriptsAcceptOnce = (script : List Line) → EachOnce (world_after empty script).groups

-- the groups of a world, and those of one behind it: none is lost, and each stands so to itself
abbrev pub AllLater : (ScriptGroup → ScriptGroup → Type 0) → List ScriptGroup → List ScriptGroup → Type 0
AllLater R [] hs = Unit {0}
AllLater R (g ∷ gs) [] = ⊥
AllLater R (g ∷ gs) (h ∷ hs) = R g h × AllLater R gs hs

-- a group, and the same to which more has happened
pub record HasMore (g h : ScriptGroup) : Type 0 where
  pub more : List Happening
  pub is : h ≡ with_more g more

-- What a group has accepted it keeps, each entry at its place; and the reply that the journal gives it never changes.
pub record KeepsEntries (g h : ScriptGroup) : Type 0 where
  pub id : h.id ≡ g.id
  pub more : List Entry
  pub journal : (common_of h).journal ≡ (common_of g).journal ++ more
  pub replies : (i : ℕ) → i < length (common_of g).journal → reply_of h i ≡ reply_of g i

abbrev pub ScriptsKeepEntries : Type 0
ScriptsKeepEntries = (w : World) (script : List Line) → AllLater KeepsEntries w.groups (world_after w script).groups

-- ---- servant calls

-- of some lines, up to the first that is refused, and of that one
unfoldable pub calls_from : World → List Line → ℕ
calls_from w [] = 0
calls_from w (line ∷ lines) =
    calls_of (act w line) + or_end (act w line) (calls_from (worked w (act_first w line)) lines) 0

abbrev pub calls_of_groups : List ScriptGroup → ℕ
calls_of_groups gs = sum_by servant_calls gs

-- They are the accepted entries that were run, the entries that hosts caught up with, and the orders that were
-- applied, of all groups.
abbrev pub ServantsAreCalled : Type 0
ServantsAreCalled = (script : List Line) →
    let gs = (world_after empty script).groups in
    calls_from empty script ≡ sum_by entries_run gs + sum_by entries_caught_up gs + sum_by orders_applied gs

-- ---- hosts that were deposed

-- a host of the group that knows an older view than the newest, when it is asked, appends nothing, changes nothing
-- that the hosts share, and calls no servant
abbrev pub DeposedDoesNothing : ScriptGroup → Type 0
DeposedDoesNothing g = (host : HostNo) (clock : Tick) (asked : Asked) (stop : Stop) →
    known_then (newest (common_of g)) ((group_of g).hosts host.0).known asked.version < newest (common_of g) →
    (common_of (acted g (events.Request host clock asked stop)) ≡ common_of g)
    × ((turn g (events.Request host clock asked stop)).calls ≡ 0)

abbrev pub DeposedDoNothing : Type 0
DeposedDoNothing = (script : List Line) → AllByRecursion DeposedDoesNothing (world_after empty script).groups
