-- The groups of a script. A group is how it opened and what has happened to it since; all else is computed from
-- these.
use Rattle.std.specs.Prelude.{ℕ, ◌-◌, ◌==◌, suc, Bool, false, if◌then◌else◌, List, [], ◌∷◌, ◌++◌, length, map, slice_get, sum_by, Option, Some, None, option_map}
use Rattle.std.specs.Str.{bytes_eq}
use Rattle.ft_base.specs.Machine.{Machine}
use Rattle.ft_base.specs.Journal.{reply_at}
use Rattle.ft_base.specs.Members.{is_member}
use Rattle.ft_base.specs.declared.numbers.GroupId.{GroupId}
use Rattle.ft_base.specs.declared.requests.Outcome.{Outcome}
use Rattle.ft_base.specs.declared.requests.Signature.{Signature}
use Rattle.ft_base.specs.declared.views.Style.{Style}
use Rattle.ft_base.specs.declared.views.View.{View}
use Rattle.group_core.specs.Telling.{shown_view}
use Rattle.group_model.specs.Events.{turn_of}
use Rattle.group_model.specs.Openings.{opening_group}
use Rattle.group_model.specs.Plain.{Common, Group}
use Rattle.group_model.specs.Counting.{applied_in, caught_up_in, run_in, total}
use Rattle.group_model.specs.Runs.{Step, after_steps, calls_of}
use Rattle.group_model.specs.Turns.{Turn}
use Rattle.group_model.specs.declared.events.Event.{Event}
use Rattle.shipped_servants.specs.Kinds.{machine_of_kind, number_of, opening_of}
use Rattle.shipped_servants.specs.declared.kinds.Kind.{Kind}
use Rattle.script_groups.specs.declared.happenings.Happening.{Happening}
use Rattle.script_groups.specs.declared.happenings.Happening.TheVariants as happenings
use Rattle.script_groups.specs.Histories.{History, none_yet, with_all}

pub record ScriptGroup : Type 0 where
  pub id : GroupId
  pub name : List ℕ
  pub kind : Kind
  -- its style and its members at its opening
  pub style : Style
  pub members : List ℕ
  -- events that came to it since, and failures of its log's next write that were asked for
  pub happenings : List Happening
  -- memory was wanted in an event: no more is known of it
  pub poisoned : Bool

-- its servant as a function
abbrev pub machine_of : ScriptGroup → Machine
machine_of g = machine_of_kind (number_of g.kind)

abbrev pub signature_of : ScriptGroup → List ℕ → Option Signature
signature_of g op = (machine_of g).signature op

abbrev pub opening_of_group : ScriptGroup → Group
opening_of_group g = opening_group g.id.0 g.style (number_of g.kind) (opening_of g.kind) g.members

abbrev pub history_of : ScriptGroup → History
history_of g = with_all (machine_of g) (opening_of_group g) none_yet g.happenings

-- the events that it has had, and which writes failed
unfoldable pub steps_of : ScriptGroup → List Step
steps_of g = (history_of g).steps

-- its log's next write is to fail
unfoldable pub is_failing : ScriptGroup → Bool
is_failing g = (history_of g).fails

-- the plain group, as it is now
unfoldable pub group_of : ScriptGroup → Group
group_of g = after_steps (machine_of g) (opening_of_group g) (steps_of g)

abbrev pub common_of : ScriptGroup → Common
common_of g = (group_of g).common

-- ---- what happens to it

-- the group with more behind what has happened to it
abbrev pub with_more : ScriptGroup → List Happening → ScriptGroup
with_more g more = record g { happenings = g.happenings ++ more }

abbrev pub turn : ScriptGroup → Event → Turn
turn g e = turn_of (machine_of g) (group_of g) e (is_failing g)

abbrev pub acted : ScriptGroup → Event → ScriptGroup
acted g e = with_more g (happenings.Event e ∷ [])

-- the group whose log's next write is to fail
abbrev pub failing : ScriptGroup → ScriptGroup
failing g = with_more g (happenings.FailNext ∷ [])

-- the same event at each of these groups
abbrev pub all_acted : Event → List ScriptGroup → List ScriptGroup
all_acted e gs = map (λ g. acted g e) gs

-- ---- servant calls since its opening

unfoldable pub servant_calls : ScriptGroup → ℕ
servant_calls g = calls_of (machine_of g) (opening_of_group g) (steps_of g)

-- the accepted entries that were run, those that hosts caught up with, and the orders that were applied
abbrev pub entries_run : ScriptGroup → ℕ
entries_run g = total (run_in (machine_of g)) (machine_of g) (opening_of_group g) (steps_of g)

abbrev pub entries_caught_up : ScriptGroup → ℕ
entries_caught_up g = total (caught_up_in (machine_of g)) (machine_of g) (opening_of_group g) (steps_of g)

abbrev pub orders_applied : ScriptGroup → ℕ
orders_applied g = total (applied_in (machine_of g)) (machine_of g) (opening_of_group g) (steps_of g)

-- ---- replies

-- the one reply of an accepted entry
abbrev pub reply_of : ScriptGroup → ℕ → Outcome
reply_of g i = reply_at (machine_of g) (common_of g).opening (common_of g).journal i

-- ---- a group is made

abbrev pub opened : GroupId → List ℕ → Kind → Style → List ℕ → ScriptGroup
opened id name kind style members =
    record { id = id; name = name; kind = kind; style = style; members = members; happenings = []; poisoned = false }

-- ---- groups by their names and numbers

-- a place, and what stands there
pub record Placed (A : Type 0) : Type 0 where
  pub place : ℕ
  pub value : A

abbrev pub placed : {A : Type 0} → ℕ → A → Placed A
placed place value = record { place = place; value = value }

-- the first of which a test holds
abbrev pub found : {A : Type 0} → (A → Bool) → ℕ → List A → Option (Placed A)
found test i [] = None
found test i (x ∷ xs) = if test x then Some (placed i x) else found test (suc i) xs

abbrev pub has_name : List ℕ → ScriptGroup → Bool
has_name name g = bytes_eq g.name name

abbrev pub group_named : List ScriptGroup → List ℕ → Option (Placed ScriptGroup)
group_named gs name = found (has_name name) 0 gs

-- groups are numbered from 1
abbrev pub group_numbered : List ScriptGroup → ℕ → Option (Placed ScriptGroup)
group_numbered gs number = if number == 0 then None else option_map (placed (number - 1)) (slice_get gs (number - 1))

-- ---- what is read of a group

-- a host is in a view
abbrev pub is_in : ℕ → Option View → Bool
is_in host None = false
is_in host (Some view) = is_member host view.members

-- it is a member of the view that it knows
abbrev pub knows_as_member : ScriptGroup → ℕ → Bool
knows_as_member g host = is_in host (shown_view (common_of g) ((group_of g).hosts host).known)

abbrev pub entries_of : List ScriptGroup → ℕ
entries_of gs = sum_by (λ g. length (common_of g).journal) gs
