-- Who appends: at which hosts a request joins the journal, and that it does. And what a turn has to do with the log's write.
use Rattle.std.specs.Prelude.{◌≡◌, ℕ, max, Bool, true, false, List, length, Option}
use Rattle.ft_base.specs.Admissions.{admission}
use Rattle.ft_base.specs.Machine.{Machine}
use Rattle.ft_base.specs.Members.{is_member}
use Rattle.ft_base.specs.Views.{is_led_by, is_passive}
use Rattle.ft_base.specs.declared.admissions.Admission.TheVariants.{New}
use Rattle.ft_base.specs.declared.decisions.Decision.{Decision}
use Rattle.ft_base.specs.declared.decisions.Decision.TheVariants as decisions
use Rattle.ft_base.specs.declared.decisions.Stop.{Stop}
use Rattle.ft_base.specs.declared.numbers.HostNo.{HostNo}
use Rattle.ft_base.specs.declared.numbers.Tick.{Tick}
use Rattle.ft_base.specs.declared.requests.Request.{Request}
use Rattle.sys_faults.specs.declared.answers.Answer.{Answer}
use Rattle.group_model.specs.declared.asking.Asked.{Asked}
use Rattle.group_model.specs.declared.events.Event.{Event}
use Rattle.group_model.specs.declared.events.Event.TheVariants as events
use Rattle.group_model.specs.declared.events.GroupAnswer.{GroupAnswer}
use Rattle.group_model.specs.declared.events.GroupAnswer.TheVariants as answers
use Rattle.group_model.specs.declared.events.Out.{Out}
use Rattle.group_model.specs.Plain.{Group}
use Rattle.group_model.specs.Views.{newest, newest_view}
use Rattle.group_model.specs.Decisions.{known_then}
use Rattle.group_model.specs.Events.{turn_of, shows_fault}
use Rattle.group_model.specs.Lean.{Passes}
use Rattle.group_model.specs.Steps.{IsStep}
use Rattle.group_model.specs.Versions.{KnowsItsViews}

-- ---- who appends

-- The host is up and knows the newest view, once it has looked up what it is asked for. It is a member of that view, and in
-- a passive group its primary.
pub record MayAppend (g : Group) (host : ℕ) (asked : Asked) : Type 0 where
  pub up : (g.hosts host).up ≡ true
  pub known : known_then (newest g.common) (g.hosts host).known asked.version ≡ newest g.common
  pub member : is_member host (newest_view g.common).members ≡ true
  pub leads : is_passive g.common.style ≡ true → is_led_by (newest_view g.common) host ≡ true

-- A request is appended at such a host alone, where none knows a version that the group hasn't had.
abbrev pub OnlyLeadersAppend : Type 0
OnlyLeadersAppend = (m : Machine) (g : Group) (fails : Bool) (host : HostNo) (clock : Tick) (asked : Asked) (stop : Stop)
    (i : ℕ) (answer : Option Answer) (out : List Out) → KnowsItsViews g →
    (turn_of m g (events.Request host clock asked stop) fails).answer ≡ answers.Reply (decisions.Append i) answer out → MayAppend g host.0 asked

-- it was appended at this place, or memory was wanted
abbrev pub IsAppendedAt : ℕ → Decision → Type 0
IsAppendedAt i (decisions.Append at) = at ≡ i
IsAppendedAt i other = ⊥

abbrev pub IsAcceptedAt : ℕ → GroupAnswer → Type 0
IsAcceptedAt i (answers.Reply decision answer out) = IsAppendedAt i decision
IsAcceptedAt i answers.NoMemory = Unit {0}
IsAcceptedAt i other = ⊥

-- A new request that the rows let through at a host that is up is accepted, at the journal's end, where the write doesn't
-- fail; or memory is wanted.
abbrev pub NewRequestsAreAccepted : Type 0
NewRequestsAreAccepted = (m : Machine) (g : Group) (host : HostNo) (clock : Tick) (asked : Asked) (stop : Stop) (request : Request)
    (answer : GroupAnswer) (after : Group) → (g.hosts host.0).up ≡ true → Passes m g host asked request →
    admission g.common.journal (max clock.0 g.common.time) request ≡ New →
    IsStep m g (events.Request host clock asked stop) answer after → shows_fault answer ≡ false → IsAcceptedAt (length g.common.journal) answer

-- ---- a write that doesn't fail

-- Where the answer shows no failed write, the turn is the same whether the write was to fail or not: there was none.
abbrev pub UnshownFaultsChangeNothing : Type 0
UnshownFaultsChangeNothing = (m : Machine) (g : Group) (e : Event) → shows_fault (turn_of m g e true).answer ≡ false →
    turn_of m g e true ≡ turn_of m g e false

-- And no answer shows one that didn't fail.
abbrev pub OnlyFaultsAreShown : Type 0
OnlyFaultsAreShown = (m : Machine) (g : Group) (e : Event) → shows_fault (turn_of m g e false).answer ≡ false
