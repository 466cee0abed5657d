-- The decision table before the journal is asked: the first row that stands refuses the request. (Chapter
-- 23, "Object Group References" and "Most Recent Object Group Reference".)
use Rattle.std.specs.Prelude.{ℕ, ◌&&◌, ◌||◌, not, Bool, nat_eq, nat_lt, if◌then◌else◌, List, [], ◌∷◌, length, Option, Some, None, Result, Ok, Err}
use Rattle.ft_base.specs.Members.{is_member}
use Rattle.ft_base.specs.Machine.{Machine}
use Rattle.ft_base.specs.declared.limits.TheConstants.{ARGUMENTS_LIMIT}
use Rattle.ft_base.specs.declared.decisions.Decision.{Decision}
use Rattle.ft_base.specs.declared.decisions.Decision.TheVariants as decisions
use Rattle.ft_base.specs.declared.numbers.Version.{Version}
use Rattle.ft_base.specs.declared.requests.Request.{Request}
use Rattle.ft_base.specs.declared.views.Style.{Style}
use Rattle.ft_base.specs.declared.views.View.{View}
use Rattle.ft_base.specs.declared.requests.Signature.{Signature}
use Rattle.cdr_codec.specs.declared.bodies.Raw.{Raw}
use Rattle.sys_faults.specs.declared.answers.Answer.{Answer}
use Rattle.sys_faults.specs.declared.answers.Answer.TheVariants.{System, Forward, ForwardPerm}
use Rattle.sys_faults.specs.declared.faults.Completed.{Completed}
use Rattle.sys_faults.specs.declared.faults.Completed.TheVariants.{No}
use Rattle.sys_faults.specs.declared.faults.SysKind.{SysKind}
use Rattle.sys_faults.specs.declared.faults.SysKind.TheVariants as kinds
use Rattle.group_model.specs.declared.asking.Asked.{Asked}
use Rattle.group_model.specs.declared.refusals.Refusal.{Refusal}
use Rattle.group_model.specs.Plain.{Common}
use Rattle.group_model.specs.Asking.{asked_version, args_read}
use Rattle.ft_base.specs.Members.{is_empty}
use Rattle.ft_base.specs.Views.{is_led_by, is_passive}
use Rattle.group_model.specs.Views.{version, view_at, newest, newest_view}

-- a system exception
abbrev pub fault : SysKind → ℕ → Completed → Answer
fault kind minor completed = System (record { kind = kind; minor = minor; completed = completed })

-- one that says that nothing was completed
abbrev pub refusal : SysKind → ℕ → Answer
refusal kind minor = fault kind minor No

-- ---- rows

-- where the test holds, the request is refused so, and its host knows this version then
pub record Row : Type 0 where
  pub stands : Bool
  pub refused : Refusal

abbrev pub row : Bool → Decision → Answer → ℕ → Row
row stands decision answer known =
    record { stands = stands; refused = record { decision = decision; answer = answer; known = version known } }

abbrev pub first_row : List Row → Option Refusal
first_row [] = None
first_row (r ∷ rows) = if r.stands then Some r.refused else first_row rows

-- ---- what a host knows

-- A host that knows no view, or an older one than it is asked for, looks up the newest.
abbrev pub looks_up : ℕ → Option Version → Bool
looks_up known None = nat_eq known 0
looks_up known (Some asked) = nat_eq known 0 || nat_lt known asked.0

abbrev pub known_then : ℕ → ℕ → Option Version → ℕ
known_then newest known asked = if looks_up known asked then newest else known

-- ---- the rows on views

-- In order: the version that is asked for isn't there yet; the view that the host knows has no members; the
-- version that is asked for is older; the host is no member of the view that it knows; it is a member of a
-- passive group and not the primary; there is a newer view, which has no members; there is a newer view.
abbrev pub view_rows : Style → ℕ → ℕ → ℕ → View → ℕ → View → List Row
view_rows style host asked known view newest last =
    row (nat_lt known asked) (decisions.Newer (version asked) (version known)) (refusal kinds.InvObjref 1) known
    ∷ row (is_empty view.members) (decisions.Empty (version known)) (refusal kinds.Transient 1) known
    ∷ row (nat_lt asked known) (decisions.Older (version asked) (version known)) (ForwardPerm (version known)) known
    ∷ row (not (is_member host view.members)) (decisions.Stranger (version known)) (refusal kinds.ObjectNotExist 2) known
    ∷ row (is_passive style && not (is_led_by view host)) (decisions.Backup (version known)) (Forward (version known)) known
    ∷ row (nat_lt known newest && is_empty last.members) (decisions.Empty (version newest)) (refusal kinds.Transient 1) newest
    ∷ row (nat_lt known newest) (decisions.Deposed (version known) (version newest)) (ForwardPerm (version newest)) newest
    ∷ []

-- of a host that knows this version, which is asked for that one
abbrev pub refused_by_view : Common → ℕ → ℕ → ℕ → Option Refusal
refused_by_view c host asked known =
    first_row (view_rows c.style host asked known (view_at c.views known) (newest c) (newest_view c))

-- ---- the rows on the request itself

abbrev pub refused_as : Decision → Answer → ℕ → Refusal
refused_as decision answer known = record { decision = decision; answer = answer; known = version known }

abbrev pub no_operation : ℕ → Refusal
no_operation known = refused_as decisions.BadOperation (refusal kinds.BadOperation 1) known

abbrev pub unless_long : ℕ → List ℕ → Result (List ℕ) Refusal
unless_long known args =
    if nat_lt ARGUMENTS_LIMIT (length args) then Err (refused_as (decisions.Long (length args)) (refusal kinds.ImpLimit 1) known)
    else Ok args

-- its body is its parameters, and their canonical form isn't too long
abbrev pub args_within : ℕ → Result (List ℕ) ℕ → Result (List ℕ) Refusal
args_within known (Err place) = Err (refused_as (decisions.Marshal place) (refusal kinds.Marshal 1) known)
args_within known (Ok args) = unless_long known args

abbrev pub args_for : ℕ → Option Signature → Raw → Result (List ℕ) Refusal
args_for known None body = Err (no_operation known)
args_for known (Some signature) body = args_within known (args_read body signature)

abbrev pub request_with : Asked → List ℕ → Result (List ℕ) Refusal → Result Request Refusal
request_with asked op (Err refused) = Err refused
request_with asked op (Ok args) = Ok (record { key = asked.key; op = op; args = args })

-- the servant has the operation, and then as above
abbrev pub request_named : Machine → ℕ → Asked → Option (List ℕ) → Result Request Refusal
request_named m known asked None = Err (no_operation known)
request_named m known asked (Some op) = request_with asked op (args_for known (m.signature op) asked.body)

abbrev pub unless_refused : Option Refusal → Result Request Refusal → Result Request Refusal
unless_refused None request = request
unless_refused (Some refused) request = Err refused

-- the request that is asked of a host that knows this version, or the first row that refuses it
abbrev pub request_in : Machine → Common → ℕ → ℕ → Asked → Result Request Refusal
request_in m c host known asked =
    unless_refused (refused_by_view c host (asked_version known asked.version) known) (request_named m known asked asked.op)
