-- What a call of the manager answers.
use Rattle.std.specs.Prelude.{◌≡◌, ℕ, if◌then◌else◌, List, Option, Some, None, Result, Ok, Err, IsOk}
use Rattle.ft_base.specs.Members.{is_member}
use Rattle.ft_base.specs.declared.numbers.GroupId.{GroupId}
use Rattle.ft_base.specs.declared.numbers.HostNo.{HostNo}
use Rattle.ft_base.specs.declared.views.Style.{Style}
use Rattle.ft_base.specs.declared.views.View.{View}
use Rattle.iogr_reference.specs.Views.{plain_reference, reference_of}
use Rattle.iogr_reference.specs.declared.references.Ior.{Ior}
use Rattle.group_model.specs.Changes.{change_rows, first_fault, next_view}
use Rattle.group_model.specs.declared.changes.Change.{Change}
use Rattle.group_model.specs.declared.changes.ManageFault.{ManageFault}
use Rattle.group_model.specs.declared.changes.ManageFault.TheVariants.{ObjectGroupNotFound, MemberNotFound, NoMemory}
use Rattle.group_manager.specs.declared.directory.GroupInfo.{GroupInfo}

-- ---- changes

abbrev pub unless_fault : Option ManageFault → View → Result View ManageFault
unless_fault None next = Ok next
unless_fault (Some fault) next = Err fault

-- the next view, or the first cause for which the change is refused
abbrev pub changed_as : Style → View → Change → Result View ManageFault
changed_as style view change = unless_fault (first_fault (change_rows style view change)) (next_view style view change)

-- ---- groups

-- of a group that is there this is answered
abbrev pub if_there : {X : Type 0} → Option GroupInfo → (GroupInfo → Result X ManageFault) → Result X ManageFault
if_there None answer = Err ObjectGroupNotFound
if_there (Some info) answer = answer info

-- this is answered; or, where a reference is made, that there is no memory
abbrev pub Comes : {X : Type 0} → Result X ManageFault → Result X ManageFault → Type 0
Comes wanted (Ok x) = wanted ≡ Ok x
Comes wanted (Err NoMemory) = IsOk wanted
Comes wanted (Err fault) = wanted ≡ Err fault

-- the reference of the group's view
abbrev pub group_ref : GroupId → View → List ℕ → GroupInfo → Result Ior ManageFault
group_ref group view ports info = Ok (reference_of group info.type_id view ports)

-- the plain reference of one member
abbrev pub member_ref : GroupId → View → HostNo → List ℕ → GroupInfo → Result Ior ManageFault
member_ref group view host ports info =
    if is_member host.0 view.members then Ok (plain_reference group info.type_id host.0 ports) else Err (MemberNotFound host)
