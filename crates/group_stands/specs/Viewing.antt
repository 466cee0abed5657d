-- The views of a log that stands for a group, and its next view.
use Rattle.std.specs.Prelude.{◌≡◌, ℕ, ◌<◌, ◌⊎◌, Some, None}
use Rattle.std.specs.List.{AllByRecursion}
use Rattle.ft_base.specs.Machine.{Machine}
use Rattle.ft_base.specs.declared.limits.TheConstants.{HOST_LIMIT}
use Rattle.ft_base.specs.declared.views.Style.{Style}
use Rattle.ft_base.specs.declared.views.View.{View}
use Rattle.message_log.specs.Calls as logs
use Rattle.message_log.specs.Picture.{Picture as LogPicture, IsLogged}
use Rattle.message_log.specs.Picture as pictures
use Rattle.ft_replica.specs.Picture.{Picture as ReplicaPicture}
use Rattle.group_model.specs.Changes.{NamesHosts, first_fault, change_rows, next_view, with_view}
use Rattle.group_model.specs.Plain.{Common, Place}
use Rattle.group_model.specs.Views.{StillHas, newest, newest_view, view_at}
use Rattle.group_model.specs.declared.changes.Change.{Change}
use Rattle.group_stands.specs.Stands.{LogStands, ReplicaStands}

-- ---- the view of a version

-- the log has each view that the group still has by its version
abbrev pub LogsShowViews : Type 0
LogsShowViews = (machines : ℕ → Machine) (c : Common) (log : LogPicture) → LogStands machines c log →
    (version : ℕ) → StillHas c version → pictures.view_at log version ≡ Some (view_at c.views version)

-- and no others
abbrev pub LogsShowNoOthers : Type 0
LogsShowNoOthers = (machines : ℕ → Machine) (c : Common) (log : LogPicture) → LogStands machines c log →
    (version : ℕ) → (version < c.first_kept) ⊎ (newest c < version) → pictures.view_at log version ≡ None

-- ---- the next view

-- a change that nothing refuses, of hosts that there can be, and its view
pub record IsNextView (c : Common) (change : Change) (view : View) : Type 0 where
  pub hosts : NamesHosts change
  pub may : first_fault (change_rows c.style (newest_view c) change) ≡ None
  pub is : view ≡ next_view c.style (newest_view c) change

-- a log can write it
abbrev pub NextViewsAreLogged : Type 0
NextViewsAreLogged = (style : Style) (view : View) (change : Change) → first_fault (change_rows style view change) ≡ None →
    NamesHosts change → AllByRecursion (λ host. host < HOST_LIMIT) view.members → IsLogged (next_view style view change)

-- the log to which it was written stands for the group with that view
abbrev pub ViewsJoin : Type 0
ViewsJoin = (machines : ℕ → Machine) (c : Common) (log : LogPicture) → LogStands machines c log →
    (change : Change) (view : View) → IsNextView c change view → LogStands machines (with_view c view) (logs.with_view log view)

-- a replica goes on standing there
abbrev pub ReplicasGoOnViewed : Type 0
ReplicasGoOnViewed = (machines : ℕ → Machine) (c : Common) (replica : ReplicaPicture) (place : Place) →
    ReplicaStands machines c replica place → (view : View) → ReplicaStands machines (with_view c view) replica place
