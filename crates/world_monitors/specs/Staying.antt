-- What a report leaves of the group: a law.
use Rattle.std.proofs.Common.{◌≡◌, ℕ, List, Some, refl, ap, ◌∙◌}
use Rattle.std.specs.Prelude.{slice_get}
use Rattle.ft_base.specs.declared.numbers.GroupId.{GroupId}
use Rattle.ft_base.specs.declared.numbers.HostNo.{HostNo}
use Rattle.group_model.specs.declared.changes.Change.{Change}
use Rattle.group_model.specs.declared.changes.Change.TheVariants as changes
use Rattle.group_model.specs.declared.events.Event.TheVariants.{Manage}
use Rattle.group_model.specs.declared.events.GroupAnswer.{GroupAnswer}
use Rattle.group_model.specs.declared.events.GroupAnswer.TheVariants as answers
use Rattle.group_model.specs.Views.{host_no}
use Rattle.script_groups.specs.Groups.{ScriptGroup, Placed, acted, turn}
use Rattle.script_groups.specs.Lists.{get_set}
use Rattle.script_world.specs.World.{World, with_event}
use Rattle.shipped_servants.specs.declared.kinds.Kind.{Kind}
use Rattle.world_management.specs.Hosts.{changed, with_reported}
use Rattle.world_management.specs.Membership.{report_of}
use Rattle.world_turns.specs.Sending.{all_sent}
use Rattle.world_monitors.specs.Sweeping.{reported, reports_one}

-- what a change leaves of the groups
reported_groups : (w : World) (kind : Kind) (group : GroupId) (change : Change) → (with_reported w kind group change).groups ≡ w.groups
reported_groups w kind group (changes.Report host) = refl
reported_groups w kind group (changes.Remove host) = refl
reported_groups w kind group (changes.Add host) = refl
reported_groups w kind group (changes.Create host listed made) = refl
reported_groups w kind group (changes.Primary host) = refl
reported_groups w kind group (changes.Replace host spares) = refl

changed_groups : (w : World) (host : HostNo) (g : ScriptGroup) (change : Change) (answer : GroupAnswer) → (changed w host g change answer).world.groups ≡ w.groups
changed_groups w host g change (answers.Changed view out) = reported_groups (all_sent w g.id out) g.kind g.id change
changed_groups w host g change (answers.Refused why) = refl
changed_groups w host g change (answers.Reply decision answer out) = refl
changed_groups w host g change (answers.Known version) = refl
changed_groups w host g change (answers.Applied position) = refl
changed_groups w host g change (answers.Held position) = refl
changed_groups w host g change (answers.Ignored why) = refl
changed_groups w host g change (answers.Taken from position out) = refl
changed_groups w host g change answers.LogFault = refl
changed_groups w host g change answers.Down = refl
changed_groups w host g change answers.Up = refl
changed_groups w host g change answers.NoMemory = refl

-- the group behind a report stands where it stood
pub reports_stay : (w : World) (p : Placed ScriptGroup) (host : ℕ) → slice_get w.groups p.place ≡ Some p.value →
    slice_get (reports_one w p host).world.groups p.place ≡ Some (reported w p host).value
reports_stay w p host there =
    let change : Change = report_of w p.value (host_no host) in
    ap (λ (gs : List ScriptGroup). slice_get gs p.place)
    (changed_groups (with_event w p.place p.value (Manage change)) (host_no host) p.value change (turn p.value (Manage change)).answer)
    ∙ get_set w.groups p.place (acted p.value (Manage change)) p.value there
