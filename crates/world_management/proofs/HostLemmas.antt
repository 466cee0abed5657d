-- Lines about a host, where that is there.
use Rattle.std.proofs.Common.{◌≡◌, ℕ, ◌+◌, true, List, [], ◌∷◌, Some, refl, arith, sym, ap, subst, ◌∙◌}
use Rattle.std.specs.Prelude.{not, slice_get}
use Rattle.ft_base.specs.declared.numbers.HostNo.{HostNo}
use Rattle.fault_script.specs.declared.lines.LineFault.TheVariants.{Unknown}
use Rattle.fault_script.specs.declared.lines.MemberChange.{MemberChange}
use Rattle.ft_report.specs.declared.reports.ReportLine.{ReportLine}
use Rattle.group_model.specs.declared.changes.Change.{Change}
use Rattle.group_model.specs.Views.{host_no}
use Rattle.script_groups.specs.Groups.{ScriptGroup, placed}
use Rattle.script_groups.specs.Lists.{same_some}
use Rattle.script_groups.specs.Reading.{member_referred}
use Rattle.script_world.specs.World.{World, is_there}
use Rattle.world_management.specs.Creating.{creation, grow_to}
use Rattle.world_management.specs.Hosts.{change_of, change_to, changes_members, on_host}
use Rattle.world_management.specs.Reading.{member_of}
use Rattle.world_turns.specs.Answers.{HasDone, calls_of}
use Rattle.world_turns.specs.Doing.{acts_by}
use Rattle.world_turns.specs.Naming.{There}
use Rattle.world_turns.specs.Turns.{Effect, Goes, cause, first_cause, goes, says, unless}

module _ (w : World) (number : ℕ) (host : HostNo) (there : is_there w number ≡ true) (is : host.0 ≡ number) where
  on_there : (e : HostNo → Effect) → on_host w number (e (host_no number)) ≡ goes (e host)
  on_there e =
      ap (λ b. unless (first_cause (cause (not b) Unknown ∷ [])) 0 (goes (e (host_no number)))) there
      ∙ ap (λ (n : ℕ). goes (e (host_no n))) (sym is)

  module _ (place : ℕ) (g : ScriptGroup) (report : List ReportLine) (new : World) (before now : ℕ) where
    pub change_goes : (change : MemberChange) (asked : Change) → asked ≡ change_of w g change host → HasDone (changes_members w (placed place g) asked host) report new before now →
        (change_to w (There (placed place g)) change number ≡ Goes new report (calls_of (change_to w (There (placed place g)) change number)))
        × (now ≡ before + calls_of (change_to w (There (placed place g)) change number))
    change_goes change asked asks done =
        acts_by (change_to w (There (placed place g)) change number) (changes_members w (placed place g) (change_of w g change host) host) report new before now
        (on_there (λ h. changes_members w (placed place g) (change_of w g change h) h))
        (subst (λ (c : Change). HasDone (changes_members w (placed place g) c host) report new before now) asks done)

    pub grow_goes : (asked : Change) → asked ≡ creation w g host.0 → HasDone (changes_members w (placed place g) asked host) report new before now →
        (grow_to w (There (placed place g)) number ≡ Goes new report (calls_of (grow_to w (There (placed place g)) number)))
        × (now ≡ before + calls_of (grow_to w (There (placed place g)) number))
    grow_goes asked asks done =
        acts_by (grow_to w (There (placed place g)) number) (changes_members w (placed place g) (creation w g host.0) host) report new before now
        (on_there (λ h. changes_members w (placed place g) (creation w g h.0) h))
        (subst (λ (c : Change). HasDone (changes_members w (placed place g) c host) report new before now) asks done)

  -- the group that stands at the place, its line, and what is printed
  pub member_goes : (place : ℕ) (g at : ScriptGroup) (line : ReportLine) (report : List ReportLine) (calls : ℕ) → slice_get w.groups place ≡ Some g → slice_get w.groups place ≡ Some at →
      line ≡ member_referred at host → report ≡ line ∷ [] →
      (member_of w (There (placed place g)) number ≡ Goes w report (calls_of (member_of w (There (placed place g)) number)))
      × (calls ≡ calls + calls_of (member_of w (There (placed place g)) number))
  member_goes place g at line report calls found stands told printed =
      let same : at ≡ g = same_some at g (sym stands ∙ found) in
      acts_by (member_of w (There (placed place g)) number) (says w (member_referred g host ∷ [])) report w calls calls
      (on_there (λ h. says w (member_referred g h ∷ []))) (record {
        world = refl;
        lines = printed ∙ ap (λ (l : ReportLine). l ∷ []) (told ∙ ap (λ (x : ScriptGroup). member_referred x host) same);
        calls = omega arith;
      })
