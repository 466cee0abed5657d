-- What a core that stands for a group tells of the group's hosts.
use Rattle.std.proofs.Common.{◌≡◌, ℕ, ◌<◌, arith, Some, subst, ◌∙◌}
use Rattle.std.specs.Prelude.{slice_get}
use Rattle.ft_base.specs.declared.limits.TheConstants.{HOST_LIMIT}
use Rattle.ft_base.specs.declared.numbers.Version.{Version}
use Rattle.group_core.specs.Cores.{CorePicture}
use Rattle.group_core.specs.Telling.{CoresTell, HostTells}
use Rattle.group_hosts.specs.Hosts.{HostPicture}
use Rattle.group_model.specs.Plain.{Host}
use Rattle.shipped_servants.specs.Kinds.{machine_of_kind}
use Rattle.script_groups.specs.Groups.{ScriptGroup, common_of, group_of, machine_of}
use Rattle.script_groups.specs.Lists.{some_at}
use Rattle.script_groups.specs.Standing.{IsStanding}

-- the view of a version
pub view_is : (tell : CoresTell) (core : CorePicture) (g : ScriptGroup) → IsStanding core g → (version : ℕ) →
    Rattle.message_log.specs.Picture.view_at core.log version ≡ Rattle.group_core.specs.Telling.shown_view (common_of g) version
view_is tell core g stands version = (tell machine_of_kind core (group_of g) stands.core_stands).views version

module _ (tell : CoresTell) (core : CorePicture) (g : ScriptGroup) (stands : IsStanding core g) (i : ℕ) (inside : i < HOST_LIMIT) where
  abbrev its_host : Host
  its_host = (group_of g).hosts i

  -- what is told of one of its hosts
  pub record IsSlot : Type 0 where
    pub at : HostPicture
    pub there : slice_get core.hosts i ≡ Some at
    pub tells : HostTells (machine_of g) (common_of g) at its_host

  pub slot : IsSlot
  slot =
      let it = some_at core.hosts i (omega (arith, inside, stands.core_stands.count)) in
      let told = (tell machine_of_kind core (group_of g) stands.core_stands).hosts i it.0 it.1 in
      record { at = it.0; there = it.1; tells = subst (λ (k : ℕ). HostTells (machine_of_kind k) (common_of g) it.0 its_host) stands.kind told }

  abbrev Knows : Version → Type 0
  Knows known = (at : HostPicture) → slice_get core.hosts i ≡ Some at → known.0 ≡ at.known

  -- the version that it knows
  pub knows_is : (known : Version) → Knows known → known.0 ≡ its_host.known
  knows_is known knows = knows slot.at slot.there ∙ slot.tells.known
