-- The values that are words. (Chapter 23, "Fault Tolerance Properties".)
use Rattle.std.specs.Prelude.{ℕ, Bool, true, false, if◌then◌else◌, List, [], ◌∷◌, Option, Some, None, codes}
use Rattle.std.specs.Str.{bytes_eq}
use Rattle.ft_base.specs.declared.views.Style.{Style}
use Rattle.ft_base.specs.declared.views.Style.TheVariants as styles
use Rattle.property_manager.specs.declared.styles.ReplicationStyle.{ReplicationStyle}
use Rattle.property_manager.specs.declared.styles.ReplicationStyle.TheVariants as replication
use Rattle.property_manager.specs.declared.styles.MembershipStyle.{MembershipStyle}
use Rattle.property_manager.specs.declared.styles.MembershipStyle.TheVariants as membership
use Rattle.property_manager.specs.declared.styles.ConsistencyStyle.{ConsistencyStyle}
use Rattle.property_manager.specs.declared.styles.ConsistencyStyle.TheVariants as consistency
use Rattle.property_manager.specs.declared.styles.FaultMonitoringStyle.{FaultMonitoringStyle}
use Rattle.property_manager.specs.declared.styles.FaultMonitoringStyle.TheVariants as monitoring
use Rattle.property_manager.specs.declared.styles.FaultMonitoringGranularity.{FaultMonitoringGranularity}
use Rattle.property_manager.specs.declared.styles.FaultMonitoringGranularity.TheVariants as granularities

-- what a text says, by a table of words
abbrev pub said : {A : Type 0} → List (List ℕ × A) → List ℕ → Option A
said [] text = None
said (row ∷ rows) text = if bytes_eq text row.0 then Some row.1 else said rows text

unfoldable pub replication_style : List ℕ → Option ReplicationStyle
replication_style text =
    said ((codes "STATELESS", replication.Stateless) ∷ (codes "COLD_PASSIVE", replication.ColdPassive)
    ∷ (codes "WARM_PASSIVE", replication.WarmPassive) ∷ (codes "ACTIVE", replication.Active)
    ∷ (codes "ACTIVE_WITH_VOTING", replication.ActiveWithVoting) ∷ []) text

-- as groups are kept
abbrev pub supported_style : ReplicationStyle → Option Style
supported_style replication.Stateless = None
supported_style replication.ColdPassive = Some styles.Cold
supported_style replication.WarmPassive = Some styles.Warm
supported_style replication.Active = Some styles.Active
supported_style replication.ActiveWithVoting = None

unfoldable pub membership_style : List ℕ → Option MembershipStyle
membership_style text =
    said ((codes "MEMB_APP_CTRL", membership.Application) ∷ (codes "MEMB_INF_CTRL", membership.Infrastructure) ∷ []) text

-- the infrastructure makes and removes members
abbrev pub is_infrastructure_style : Option MembershipStyle → Bool
is_infrastructure_style None = false
is_infrastructure_style (Some membership.Application) = false
is_infrastructure_style (Some membership.Infrastructure) = true

abbrev pub is_infrastructure : List ℕ → Bool
is_infrastructure text = is_infrastructure_style (membership_style text)

unfoldable pub consistency_style : List ℕ → Option ConsistencyStyle
consistency_style text =
    said ((codes "CONS_APP_CTRL", consistency.Application) ∷ (codes "CONS_INF_CTRL", consistency.Infrastructure) ∷ []) text

unfoldable pub monitoring_style : List ℕ → Option FaultMonitoringStyle
monitoring_style text =
    said ((codes "PULL", monitoring.Pull) ∷ (codes "PUSH", monitoring.Push) ∷ (codes "NOT_MONITORED", monitoring.NotMonitored) ∷ []) text

unfoldable pub granularity : List ℕ → Option FaultMonitoringGranularity
granularity text =
    said ((codes "MEMB", granularities.Member) ∷ (codes "LOC", granularities.Location)
    ∷ (codes "LOC_AND_TYPE", granularities.LocationAndType) ∷ []) text
