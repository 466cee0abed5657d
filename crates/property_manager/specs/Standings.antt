-- What a text is as the value of a property: a value that is supported, one that isn't, or none.
use Rattle.std.specs.Prelude.{ℕ, Bool, true, false, if◌then◌else◌, List, Option, Some, None, is_some}
use Rattle.ft_base.specs.declared.views.Style.{Style}
use Rattle.property_manager.specs.declared.names.PropertyName.{PropertyName}
use Rattle.property_manager.specs.declared.names.PropertyName.TheVariants as names
use Rattle.property_manager.specs.declared.standings.Standing.{Standing}
use Rattle.property_manager.specs.declared.standings.Standing.TheVariants as standings
use Rattle.property_manager.specs.declared.styles.ReplicationStyle.{ReplicationStyle}
use Rattle.property_manager.specs.declared.styles.MembershipStyle.{MembershipStyle}
use Rattle.property_manager.specs.declared.styles.MembershipStyle.TheVariants as membership
use Rattle.property_manager.specs.declared.styles.ConsistencyStyle.{ConsistencyStyle}
use Rattle.property_manager.specs.declared.styles.ConsistencyStyle.TheVariants as consistency
use Rattle.property_manager.specs.declared.styles.FaultMonitoringStyle.{FaultMonitoringStyle}
use Rattle.property_manager.specs.declared.styles.FaultMonitoringStyle.TheVariants as monitoring
use Rattle.property_manager.specs.declared.styles.FaultMonitoringGranularity.{FaultMonitoringGranularity}
use Rattle.property_manager.specs.declared.styles.FaultMonitoringGranularity.TheVariants as granularities
use Rattle.property_manager.specs.Hosts.{factories}
use Rattle.property_manager.specs.Numbers.{replicas, ticks, interval_and_timeout}
use Rattle.property_manager.specs.Styles.{replication_style, supported_style, membership_style, consistency_style, monitoring_style, granularity}

abbrev pub is_unlisted : Standing → Bool
is_unlisted standings.Supported = false
is_unlisted standings.Unsupported = false
is_unlisted standings.Unlisted = true

abbrev pub is_unsupported : Standing → Bool
is_unsupported standings.Supported = false
is_unsupported standings.Unsupported = true
is_unsupported standings.Unlisted = false

abbrev pub listed : Bool → Standing
listed b = if b then standings.Supported else standings.Unlisted

abbrev pub kept : Option Style → Standing
kept None = standings.Unsupported
kept (Some style) = standings.Supported

abbrev pub replicated : Option ReplicationStyle → Standing
replicated None = standings.Unlisted
replicated (Some style) = kept (supported_style style)

abbrev pub of_replication_style : List ℕ → Standing
of_replication_style text = replicated (replication_style text)

abbrev pub made : Option MembershipStyle → Standing
made None = standings.Unlisted
made (Some membership.Application) = standings.Supported
made (Some membership.Infrastructure) = standings.Supported

abbrev pub of_membership_style : List ℕ → Standing
of_membership_style text = made (membership_style text)

abbrev pub consistent : Option ConsistencyStyle → Standing
consistent None = standings.Unlisted
consistent (Some consistency.Application) = standings.Unsupported
consistent (Some consistency.Infrastructure) = standings.Supported

abbrev pub of_consistency_style : List ℕ → Standing
of_consistency_style text = consistent (consistency_style text)

abbrev pub watched : Option FaultMonitoringStyle → Standing
watched None = standings.Unlisted
watched (Some monitoring.Pull) = standings.Supported
watched (Some monitoring.Push) = standings.Unsupported
watched (Some monitoring.NotMonitored) = standings.Supported

abbrev pub of_monitoring_style : List ℕ → Standing
of_monitoring_style text = watched (monitoring_style text)

abbrev pub grained : Option FaultMonitoringGranularity → Standing
grained None = standings.Unlisted
grained (Some granularities.Member) = standings.Supported
grained (Some granularities.Location) = standings.Unsupported
grained (Some granularities.LocationAndType) = standings.Unsupported

abbrev pub of_granularity : List ℕ → Standing
of_granularity text = grained (granularity text)

abbrev pub of_factories : List ℕ → Standing
of_factories text = listed (is_some (factories text))

abbrev pub of_replicas : List ℕ → Standing
of_replicas text = listed (is_some (replicas text))

abbrev pub of_interval : List ℕ → Standing
of_interval text = listed (is_some (interval_and_timeout text))

abbrev pub of_ticks : List ℕ → Standing
of_ticks text = listed (is_some (ticks text))

unfoldable pub standing_of : PropertyName → List ℕ → Standing
standing_of names.ReplicationStyle text = of_replication_style text
standing_of names.MembershipStyle text = of_membership_style text
standing_of names.ConsistencyStyle text = of_consistency_style text
standing_of names.FaultMonitoringStyle text = of_monitoring_style text
standing_of names.FaultMonitoringGranularity text = of_granularity text
standing_of names.Factories text = of_factories text
standing_of names.InitialNumberReplicas text = of_replicas text
standing_of names.MinimumNumberReplicas text = of_replicas text
standing_of names.FaultMonitoringIntervalAndTimeout text = of_interval text
standing_of names.CheckpointInterval text = of_ticks text
