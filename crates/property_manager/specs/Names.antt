-- The ten properties by their names, and the value of each that is built in.
-- (Chapter 23, "Fault Tolerance Properties": each name begins with `org.omg.ft.`)
use Rattle.std.specs.Prelude.{ℕ, List, [], ◌∷◌, Option, codes}
use Rattle.std.specs.List.{find}
use Rattle.std.specs.Str.{bytes_eq}
use Rattle.property_manager.specs.declared.names.PropertyName.{PropertyName}
use Rattle.property_manager.specs.declared.names.PropertyName.TheVariants as names

abbrev pub all : List PropertyName
all =
    names.ReplicationStyle ∷ names.MembershipStyle ∷ names.ConsistencyStyle ∷ names.FaultMonitoringStyle
    ∷ names.FaultMonitoringGranularity ∷ names.Factories ∷ names.InitialNumberReplicas ∷ names.MinimumNumberReplicas
    ∷ names.FaultMonitoringIntervalAndTimeout ∷ names.CheckpointInterval ∷ []

unfoldable pub text_of : PropertyName → List ℕ
text_of names.ReplicationStyle = codes "org.omg.ft.ReplicationStyle"
text_of names.MembershipStyle = codes "org.omg.ft.MembershipStyle"
text_of names.ConsistencyStyle = codes "org.omg.ft.ConsistencyStyle"
text_of names.FaultMonitoringStyle = codes "org.omg.ft.FaultMonitoringStyle"
text_of names.FaultMonitoringGranularity = codes "org.omg.ft.FaultMonitoringGranularity"
text_of names.Factories = codes "org.omg.ft.Factories"
text_of names.InitialNumberReplicas = codes "org.omg.ft.InitialNumberReplicas"
text_of names.MinimumNumberReplicas = codes "org.omg.ft.MinimumNumberReplicas"
text_of names.FaultMonitoringIntervalAndTimeout = codes "org.omg.ft.FaultMonitoringIntervalAndTimeout"
text_of names.CheckpointInterval = codes "org.omg.ft.CheckpointInterval"

-- the value where no level sets one
unfoldable pub built_in : PropertyName → List ℕ
built_in names.ReplicationStyle = codes "COLD_PASSIVE"
built_in names.MembershipStyle = codes "MEMB_APP_CTRL"
built_in names.ConsistencyStyle = codes "CONS_INF_CTRL"
built_in names.FaultMonitoringStyle = codes "PULL"
built_in names.FaultMonitoringGranularity = codes "MEMB"
built_in names.Factories = codes "-"
built_in names.InitialNumberReplicas = codes "1"
built_in names.MinimumNumberReplicas = codes "1"
built_in names.FaultMonitoringIntervalAndTimeout = codes "10/5"
built_in names.CheckpointInterval = codes "100"

-- the property with a name
unfoldable pub named : List ℕ → Option PropertyName
named text = find (λ name. bytes_eq text (text_of name)) all
