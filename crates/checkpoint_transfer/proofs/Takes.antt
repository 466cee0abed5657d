-- A state or an update that was taken.
use Rattle.std.proofs.Common.{◌≡◌, ℕ, true, List, length, None, Ok, Err, sym, ap, ◌∙◌}
use Rattle.std.specs.Prelude.{replicate}
use Rattle.ft_base.specs.Machine.{Machine}
use Rattle.ft_base.specs.declared.numbers.Tick.{Tick}
use Rattle.message_log.specs.Calls.{IsCheckpointed}
use Rattle.message_log.specs.Picture.{Picture as LogPicture}
use Rattle.message_log.specs.declared.answers.LogFault.{LogFault}
use Rattle.message_log.specs.declared.answers.LogFault.TheVariants as faults
use Rattle.ft_replica.specs.Picture.{Picture as ReplicaPicture}
use Rattle.ft_replica.specs.Picture as replicas
use Rattle.group_model.specs.Plain.{Common, Place, state_at}
use Rattle.group_stands.specs.Giving.{ReplicasGiveUpdates, ReplicasLeadOn}
use Rattle.group_stands.specs.Going.{LogsGoOnBeside, CheckpointsStand, ReplicasRebase}
use Rattle.group_stands.specs.Stands.{LogStands, ReplicaStands, IsCaughtUp}
use Rattle.group_stands.specs.Telling.{CaughtUpHasRun}
use Rattle.checkpoint_transfer.specs.Taking.{IsStateTaken, IsUpdateTaken}

pub state_taken : (machines : ℕ → Machine) (c : Common) (place : Place) (log log' : LogPicture) (replica replica' : ReplicaPicture) (clock : Tick) (copies : ℕ) (state : List ℕ) (given : List (List ℕ)) →
    LogsGoOnBeside → CheckpointsStand → ReplicasRebase → CaughtUpHasRun → state ≡ replica.state → given ≡ replicate copies state →
    IsCheckpointed log clock state (Ok tt) log' → replica' ≡ replicas.rebased replica →
    LogStands machines c log → ReplicaStands machines c replica place → IsCaughtUp c place → IsStateTaken machines c place clock.0 copies given log' replica'
state_taken machines c place log log' replica replica' clock copies state given beside checkpoints rebase has_run is listed written moved log_stands stands caught =
    let whole : state ≡ state_at (machines c.kind) c (length c.journal) = is ∙ stands.state caught.loaded ∙ ap (state_at (machines c.kind) c) caught.end in
    let ran = has_run machines c log replica place log_stands stands caught in
    let next = checkpoints machines c log log_stands ran clock in
    record {
      log = rw (written.2, whole) (beside machines _ _ next None _ _ _);
      replica = rw moved (rebase machines c replica place stands clock.0);
      states = listed ∙ ap (replicate copies) whole;
    }

pub left_standing : (machines : ℕ → Machine) (c : Common) (log log' : LogPicture) (clock : Tick) (state : List ℕ) (fault : LogFault) →
    LogsGoOnBeside → IsCheckpointed log clock state (Err fault) log' → LogStands machines c log → LogStands machines c log'
left_standing machines c log log' clock state faults.Failed beside left stands = rw left.1 (beside machines c log stands None _ _ _)
left_standing machines c log log' clock state faults.ViewsFull beside left stands = absurd left
left_standing machines c log log' clock state faults.NoMemory beside left stands = rw left stands

pub update_taken : (machines : ℕ → Machine) (c : Common) (place : Place) (replica replica' : ReplicaPicture) (copies : ℕ) (update : List ℕ) (given : List (List ℕ)) →
    ReplicasGiveUpdates → ReplicasLeadOn → replica.loaded ≡ true → update ≡ (machines replica.kind).delta replica.copied replica.state →
    given ≡ replicate copies update → replica' ≡ replicas.rebased replica →
    ReplicaStands machines c replica place → IsUpdateTaken machines c place copies given replica'
update_taken machines c place replica replica' copies update given gives leads loaded is listed moved stands = record {
  replica = rw moved (leads machines c replica place stands);
  updates = listed ∙ ap (replicate copies) (is ∙ (gives machines c replica place stands (sym stands.loaded ∙ loaded)).is);
}
