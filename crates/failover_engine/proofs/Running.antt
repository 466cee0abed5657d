-- A replica that goes on over the entries of the journal.
use Rattle.std.proofs.Common.{◌≡◌, ℕ, ◌+◌, ◌<◌, ◌≤◌, max, length, ap, arith}
use Rattle.ft_base.specs.Machine.{Machine}
use Rattle.message_log.specs.Picture.{Picture as LogPicture}
use Rattle.ft_replica.specs.Picture.{Picture as ReplicaPicture}
use Rattle.group_model.specs.Plain.{Common, Place, with_ran}
use Rattle.group_stands.specs.Stands.{LogStands, ReplicaStands}
use Rattle.failover_engine.specs.Catching.{IsAt}

-- what has run is no further
with_ran-same : (c : Common) (n : ℕ) → n ≤ c.ran → with_ran n c ≡ c
with_ran-same c n h = let e : max c.ran n ≡ c.ran = omega arith in ap (λ k. record c { ran = k }) e

with_ran-twice : (c : Common) (n k : ℕ) → n ≤ k → with_ran k (with_ran n c) ≡ with_ran k c
with_ran-twice c n k h = let e : max (max c.ran n) k ≡ max c.ran k = omega arith in ap (λ i. record c { ran = i }) e

-- at the beginning
pub at_first : (machines : ℕ → Machine) (c : Common) (place : Place) (log : LogPicture) (replica : ReplicaPicture) →
    LogStands machines c log → ReplicaStands machines c replica place → IsAt machines c place log replica place.position
at_first machines c place log replica stands replica_stands = record {
  log_stands = rw (with_ran-same c place.position replica_stands.ran) stands;
  replica_stands = rw (with_ran-same c place.position replica_stands.ran) replica_stands;
  first = omega arith;
  last = omega (arith, stands.sound.numbers.ran, replica_stands.ran);
}

-- one entry on
pub at_next : (machines : ℕ → Machine) (c : Common) (place : Place) (log log' : LogPicture) (replica replica' : ReplicaPicture) (n : ℕ) →
    IsAt machines c place log replica n → n < length c.journal →
    LogStands machines (with_ran (n + 1) (with_ran n c)) log' × ReplicaStands machines (with_ran (n + 1) (with_ran n c)) replica' (record place { position = n + 1 }) →
    IsAt machines c place log' replica' (n + 1)
at_next machines c place log log' replica replica' n at inside next =
    let e = with_ran-twice c n (n + 1) (omega arith) in
    record {
      log_stands = rw e at next.0;
      replica_stands = rw e at next.1;
      first = omega (arith, at.first);
      last = omega arith;
    }
