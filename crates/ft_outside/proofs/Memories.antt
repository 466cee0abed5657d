-- The exact clauses of the forms in memory give those of the traits.
use Rattle.std.proofs.Common.{ℕ, List, ◌++◌, take, Some, sym, ap, ◌∙◌, arith}
use Rattle.std.proofs.Math.Seq.{take-length}
use Rattle.ft_outside.specs.Gains.{left_splits}
use Rattle.ft_outside.specs.Memory.{Feed, Store, IsReadOfFeed, IsWriteToStore}
use Rattle.ft_outside.specs.Outside.{IsRead, IsWritten}
use Rattle.ft_outside.specs.declared.sources.Got.{Got}
use Rattle.ft_outside.specs.declared.sources.Got.TheVariants as gots
use Rattle.ft_outside.specs.declared.sinks.Put.{Put}
use Rattle.ft_outside.specs.declared.sinks.Put.TheVariants as puts

pub read_of_feed : (old new : Feed) (into : List ℕ) (got : Got) → IsReadOfFeed old new into got
    → IsRead (Some old.left) (Some new.left) old.schedule.faults new.schedule.faults into got
read_of_feed old new into (gots.Bytes n) h =
    (h.1, omega (arith, h.2), ap Some (left_splits n into old.left new.left h.3 (ap (λ (f : Feed). f.left) h.4)), ap (λ (f : Feed). f.schedule.faults) h.4)
read_of_feed old new into gots.End h =
    (ap (λ (f : Feed). Some f.left) h.2, ap Some h.1, ap (λ (f : Feed). f.schedule.faults) h.2)
read_of_feed old new into gots.Failed h =
    (ap (λ (f : Feed). Some f.left) h.1, ap (λ (f : Feed). f.schedule.faults) h.1)

pub write_to_store : (old new : Store) (piece : List ℕ) (put : Put) → IsWriteToStore old new piece put
    → IsWritten (Some old.held) (Some new.held) old.schedule.faults new.schedule.faults piece put
write_to_store old new piece (puts.Took n) h = (
  h.1,
  omega (arith, h.2),
  ap (λ (s : Store). Some s.held) h.4 ∙ ap (λ (xs : List ℕ). Some (old.held ++ xs)) (sym (ap (λ (k : ℕ). take k piece) h.2 ∙ take-length piece)),
  ap (λ (s : Store). s.schedule.faults) h.4,
)
write_to_store old new piece puts.Failed h =
    (ap (λ (s : Store). Some s.held) h.1, ap (λ (s : Store). s.schedule.faults) h.1)
