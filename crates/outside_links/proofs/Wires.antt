-- The exact clauses of a link in memory give those of the traits.
use Rattle.std.proofs.Common.{◌≡◌, ℕ, true, List, ◌++◌, take, Some, refl, sym, ap, ◌∙◌, arith}
use Rattle.std.proofs.Math.Seq.{take-length}
use Rattle.ft_outside.specs.Gains.{left_splits}
use Rattle.outside_links.specs.Wires.{Wire, IsReceived, IsSent}
use Rattle.ft_outside.specs.Outside.{IsRead, IsWritten}
use Rattle.ft_outside.specs.declared.sources.Got.{Got}
use Rattle.ft_outside.specs.declared.sources.Got.TheVariants as gots
use Rattle.ft_outside.specs.declared.sinks.Put.{Put}
use Rattle.ft_outside.specs.declared.sinks.Put.TheVariants as puts

pub received_reads : (old new : Wire) (into : List ℕ) (got : Got) → IsReceived old new into got
    → IsRead (Some old.left) (Some new.left) old.schedule.faults new.schedule.faults into got
received_reads old new into (gots.Bytes n) h =
    (h.2, omega (arith, h.3), ap Some (left_splits n into old.left new.left h.4 (ap (λ (w : Wire). w.left) h.5)), ap (λ (w : Wire). w.schedule.faults) h.5)
received_reads old new into gots.End h =
    (ap (λ (w : Wire). Some w.left) h.3, ap Some h.2, ap (λ (w : Wire). w.schedule.faults) h.3)
received_reads old new into gots.Failed h =
    (ap (λ (w : Wire). Some w.left) h.1, ap (λ (w : Wire). w.schedule.faults) h.1)

pub received_holds : (old new : Wire) (into : List ℕ) (got : Got) → IsReceived old new into got → Some new.held ≡ Some old.held
received_holds old new into (gots.Bytes n) h = ap (λ (w : Wire). Some w.held) h.5
received_holds old new into gots.End h = ap (λ (w : Wire). Some w.held) h.3
received_holds old new into gots.Failed h = ap (λ (w : Wire). Some w.held) h.1

pub received_closed : (old new : Wire) (into : List ℕ) (got : Got) → IsReceived old new into got → new.closed ≡ old.closed
received_closed old new into (gots.Bytes n) h = ap (λ (w : Wire). w.closed) h.5
received_closed old new into gots.End h = ap (λ (w : Wire). w.closed) h.3
received_closed old new into gots.Failed h = ap (λ (w : Wire). w.closed) h.1

pub received_shut : (old new : Wire) (into : List ℕ) (got : Got) → IsReceived old new into got → old.closed ≡ true → got ≡ gots.Failed
received_shut old new into (gots.Bytes n) h shut = absurd (cc (h.0, shut))
received_shut old new into gots.End h shut = absurd (cc (h.0, shut))
received_shut old new into gots.Failed h shut = refl

pub sent_writes : (old new : Wire) (piece : List ℕ) (put : Put) → IsSent old new piece put
    → IsWritten (Some old.held) (Some new.held) old.schedule.faults new.schedule.faults piece put
sent_writes old new piece (puts.Took n) h = (
  h.2,
  omega (arith, h.3),
  ap (λ (w : Wire). Some w.held) h.5 ∙ ap (λ (xs : List ℕ). Some (old.held ++ xs)) (sym (ap (λ (k : ℕ). take k piece) h.3 ∙ take-length piece)),
  ap (λ (w : Wire). w.schedule.faults) h.5,
)
sent_writes old new piece puts.Failed h =
    (ap (λ (w : Wire). Some w.held) h.1, ap (λ (w : Wire). w.schedule.faults) h.1)

pub sent_left : (old new : Wire) (piece : List ℕ) (put : Put) → IsSent old new piece put → Some new.left ≡ Some old.left
sent_left old new piece (puts.Took n) h = ap (λ (w : Wire). Some w.left) h.5
sent_left old new piece puts.Failed h = ap (λ (w : Wire). Some w.left) h.1

pub sent_closed : (old new : Wire) (piece : List ℕ) (put : Put) → IsSent old new piece put → new.closed ≡ old.closed
sent_closed old new piece (puts.Took n) h = ap (λ (w : Wire). w.closed) h.5
sent_closed old new piece puts.Failed h = ap (λ (w : Wire). w.closed) h.1

pub sent_shut : (old new : Wire) (piece : List ℕ) (put : Put) → IsSent old new piece put → old.closed ≡ true → put ≡ puts.Failed
sent_shut old new piece (puts.Took n) h shut = absurd (cc (h.0, shut))
sent_shut old new piece puts.Failed h shut = refl
