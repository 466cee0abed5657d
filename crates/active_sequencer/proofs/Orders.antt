-- An order that a loaded host takes has the plain group's turn.
use Rattle.std.proofs.Common.{◌≡◌, ℕ, ◌<◌, ◌≤◌, Bool, true, false, cond, List, refl, sym, ap, subst, ◌∙◌, inr, lt-ltb, ltb-true, arith}
use Rattle.std.specs.Prelude.{nat_lt, not}
use Rattle.ft_base.specs.Machine.{Machine}
use Rattle.ft_base.specs.declared.decisions.Ignored.TheVariants as causes
use Rattle.ft_base.specs.declared.requests.Request.{Request}
use Rattle.ft_replica.specs.Picture.{Picture as ReplicaPicture}
use Rattle.group_model.specs.declared.events.GroupAnswer.{GroupAnswer}
use Rattle.group_model.specs.declared.events.GroupAnswer.TheVariants as answers
use Rattle.group_model.specs.Plain.{Common, Host, from, reach, with_number}
use Rattle.group_model.specs.Transfers.{holding, ignoring, ordered, on_order}
use Rattle.group_model.specs.Turns.{Turn}
use Rattle.group_stands.specs.Holding.{HeldOrder, HoldStands, orders_from, with_order, OrdersAreHeld, HoldbacksAreDropped}
use Rattle.active_sequencer.specs.Orders.{Seen, seen, CanOrder, CanRun, HasRun, HasStopped, answer_of, IsTurn, IsOrdered}
use Rattle.active_sequencer.specs.declared.ordering.Ordered.{Ordered}
use Rattle.active_sequencer.specs.declared.ordering.Ordered.TheVariants.{Applied, Held, NoMemory}

-- what is held with the order may be run
pub may_run : OrdersAreHeld → (machines : ℕ → Machine) (c : Common) (h : Host) (i : ℕ) (request : Request) (before : Seen) (orders : List HeldOrder) →
    CanOrder machines c h i request before → before.replica.loaded ≡ true → before.replica.position ≤ i → orders ≡ with_order i request before.orders →
    CanRun machines c h.place (with_number i h.holdback) orders before.replica
may_run law machines c h i request before orders can loaded low is = record {
  sound = can.sound;
  replica = can.replica;
  held =
      subst (HoldStands c.journal c.ran h.place.position (with_number i h.holdback)) (sym is)
      (law c h.place.position h.holdback before.orders can.held i request can.order (omega (arith, low, can.replica.position)));
  loaded = sym can.replica.loaded ∙ loaded;
}

not_before : (a b : ℕ) → b ≤ a → nat_lt a b ≡ false
not_before a b le = go (nat_lt a b) refl
  where
    go : (t : Bool) → nat_lt a b ≡ t → t ≡ false
    go true e = absurd (omega (arith, ltb-true a b e, le))
    go false e = refl

-- the plain group's turn at a loaded host that has not run the entry
turn_is : (c : Common) (h : Host) (i : ℕ) → h.place.loaded ≡ true → h.place.position ≤ i →
    on_order c h i ≡ ordered c (holding h i) (reach (with_number i h.holdback) h.place.position)
turn_is c h i loaded low = go h.place.loaded (nat_lt i h.place.position) loaded (not_before i h.place.position low)
  where
    go : (b d : Bool) → b ≡ true → d ≡ false →
        cond {A = Turn} (not b) (ignoring c h causes.NotLoaded)
        (cond d (ignoring c h (causes.Order i h.place.position)) (ordered c (holding h i) (reach (with_number i h.holdback) h.place.position)))
        ≡ ordered c (holding h i) (reach (with_number i h.holdback) h.place.position)
    go true false e f = refl
    go true true e f = absurd cc
    go false d e f = absurd cc

module _ (law : HoldbacksAreDropped) (machines : ℕ → Machine) (c : Common) (h : Host) (i : ℕ) (request : Request) (before : Seen) (orders left : List HeldOrder) (replica : ReplicaPicture) (steps position : ℕ)
    (can : CanOrder machines c h i request before) (loaded : before.replica.loaded ≡ true) (low : before.replica.position ≤ i)
    (may : CanRun machines c h.place (with_number i h.holdback) orders before.replica) (here : position ≡ replica.position) (keeps : left ≡ orders_from position orders) where
  -- the position that what is held reaches
  abbrev end : ℕ
  end = reach (with_number i h.holdback) h.place.position

  turn_here : on_order c h i ≡ ordered c (holding h i) end
  turn_here = turn_is c h i may.loaded (omega (arith, low, can.replica.position))

  -- what is left is held from there on
  left_held : (n : ℕ) → position ≡ n → HoldStands c.journal c.ran n (from n (with_number i h.holdback)) left
  left_held n is =
      subst (HoldStands c.journal c.ran n (from n (with_number i h.holdback))) (sym (keeps ∙ ap (λ (k : ℕ). orders_from k orders) is))
      (law c.journal c.ran h.place.position (with_number i h.holdback) orders may.held n)

  -- a turn with any answer
  ran_so : (o : Ordered) → HasRun machines c h.place (with_number i h.holdback) replica before.steps steps →
      (ordered c (holding h i) end).answer ≡ answer_of h.place.loaded i o → IsTurn machines h i (on_order c h i) o before (seen left replica steps)
  ran_so o ran told =
      subst (λ (t : Turn). IsTurn machines h i t o before (seen left replica steps)) (sym turn_here)
      (record { replica = ran.replica; held = left_held end (here ∙ ran.replica.position); told = told; calls = ran.calls })

  abbrev answers_with : Bool → GroupAnswer
  answers_with b = cond b (answers.Applied end) (answers.Held h.place.position)

  pub ran_on : (first : ℕ) → first ≡ before.replica.position → first < position → HasRun machines c h.place (with_number i h.holdback) replica before.steps steps →
      IsTurn machines h i (on_order c h i) (Applied position) before (seen left replica steps)
  ran_on first began on ran =
      let more : nat_lt h.place.position end ≡ true = lt-ltb h.place.position end (omega (arith, began, on, here, ran.replica.position, can.replica.position)) in
      ran_so (Applied position) ran (ap answers_with more ∙ ap answers.Applied (sym (here ∙ ran.replica.position)))

  pub stayed : (first : ℕ) → first ≡ before.replica.position → position ≤ first → HasRun machines c h.place (with_number i h.holdback) replica before.steps steps →
      IsTurn machines h i (on_order c h i) (Held position) before (seen left replica steps)
  stayed first began on ran =
      let less : end ≤ h.place.position = omega (arith, began, on, here, ran.replica.position, can.replica.position) in
      let still : h.place.position ≡ position = omega (arith, less, ran.first, here, ran.replica.position) in
      ran_so (Held position) ran (ap answers_with (not_before h.place.position end less) ∙ ap answers.Held still)

  pub stopped : HasStopped machines c h.place (with_number i h.holdback) replica before.steps steps → IsOrdered machines c h i NoMemory before (seen left replica steps)
  stopped ran = inr (record {
    position = ran.position;
    first = ran.first;
    short = subst (λ (n : ℕ). ran.position < n) (sym (ap (λ (t : Turn). t.host.place.position) turn_here)) ran.short;
    replica = ran.replica;
    held = left_held ran.position (here ∙ ran.replica.position);
    calls = ran.calls;
  })
