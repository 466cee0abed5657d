-- A replica runs the orders that follow one another.
use Rattle.std.proofs.Common.{◌≡◌, ℕ, zero, suc, ◌+◌, ◌-◌, ◌<◌, ◌≤◌, Bool, true, false, cond, List, [], ◌∷◌, length, Some, None, refl, sym, ap, subst, ◌∙◌, arith}
use Rattle.std.specs.Prelude.{is_some}
use Rattle.std.specs.List.{filter}
use Rattle.std.proofs.lemmas.List.{length-map}
use Rattle.ft_base.specs.Machine.{Machine, Fits}
use Rattle.ft_base.specs.Journal.{Entry}
use Rattle.ft_base.specs.declared.limits.TheConstants.{JOURNAL_LIMIT}
use Rattle.ft_base.specs.declared.requests.Request.{Request}
use Rattle.ft_replica.specs.Picture.{Picture as ReplicaPicture, one_further}
use Rattle.group_model.specs.Agreeing.{IsOrdered}
use Rattle.group_model.specs.Plain.{Common, Place, is_held, past_held, reach}
use Rattle.group_stands.specs.Holding.{HeldOrder, holds, indices, request_of, HoldStands, HoldbacksTell, HeldAreOrdered, OrdersFit, OrdersRun}
use Rattle.group_stands.specs.Stands.{ReplicaStands}
use Rattle.active_sequencer.specs.Orders.{CanRun, HasRun, HasStopped}

-- ---- how far what is held reaches

past_stop : (holdback : List ℕ) (n most : ℕ) → is_held n holdback ≡ false → past_held holdback n most ≡ n
unfolding past_held
past_stop holdback n zero free = refl
past_stop holdback n (suc most) free = ap (λ (b : Bool). cond b (past_held holdback (n + 1) most) n) free

past_more : (holdback : List ℕ) (n most : ℕ) → is_held n holdback ≡ true → past_held holdback n (suc most) ≡ past_held holdback (n + 1) most
unfolding past_held
past_more holdback n most there = ap (λ (b : Bool). cond b (past_held holdback (n + 1) most) n) there

past_none : (holdback : List ℕ) (n : ℕ) → past_held holdback n 0 ≡ n
unfolding past_held
past_none holdback n = refl

past_low : (holdback : List ℕ) (n most : ℕ) → n ≤ past_held holdback n most
unfolding past_held
past_low holdback n zero = omega arith
past_low holdback n (suc most) = go (is_held n holdback) (past_low holdback (n + 1) most)
  where
    go : (b : Bool) → n + 1 ≤ past_held holdback (n + 1) most → n ≤ cond b (past_held holdback (n + 1) most) n
    go true next = omega (arith, next)
    go false next = omega arith

-- ---- on the way

-- it has run so many, and the rest of them leads where all of them do
pub record IsUnderway (machines : ℕ → Machine) (c : Common) (place : Place) (holdback : List ℕ) (its_replica : ReplicaPicture) (done : ℕ) : Type 0 where
  pub replica : ReplicaStands machines c its_replica (record place { position = its_replica.position })
  pub at : its_replica.position ≡ place.position + done
  pub goes : past_held holdback its_replica.position (length holdback - done) ≡ reach holdback place.position

none_off : (n : ℕ) → n - 0 ≡ n
none_off n = omega arith

pub underway_first : (machines : ℕ → Machine) (c : Common) (place : Place) (holdback : List ℕ) (orders : List HeldOrder) (r : ReplicaPicture) →
    CanRun machines c place holdback orders r → IsUnderway machines c place holdback r 0
underway_first machines c place holdback orders r can = record {
  replica = subst (λ (n : ℕ). ReplicaStands machines c r (record place { position = n })) (sym can.replica.position) can.replica;
  at = omega (arith, can.replica.position);
  goes = ap (λ (n : ℕ). past_held holdback n (length holdback - 0)) can.replica.position ∙ ap (past_held holdback place.position) (none_off (length holdback));
}

all_pass : (xs : List ℕ) → length (filter (λ i. true) xs) ≡ length xs
all_pass [] = refl
all_pass (x ∷ xs) = ap suc (all_pass xs)

held_count : (journal : List Entry) (ran position : ℕ) (holdback : List ℕ) (orders : List HeldOrder) → HoldStands journal ran position holdback orders → length holdback ≡ length orders
held_count journal ran position holdback orders s =
    sym (all_pass holdback) ∙ sym (s.numbers (λ i. true)) ∙ all_pass (indices orders) ∙ length-map orders (λ (o : HeldOrder). o.0)

module _ (tell : HoldbacksTell) (ordered : HeldAreOrdered) (fit : OrdersFit) (runs : OrdersRun) (machines : ℕ → Machine) (c : Common) (place : Place) (holdback : List ℕ) (orders : List HeldOrder) (old : ReplicaPicture)
    (can : CanRun machines c place holdback orders old) where
  -- what is found is the order of the entry at the replica's position
  next_is : (r : ReplicaPicture) (index : ℕ) → index ≡ r.position → (q : Request) → request_of index orders ≡ Some q →
      IsOrdered c r.position q × (is_held r.position holdback ≡ true)
  next_is r index here q found =
      ordered c place.position holdback orders can.held r.position q (ap (λ (n : ℕ). request_of n orders) (sym here) ∙ found)

  -- it may be run
  pub fits_next : (r : ReplicaPicture) (done index : ℕ) → IsUnderway machines c place holdback r done → index ≡ r.position → (q : Request) → request_of index orders ≡ Some q →
      Fits (machines r.kind) q × (r.position < JOURNAL_LIMIT)
  fits_next r done index way here q found =
      let may = fit machines c can.sound r.position q (next_is r index here q found).0 in
      (subst (λ (k : ℕ). Fits (machines k) q) (sym way.replica.kind) may.0, may.1)

  -- the rest of what is held, after one of them
  rest_is : (r : ReplicaPicture) (done : ℕ) → IsUnderway machines c place holdback r done → done < length orders → is_held r.position holdback ≡ true →
      past_held holdback (r.position + 1) (length holdback - (done + 1)) ≡ reach holdback place.position
  rest_is r done way less there =
      let one : length holdback - done ≡ suc (length holdback - (done + 1)) = omega (arith, less, held_count c.journal c.ran place.position holdback orders can.held) in
      sym (past_more holdback r.position (length holdback - (done + 1)) there) ∙ ap (past_held holdback r.position) (sym one) ∙ way.goes

  -- and then it is one further
  pub underway_next : (r after : ReplicaPicture) (done index : ℕ) → IsUnderway machines c place holdback r done → done < length orders → index ≡ r.position →
      (q : Request) → request_of index orders ≡ Some q → after ≡ one_further (machines r.kind) q r → IsUnderway machines c place holdback after (done + 1)
  underway_next r after done index way less here q found moves =
      let it = next_is r index here q found in
      subst (λ (s : ReplicaPicture). IsUnderway machines c place holdback s (done + 1)) (sym moves)
      (record {
        replica = runs machines c r (record place { position = r.position }) way.replica can.loaded q it.0;
        at = omega (arith, way.at);
        goes = rest_is r done way less it.1;
      })

  -- none is held of the entry at its position, or all were run
  has_run : (r : ReplicaPicture) (done before now : ℕ) → IsUnderway machines c place holdback r done → r.position ≡ reach holdback place.position → now ≡ before + done →
      HasRun machines c place holdback r before now
  has_run r done before now way ends calls = record {
    replica = subst (λ (n : ℕ). ReplicaStands machines c r (record place { position = n })) ends way.replica;
    first = omega (arith, ends, way.at);
    calls = omega (arith, ends, way.at, calls);
  }

  pub ends_at_gap : (r : ReplicaPicture) (done index before now : ℕ) → IsUnderway machines c place holdback r done → index ≡ r.position → request_of index orders ≡ None →
      now ≡ before + done → HasRun machines c place holdback r before now
  ends_at_gap r done index before now way here none calls =
      let free : is_held r.position holdback ≡ false =
      tell c.journal c.ran place.position holdback orders can.held r.position ∙ ap (λ (n : ℕ). holds n orders) (sym here) ∙ ap is_some none in
      has_run r done before now way (sym (past_stop holdback r.position (length holdback - done) free) ∙ way.goes) calls

  pub ends_with_all : (r : ReplicaPicture) (done before now : ℕ) → IsUnderway machines c place holdback r done → done ≡ length orders →
      now ≡ before + done → HasRun machines c place holdback r before now
  ends_with_all r done before now way all calls =
      let zero_left : length holdback - done ≡ 0 = omega (arith, all, held_count c.journal c.ran place.position holdback orders can.held) in
      has_run r done before now way (sym (past_none holdback r.position) ∙ ap (past_held holdback r.position) (sym zero_left) ∙ way.goes) calls

  -- no memory was found for the next one
  pub stops_short : (r : ReplicaPicture) (done index before middle now : ℕ) → IsUnderway machines c place holdback r done → done < length orders → index ≡ r.position →
      (q : Request) → request_of index orders ≡ Some q → middle ≡ before + done → now ≡ middle + 1 → HasStopped machines c place holdback r before now
  stops_short r done index before middle now way less here q found calls one =
      let goes = rest_is r done way less (next_is r index here q found).1 in
      record {
        position = r.position;
        first = omega (arith, way.at);
        short = omega (arith, goes, past_low holdback (r.position + 1) (length holdback - (done + 1)));
        replica = way.replica;
        calls = omega (arith, way.at, calls, one);
      }
