-- What comes to a host from others, and its stops and starts.
use Rattle.std.proofs.Common.{◌≡◌, ℕ, ◌+◌, ◌-◌, ◌<◌, ◌≤◌, inl, inr, ◌⊎◌, Bool, true, false, List, [], ◌∷◌, length, refl, sym, subst, ap, ◌∙◌, arith, eq-eqb}
use Rattle.std.specs.Prelude.{not, ◌||◌, nat_eq, nat_lt, if◌then◌else◌}
use Rattle.std.proofs.lemmas.Bool.Decides.{nat_tests}
use Rattle.std.specs.List.{filter}
use Rattle.ft_base.specs.Machine.{Machine}
use Rattle.ft_base.specs.declared.decisions.Ignored.TheVariants as causes
use Rattle.ft_base.specs.declared.numbers.HostNo.{HostNo}
use Rattle.ft_base.specs.declared.requests.Request.{Request}
use Rattle.ft_base.specs.declared.views.Style.{Style}
use Rattle.ft_base.specs.declared.views.Style.TheVariants.{Warm, Active}
use Rattle.ft_replica.specs.Picture.{Picture as ReplicaPicture, blanked}
use Rattle.group_model.specs.declared.events.Event.{Event}
use Rattle.group_model.specs.declared.events.Event.TheVariants as events
use Rattle.group_model.specs.declared.events.GroupAnswer.{GroupAnswer}
use Rattle.group_model.specs.declared.events.GroupAnswer.TheVariants as answers
use Rattle.group_model.specs.Agreeing.{IsSoundHost}
use Rattle.group_model.specs.Events.{if_up, turn_of, host_of}
use Rattle.group_model.specs.Lean as leans
use Rattle.group_model.specs.Plain.{Common, Host, Group, blank, from, with_number, reach, loaded_at, put, with_ran}
use Rattle.group_model.specs.Transfers.{on_state, on_update, on_order, brought_to, ignoring, holding, ordered}
use Rattle.group_model.specs.Turns.{Turn, unchanged}
use Rattle.ft_base.specs.Views.{is_passive}
use Rattle.group_stands.specs.Going.{BlanksStand}
use Rattle.group_stands.specs.Holding.{HeldOrder, HoldStands, NothingIsHeld}
use Rattle.group_stands.specs.Stands.{LogStands, ReplicaStands}
use Rattle.active_sequencer.specs.Orders.{answer_of, Seen as OrdersSeen, IsOrdered, IsStopped, IsIgnoredWhere}
use Rattle.active_sequencer.specs.Orders as sequencing
use Rattle.active_sequencer.specs.declared.ordering.Ordered.{Ordered}
use Rattle.active_sequencer.specs.declared.ordering.Ordered.TheVariants as orderings
use Rattle.checkpoint_transfer.specs.Giving.{IsGiven, IsLeft}
use Rattle.checkpoint_transfer.specs.declared.giving.Given.{Given}
use Rattle.checkpoint_transfer.specs.declared.giving.Given.TheVariants as givings
use Rattle.group_hosts.specs.Answers.{given_told}
use Rattle.group_hosts.specs.Hosts.{HostPicture, HostStands, IsHere, Shared}
use Rattle.group_hosts.specs.Turning.{Seen, seen, IsTaken, IsShort, IsTurn}
use Rattle.group_hosts.proofs.Holds.{sound_of, with_ran-same}
use Rattle.group_hosts.proofs.Shapes.{either}

-- the host that is put there
pub put-same : (hosts : ℕ → Host) (i : ℕ) (h : Host) → put hosts i h i ≡ h
put-same hosts i h = ap (λ (b : Bool). if b then h else hosts i) (eq-eqb i i refl)

-- the host is loaded, and isn't past this entry
pub record IsToCome (h : Host) (i : ℕ) : Type 0 where
  pub loaded : h.place.loaded ≡ true
  pub to_come : h.place.position ≤ i

module _ (machines : ℕ → Machine) (g : Group) (s : Shared) (host : HostNo) (p : HostPicture) (here : IsHere machines g.common (g.hosts host.0) s p) where
  abbrev c : Common
  c = g.common

  abbrev h : Host
  h = g.hosts host.0

  -- ---- whether the host is up

  pub up_is : (t : Turn) → p.up ≡ true → if_up c h t ≡ t
  up_is t up = ap (λ (b : Bool). if b then t else unchanged c h answers.Down) (sym here.host.up ∙ up)

  pub down_is : (t : Turn) → p.up ≡ false → if_up c h t ≡ unchanged c h answers.Down
  down_is t down = ap (λ (b : Bool). if b then t else unchanged c h answers.Down) (sym here.host.up ∙ down)

  pub as_before : (answer : GroupAnswer) (steps : ℕ) → IsTaken machines (unchanged c h answer) answer steps (seen s.log p steps)
  as_before answer steps = record { log = here.log; host = here.host; told = refl; calls = omega arith }

  -- what a turn of a host that is up leaves
  pub up_taken : (t : Turn) (answer : GroupAnswer) (before : ℕ) (now : Seen) → p.up ≡ true → IsTaken machines t answer before now → IsTaken machines (if_up c h t) answer before now
  up_taken t answer before now up is = subst (λ (x : Turn). IsTaken machines x answer before now) (sym (up_is t up)) is

  -- ---- stops and starts

  pub forgot : BlanksStand → NothingIsHeld → (d : Common) (replica : ReplicaPicture) (up : Bool) → replica.kind ≡ d.kind →
      HostStands machines d (record { up = up; known = 0; replica = blanked replica; held = [] }) (blank up)
  forgot blanks nothing d replica up same = record {
    up = refl;
    known = refl;
    replica = blanks machines d replica same;
    held = nothing d.journal d.ran 0 [] refl;
  }

  -- ---- views

  -- ---- states and updates

  pub warm_is_passive : c.style ≡ Warm → is_passive c.style ≡ true
  warm_is_passive warm = subst (λ (x : Style). is_passive x ≡ true) (sym warm) refl

  -- what a transfer does: nothing, or the host is at a position
  pub record IsTransfer (t : Turn) : Type 0 where
    pub common : t.common ≡ c
    pub left : (t.host ≡ h) ⊎ ((n : ℕ) × (t.host ≡ record h { place = loaded_at n }))
    pub calls : t.calls ≡ 0

  transfers : (answer : GroupAnswer) → IsTransfer (unchanged c h answer)
  transfers answer = record { common = refl; left = inl refl; calls = refl }

  brings : (n : ℕ) → IsTransfer (brought_to n c h)
  brings n = record { common = refl; left = inr (n, refl); calls = refl }

  pub state_transfers : (n : ℕ) → IsTransfer (on_state c h n)
  state_transfers n =
      either IsTransfer (not h.place.loaded) (brought_to n c h) _ (λ e. brings n)
      (λ e. either IsTransfer (nat_lt h.place.position n) (brought_to n c h) _ (λ e. brings n) (λ e. transfers _))

  pub update_transfers : (n to : ℕ) → IsTransfer (on_update c h n to)
  update_transfers n to =
      either IsTransfer (not h.place.loaded) (ignoring c h causes.NotLoaded) _ (λ e. transfers _)
      (λ e. either IsTransfer (nat_eq h.place.position n) (brought_to to c h) _ (λ e. brings to) (λ e. transfers _))

  -- the host of such a turn, with its replica
  given_host : NothingIsHeld → (t : Turn) (replica : ReplicaPicture) → is_passive c.style ≡ true → IsTransfer t → ReplicaStands machines t.common replica t.host.place →
      HostStands machines t.common (record p { replica = replica }) t.host
  given_host nothing t replica passive is stands = go is.left where
    none : h.holdback ≡ []
    none = here.sound.passive passive

    no_orders : (orders : List HeldOrder) (holdback : List ℕ) → holdback ≡ [] → HoldStands c.journal c.ran h.place.position holdback orders → orders ≡ []
    no_orders [] holdback e held = refl
    no_orders (o ∷ orders) holdback e held = absurd (omega (arith, held.numbers (λ i. true), ap (λ (l : List ℕ). length (filter (λ i. true) l)) e))

    go : (t.host ≡ h) ⊎ ((n : ℕ) × (t.host ≡ record h { place = loaded_at n })) → HostStands machines t.common (record p { replica = replica }) t.host
    go (inl same) = record {
      up = here.host.up ∙ ap (λ (x : Host). x.up) (sym same);
      known = here.host.known ∙ ap (λ (x : Host). x.known) (sym same);
      replica = stands;
      held = subst (λ (x : Host). HoldStands t.common.journal t.common.ran x.place.position x.holdback p.held) (sym same)
          (subst (λ (d : Common). HoldStands d.journal d.ran h.place.position h.holdback p.held) (sym is.common) here.host.held);
    }
    go (inr at) =
        let left : t.host.holdback ≡ [] = ap (λ (x : Host). x.holdback) at.1 ∙ none in
        record {
          up = here.host.up ∙ ap (λ (x : Host). x.up) (sym at.1);
          known = here.host.known ∙ ap (λ (x : Host). x.known) (sym at.1);
          replica = stands;
          held = subst (λ (o : List HeldOrder). HoldStands t.common.journal t.common.ran t.host.place.position t.host.holdback o) (sym (no_orders p.held h.holdback none here.host.held))
              (nothing t.common.journal t.common.ran t.host.place.position t.host.holdback left);
        }

  given_taken : NothingIsHeld → (t : Turn) (answer : GroupAnswer) (replica : ReplicaPicture) (steps : ℕ) → is_passive c.style ≡ true → IsTransfer t →
      t.answer ≡ answer → ReplicaStands machines t.common replica t.host.place → IsTaken machines t answer steps (seen s.log (record p { replica = replica }) steps)
  given_taken nothing t answer replica steps passive is told stands = record {
    log = subst (λ (d : Common). LogStands machines d s.log) (sym is.common) here.log;
    host = given_host nothing t replica passive is stands;
    told = told;
    calls = omega (arith, is.calls);
  }

  -- memory was wanted, and nothing has changed
  pub short_as_before : (e : Event) (steps : ℕ) → host_of e ≡ host.0 → IsShort machines g e steps (seen s.log p steps)
  short_as_before e steps at = record {
    left = g;
    lean = leans.nothing refl;
    log = here.log;
    host = subst (λ (i : ℕ). HostStands machines c p (g.hosts i)) (sym at) here.host;
    sound = subst (λ (i : ℕ). IsSoundHost c (g.hosts i)) (sym at) here.sound;
    calls = omega arith;
    unwritten = λ same. omega arith;
  }

  pub state_given : NothingIsHeld → (n : ℕ) (state : List ℕ) (given : Given) (replica : ReplicaPicture) (steps : ℕ) → p.up ≡ true → is_passive c.style ≡ true →
      IsGiven machines c (on_state c h n) given replica → IsLeft given p.replica replica →
      IsTurn machines g (events.State host n state) (given_told given) steps (seen s.log (record p { replica = replica }) steps)
  state_given nothing n state (givings.Applied at) replica steps up passive is left =
      up_taken (on_state c h n) (answers.Applied at) steps _ up (given_taken nothing (on_state c h n) (answers.Applied at) replica steps passive (state_transfers n) is.0 (subst (λ (d : Common). ReplicaStands machines d replica (on_state c h n).host.place) (sym (state_transfers n).common) is.1))
  state_given nothing n state (givings.Ignored cause) replica steps up passive is left =
      up_taken (on_state c h n) (answers.Ignored cause) steps _ up (given_taken nothing (on_state c h n) (answers.Ignored cause) replica steps passive (state_transfers n) is.0 (subst (λ (d : Common). ReplicaStands machines d replica (on_state c h n).host.place) (sym (state_transfers n).common) is.1))
  state_given nothing n state givings.NoMemory replica steps up passive is left =
      rw left (short_as_before (events.State host n state) steps refl)

  pub update_given : NothingIsHeld → (n to : ℕ) (update : List ℕ) (given : Given) (replica : ReplicaPicture) (steps : ℕ) → p.up ≡ true → is_passive c.style ≡ true →
      IsGiven machines c (on_update c h n to) given replica → IsLeft given p.replica replica →
      IsTurn machines g (events.Update host n to update) (given_told given) steps (seen s.log (record p { replica = replica }) steps)
  update_given nothing n to update (givings.Applied at) replica steps up passive is left =
      up_taken (on_update c h n to) (answers.Applied at) steps _ up (given_taken nothing (on_update c h n to) (answers.Applied at) replica steps passive (update_transfers n to) is.0 (subst (λ (d : Common). ReplicaStands machines d replica (on_update c h n to).host.place) (sym (update_transfers n to).common) is.1))
  update_given nothing n to update (givings.Ignored cause) replica steps up passive is left =
      up_taken (on_update c h n to) (answers.Ignored cause) steps _ up (given_taken nothing (on_update c h n to) (answers.Ignored cause) replica steps passive (update_transfers n to) is.0 (subst (λ (d : Common). ReplicaStands machines d replica (on_update c h n to).host.place) (sym (update_transfers n to).common) is.1))
  update_given nothing n to update givings.NoMemory replica steps up passive is left =
      rw left (short_as_before (events.Update host n to update) steps refl)

  -- ---- orders

  -- what an order does: it leaves all but its host's place and what that holds back
  pub record IsOrderTurn (i : ℕ) (t : Turn) : Type 0 where
    pub common : t.common ≡ c
    pub same_up : t.host.up ≡ h.up
    pub known : t.host.known ≡ h.known
    pub calls : h.place.position < t.host.place.position → t.calls ≡ t.host.place.position - h.place.position

  ignores : (i : ℕ) (answer : GroupAnswer) → IsOrderTurn i (unchanged c h answer)
  ignores i answer = record { common = refl; same_up = refl; known = refl; calls = λ lt. absurd (omega (arith, lt)) }

  pub order_turns : (i : ℕ) → IsOrderTurn i (on_order c h i)
  order_turns i =
      either (IsOrderTurn i) (not h.place.loaded) (ignoring c h causes.NotLoaded) _ (λ e. ignores i _)
      (λ e. either (IsOrderTurn i) (nat_lt i h.place.position) (ignoring c h (causes.Order i h.place.position)) (ordered c (holding h i) (reach (holding h i).holdback h.place.position))
      (λ e. ignores i _) (λ e. record { common = refl; same_up = refl; known = refl; calls = λ lt. refl }))

  order_taken : (i : ℕ) (request : Request) (o : Ordered) (before now : OrdersSeen) → p.up ≡ true → sequencing.IsTurn machines h i (on_order c h i) o before now →
      IsTaken machines (turn_of (machines c.kind) g (events.Order host i request) false) (answer_of h.place.loaded i o) before.steps (seen s.log (record p { replica = now.replica; held = now.orders }) now.steps)
  order_taken i request o before now up is =
      let t = on_order c h i in
      let shape = order_turns i in
      up_taken t (answer_of h.place.loaded i o) before.steps (seen s.log (record p { replica = now.replica; held = now.orders }) now.steps) up (record {
        log = subst (λ (d : Common). LogStands machines d s.log) (sym shape.common) here.log;
        host = record { up = here.host.up ∙ sym shape.same_up; known = here.host.known ∙ sym shape.known; replica = is.replica; held = is.held };
        told = is.told;
        calls = is.calls;
      })

  -- one that isn't ignored has the host run on as far as it reaches
  order_reaches : (i : ℕ) → IsToCome h i → (on_order c h i).host.place.position ≡ reach (with_number i h.holdback) h.place.position
  order_reaches i comes =
      let behind : nat_lt i h.place.position ≡ false = let le = comes.to_come in grind (arith, nat_tests) in
      let runs = ordered c (holding h i) (reach (holding h i).holdback h.place.position) in
      let late = ignoring c h (causes.Order i h.place.position) in
      ap (λ (b : Bool). (if not b then ignoring c h causes.NotLoaded else (if nat_lt i h.place.position then late else runs)).host.place.position) comes.loaded
      ∙ ap (λ (b : Bool). (if b then late else runs).host.place.position) behind

  -- memory was wanted on the way
  order_stopped : (i : ℕ) (request : Request) (before now : OrdersSeen) → p.up ≡ true → (is_passive c.style ≡ true → ⊥) → IsToCome h i → IsStopped machines c h i before now →
      IsShort machines g (events.Order host i request) before.steps (seen s.log (record p { replica = now.replica; held = now.orders }) now.steps)
  order_stopped i request before now up active comes is =
      let n = is.position in
      let after = record h { place = record h.place { position = n }; holdback = from n (with_number i h.holdback) } in
      let t = turn_of (machines c.kind) g (events.Order host i request) false in
      let whole : t ≡ on_order c h i = up_is (on_order c h i) up in
      let stands : HostStands machines c (record p { replica = now.replica; held = now.orders }) after = record { up = here.host.up; known = here.host.known; replica = is.replica; held = is.held } in
      let same : with_ran n c ≡ c = with_ran-same c n is.replica.ran in
      let last : n ≤ reach (with_number i h.holdback) h.place.position = omega (arith, is.short, order_reaches i comes) in
      let count = (order_turns i).calls (omega (arith, is.first, is.short)) in
      let few : now.steps ≤ before.steps + t.calls = subst (λ (x : Turn). now.steps ≤ before.steps + x.calls) (sym whole) (omega (arith, is.calls, is.first, is.short, count)) in
      record {
        left = record { common = with_ran n c; hosts = put g.hosts host.0 after };
        lean = leans.partly (record {
          up = sym here.host.up ∙ up;
          host = after;
          part = record { loaded = comes.loaded; to_come = comes.to_come; position = n; first = is.first; last = last; is = inr refl };
          is = refl;
        });
        log = subst (λ (d : Common). LogStands machines d s.log) (sym same) here.log;
        host = subst (λ (x : Host). HostStands machines (with_ran n c) (record p { replica = now.replica; held = now.orders }) x) (sym (put-same g.hosts host.0 after))
            (subst (λ (d : Common). HostStands machines d (record p { replica = now.replica; held = now.orders }) after) (sym same) stands);
        sound = subst (λ (x : Host). IsSoundHost (with_ran n c) x) (sym (put-same g.hosts host.0 after))
            (subst (λ (d : Common). IsSoundHost d after) (sym same) (sound_of machines c _ after stands (sym here.host.up ∙ up) here.sound.known (λ no. let e : true ≡ false = sym comes.loaded ∙ no in absurd cc) (λ passive. absurd (active passive))));
        calls = few;
        unwritten = λ kept. few;
      }

  pub order_heard : (i : ℕ) (request : Request) (o : Ordered) (before now : OrdersSeen) → p.up ≡ true → c.style ≡ Active → before.replica ≡ p.replica → before.orders ≡ p.held →
      IsOrdered machines c h i o before now → (o ≡ orderings.NoMemory → IsToCome h i) →
      IsTurn machines g (events.Order host i request) (answer_of h.place.loaded i o) before.steps (seen s.log (record p { replica = now.replica; held = now.orders }) now.steps)
  order_heard i request (orderings.Applied position) before now up active replica held is loaded = order_taken i request (orderings.Applied position) before now up is
  order_heard i request (orderings.Held position) before now up active replica held is loaded = order_taken i request (orderings.Held position) before now up is
  order_heard i request (orderings.Ignored position) before now up active replica held is loaded = order_taken i request (orderings.Ignored position) before now up is
  order_heard i request orderings.NoMemory before now up active replica held (inl same) loaded =
      rw (same, replica, held) (short_as_before (events.Order host i request) before.steps refl)
  order_heard i request orderings.NoMemory before now up active replica held (inr stopped) loaded =
      order_stopped i request before now up (λ passive. let no : is_passive Active ≡ true = subst (λ (x : Style). is_passive x ≡ true) active passive in absurd cc) (loaded refl) stopped

-- an order that finds no memory comes to a host that is loaded and isn't past it
to_come_where : (loaded past : Bool) → (not loaded || past) ≡ false → (loaded ≡ true) × (past ≡ false)
to_come_where true past e = (refl, e)
to_come_where false past e = absurd cc

pub order_to_come : (loaded past : Bool) (position : ℕ) (o : Ordered) (before now : OrdersSeen) → IsIgnoredWhere (not loaded || past) position o before now → o ≡ orderings.NoMemory →
    (loaded ≡ true) × (past ≡ false)
order_to_come loaded past position orderings.NoMemory before now is e = to_come_where loaded past is
order_to_come loaded past position (orderings.Applied n) before now is e = absurd cc
order_to_come loaded past position (orderings.Held n) before now is e = absurd cc
order_to_come loaded past position (orderings.Ignored n) before now is e = absurd cc
