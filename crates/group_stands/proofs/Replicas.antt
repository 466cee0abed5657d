-- How a replica goes on standing for its host, and what it runs.
use Rattle.std.proofs.Common.{◌≡◌, ℕ, ◌+◌, ◌≤◌, Bool, true, false, cond, true≢false, List, [], ◌∷◌, ◌++◌, length, take, Option, Some, None, refl, sym, ap, subst, ◌∙◌, arith}
use Rattle.std.specs.Prelude.{unwrap_or}
use Rattle.ft_base.specs.Machine.{Machine, Fits}
use Rattle.ft_base.specs.Journal.{Entry, after, reply_at}
use Rattle.ft_base.specs.Laws.{Stays, StatesStay}
use Rattle.ft_base.specs.declared.requests.Outcome.{Outcome}
use Rattle.ft_base.specs.declared.requests.Request.{Request}
use Rattle.message_log.specs.Calls.{with_outcome}
use Rattle.message_log.specs.Laws.{LendsJournal, StandsAnswered}
use Rattle.message_log.specs.Picture.{Picture as LogPicture, request_at}
use Rattle.ft_replica.specs.Picture.{Picture as ReplicaPicture, one_further, settled, rebased, blanked}
use Rattle.group_model.specs.Laws.{Grows}
use Rattle.group_model.specs.Plain.{Common, Place, loaded_at, nowhere, state_at, with_ran}
use Rattle.group_model.specs.Serving.{joined}
use Rattle.group_model.specs.Transfers.{marked}
use Rattle.group_stands.specs.Stands.{LogStands, ReplicaStands, OpeningStands}
use Rattle.group_stands.specs.Telling.{IsLent}
use Rattle.group_stands.specs.Going.{HasRun}
use Rattle.group_stands.proofs.Places.{all_take}
use Rattle.group_stands.proofs.Runs.{state_next, reply_next, take_front, no_entries}
use Rattle.group_stands.proofs.Tells.{lends}
use Rattle.group_stands.proofs.Goes.{log_answered}

-- ---- an entry is run

-- what a request does in the replica's state it does in the state at its position
step_here : (machines : ℕ → Machine) (c : Common) (replica : ReplicaPicture) (place : Place) → ReplicaStands machines c replica place → place.loaded ≡ true →
    (q : Request) → (machines replica.kind).step replica.state q ≡ (machines c.kind).step (state_at (machines c.kind) c place.position) q
step_here machines c replica place stands loaded q =
    ap (λ (k : ℕ). (machines k).step replica.state q) stands.kind ∙ ap (λ (s : List ℕ). (machines c.kind).step s q) (stands.state loaded)

pub entry_run : LendsJournal → StandsAnswered → (machines : ℕ → Machine) (c : Common) (place : Place) (log : LogPicture) (replica : ReplicaPicture) →
    LogStands machines c log → ReplicaStands machines c replica place → place.loaded ≡ true →
    (q : Request) (outcome : Outcome) → request_at log replica.position ≡ Some q → outcome ≡ ((machines replica.kind).step replica.state q).1 →
    HasRun machines c place outcome (with_outcome log replica.position outcome) (one_further (machines replica.kind) q replica)
entry_run lending answering machines c place log replica s stands loaded q outcome there gives =
    let m = machines c.kind in
    let lent : IsLent m c place.position q = subst (λ (i : ℕ). IsLent m c i q) stands.position (lends lending machines c log s replica.position q there) in
    let step = step_here machines c replica place stands loaded q in
    let entry = ap (λ (x : Request). m.step (state_at m c place.position) x) (sym lent.same) in
    let reply : outcome ≡ reply_at m c.opening c.journal place.position =
    gives ∙ ap (λ (p : List ℕ × Outcome). p.1) (step ∙ entry) ∙ sym (reply_next m c.opening c.journal place.position lent.entry lent.there) in
    record {
      log =
          subst (λ (i : ℕ). LogStands machines (with_ran (place.position + 1) c) (with_outcome log i outcome)) (sym stands.position)
          (log_answered answering machines c log s place.position outcome reply lent.marked stands.ran lent.inside);
      replica = record {
        kind = stands.kind;
        loaded = stands.loaded;
        position = ap (λ (n : ℕ). n + 1) stands.position;
        base = stands.base;
        state = λ _. ap (λ (p : List ℕ × Outcome). p.0) (step ∙ entry) ∙ sym (state_next m c.opening c.journal place.position lent.entry lent.there);
        copied = stands.copied;
        order = omega (arith, stands.order);
        ran = omega arith;
      };
      reply = reply;
    }

-- ---- while others work

same_state : (machines : ℕ → Machine) (c later : Common) → Grows c later → (n : ℕ) → n ≤ length c.journal →
    state_at (machines c.kind) c n ≡ state_at (machines later.kind) later n
same_state machines c later g n le = sym (
    ap (λ (k : ℕ). after (machines k) later.opening (take n later.journal)) g.kind
    ∙ ap (λ (s : List ℕ). after (machines c.kind) s (take n later.journal)) g.opening
    ∙ ap (λ (es : List Entry). after (machines c.kind) c.opening (take n es)) g.journal
    ∙ ap (after (machines c.kind) c.opening) (take_front n c.journal g.more le)
    )

pub replica_stays : (machines : ℕ → Machine) (c later : Common) (replica : ReplicaPicture) (place : Place) →
    ReplicaStands machines c replica place → c.ran ≤ length c.journal → Grows c later → ReplicaStands machines later replica place
replica_stays machines c later replica place stands few g = record {
  kind = stands.kind ∙ sym g.kind;
  loaded = stands.loaded;
  position = stands.position;
  base = stands.base;
  state = λ l. stands.state l ∙ same_state machines c later g place.position (omega (arith, stands.ran, few));
  copied = λ l. stands.copied l ∙ same_state machines c later g place.base (omega (arith, stands.order, stands.ran, few));
  order = stands.order;
  ran = omega (arith, stands.ran, g.ran);
}

pub replica_joined : (machines : ℕ → Machine) (c : Common) (replica : ReplicaPicture) (place : Place) →
    ReplicaStands machines c replica place → c.ran ≤ length c.journal → (now : ℕ) (q : Request) → ReplicaStands machines (joined c now q) replica place
replica_joined machines c replica place stands few now q =
    let m = machines c.kind in
    let e : Entry = record { at = now; request = q } in
    let front : (n : ℕ) → n ≤ length c.journal → after m c.opening (take n c.journal) ≡ after m c.opening (take n (c.journal ++ e ∷ [])) =
    λ n le. ap (after m c.opening) (sym (take_front n c.journal (e ∷ []) le)) in
    record {
      kind = stands.kind;
      loaded = stands.loaded;
      position = stands.position;
      base = stands.base;
      state = λ l. stands.state l ∙ front place.position (omega (arith, stands.ran, few));
      copied = λ l. stands.copied l ∙ front place.base (omega (arith, stands.order, stands.ran, few));
      order = stands.order;
      ran = stands.ran;
    }

pub replica_ran : (machines : ℕ → Machine) (c : Common) (replica : ReplicaPicture) (place : Place) →
    ReplicaStands machines c replica place → (n : ℕ) → ReplicaStands machines (with_ran n c) replica place
replica_ran machines c replica place stands n = record {
  kind = stands.kind;
  loaded = stands.loaded;
  position = stands.position;
  base = stands.base;
  state = stands.state;
  copied = stands.copied;
  order = stands.order;
  ran = omega (arith, stands.ran);
}

-- ---- blank, loaded, at a new base

pub blank_stands : (machines : ℕ → Machine) (c : Common) (replica : ReplicaPicture) → replica.kind ≡ c.kind → ReplicaStands machines c (blanked replica) nowhere
blank_stands machines c replica kind = record {
  kind = kind;
  loaded = refl;
  position = refl;
  base = refl;
  state = λ no. absurd (true≢false (sym no));
  copied = λ no. absurd (true≢false (sym no));
  order = omega arith;
  ran = omega arith;
}

-- what is loaded is the state at the mark
checkpoint_is : (machines : ℕ → Machine) (c : Common) (log : LogPicture) → LogStands machines c log →
    (kind : ℕ) (opening : List ℕ) → OpeningStands c kind opening → unwrap_or log.state opening ≡ state_at (machines c.kind) c c.mark
checkpoint_is machines c log s kind opening opens = go c.taken s.state s.sound.numbers.fresh
  where
    go : (b : Bool) → log.state ≡ cond b (Some (state_at (machines c.kind) c c.mark)) None → (b ≡ false → c.mark ≡ 0) →
        unwrap_or log.state opening ≡ state_at (machines c.kind) c c.mark
    go true is fresh = ap (λ (o : Option (List ℕ)). unwrap_or o opening) is
    go false is fresh =
        ap (λ (o : Option (List ℕ)). unwrap_or o opening) is ∙ opens.state ∙ sym (no_entries (machines c.kind) c.opening)
        ∙ ap (λ (n : ℕ). state_at (machines c.kind) c n) (sym (fresh refl))

pub replica_loaded : (machines : ℕ → Machine) (c : Common) (log : LogPicture) → LogStands machines c log →
    (kind : ℕ) (opening : List ℕ) → OpeningStands c kind opening → (replica : ReplicaPicture) → replica.kind ≡ c.kind →
    ReplicaStands machines c (settled log.mark (unwrap_or log.state opening) replica) (loaded_at c.mark)
replica_loaded machines c log s kind opening opens replica same =
    let is = checkpoint_is machines c log s kind opening opens in
    record {
      kind = same;
      loaded = refl;
      position = s.mark;
      base = s.mark;
      state = λ _. is;
      copied = λ _. is;
      order = omega arith;
      ran = s.sound.numbers.mark;
    }

pub replica_rebased : (machines : ℕ → Machine) (c : Common) (replica : ReplicaPicture) (place : Place) →
    ReplicaStands machines c replica place → (clock : ℕ) → ReplicaStands machines (marked c clock) (rebased replica) (record place { base = place.position })
replica_rebased machines c replica place stands clock = record {
  kind = stands.kind;
  loaded = stands.loaded;
  position = stands.position;
  base = stands.position;
  state = stands.state;
  copied = stands.state;
  order = omega arith;
  ran = stands.ran;
}

-- ---- states and outcomes

pub state_is : StatesStay → (machines : ℕ → Machine) → ((k : ℕ) → Stays (machines k)) → (c : Common) (log : LogPicture) → LogStands machines c log →
    (n : ℕ) → (machines c.kind).is_state (state_at (machines c.kind) c n) ≡ true
state_is law machines stays c log s n =
    law (machines c.kind) (stays c.kind) c.opening (take n c.journal) s.sound.opens (all_take (λ (e : Entry). Fits (machines c.kind) e.request) n c.journal s.sound.journal.fit)

pub checkpoint_is_state : StatesStay → (machines : ℕ → Machine) → ((k : ℕ) → Stays (machines k)) → (c : Common) (log : LogPicture) → LogStands machines c log →
    (kind : ℕ) (opening : List ℕ) → OpeningStands c kind opening → (machines c.kind).is_state (unwrap_or log.state opening) ≡ true
checkpoint_is_state law machines stays c log s kind opening opens =
    ap (machines c.kind).is_state (checkpoint_is machines c log s kind opening opens) ∙ state_is law machines stays c log s c.mark
