-- The states and updates of a made script, and its rounds one after another.
use Rattle.std.proofs.Common.{◌≡◌, ℕ, zero, suc, ◌+◌, ◌%◌, ◌≤◌, arith, Bool, true, false, if◌then◌else◌, List, [], ◌∷◌, ◌++◌, append_assoc, length, length-append, map, Option, Some, None, refl, ap, sym, subst, ◌∙◌, lit≤}
use Rattle.std.specs.Prelude.{◌==◌, slice_get}
use Rattle.fault_script.specs.declared.lines.Line.{Line}
use Rattle.fault_script.specs.declared.lines.Line.TheVariants as lines
use Rattle.ft_base.specs.declared.decisions.Stop.TheVariants.{Never}
use Rattle.ft_base.specs.declared.numbers.HostNo.{HostNo}
use Rattle.ft_base.specs.Views.{is_passive}
use Rattle.ft_world.specs.Delivering.{brought_to, delivered}
use Rattle.group_model.specs.Agreeing.{first_up, taking_host}
use Rattle.group_model.specs.Plain.{Group}
use Rattle.group_model.specs.Sending.{brought}
use Rattle.group_model.specs.Takers.{if_host_up, taker, updater}
use Rattle.group_model.specs.Views.{host_no, is_warm, newest_view, sent_to, view_at}
use Rattle.group_model.specs.declared.events.Event.{Event}
use Rattle.group_model.specs.declared.events.Event.TheVariants as events
use Rattle.group_model.specs.declared.events.GroupAnswer.{GroupAnswer}
use Rattle.group_model.specs.declared.events.Inner.{Inner}
use Rattle.group_model.specs.declared.events.Inner.TheVariants as inners
use Rattle.group_model.specs.declared.events.Out.{Out}
use Rattle.made_lines.specs.Laws.{few_sent}
use Rattle.made_lines.specs.Made.{arrival, bank, call_made, round_made, rounds_made, transfer_made, transfers_made}
use Rattle.made_scripts.specs.Scripts.{drawn, sent_by_call, sent_by_transfer, sent_in}
use Rattle.script_groups.specs.Groups.{acted, group_of, placed, turn}
use Rattle.script_world.specs.World.{at_most_one_past, host_clock, ticked, with_event}
use Rattle.script_world.specs.declared.hosts.HostState.{HostState}
use Rattle.script_world.specs.declared.messages.Message.{Message}
use Rattle.script_world.specs.declared.messages.Message.TheVariants as messages
use Rattle.world_transfers.specs.Transfers.{checkpoint_by, checkpoint_event, checkpoint_of, checkpointed, update_by, update_of, updated}
use Rattle.world_turns.specs.Naming.{Naming}
use Rattle.world_turns.specs.Sending.{payload, payloads}
use Rattle.world_turns.specs.Turns.{Effect, costing, goes}
use Rattle.made_worlds.proofs.Callers.{bank_id}
use Rattle.made_worlds.proofs.Happened.{IsLed, Laws, Serves, Transferred, came, more}
use Rattle.made_worlds.proofs.Happened as happened
use Rattle.made_worlds.proofs.Rounds.{LeadsOn, Runs, Stands, call_leads, fits, more_led}
use Rattle.made_worlds.proofs.Turns.{IsLight}
use Rattle.made_worlds.proofs.Worlds.{Does, MANY, State, first_leads, leads_on, none_lead, bank_at, by_number, called, counted_most, numbered, sent_at, world}

-- ---- what the primary sends

-- it takes the group's checkpoints, and sends its updates
takes : (n : ℕ) (g : Group) → IsLed n g → taker g ≡ Some (host_no 0)
takes n g is =
    let first : taking_host g ≡ Some (host_no 0) =
    λ i. if is_passive (is.group.style i) then (view_at (is.group.views_are i) (length (is.group.views_are i))).primary else first_up g.hosts (newest_view g.common).members in
    ap (if_host_up g) first ∙ (λ i. if is.primary.up i then Some (host_no 0) else None)

sends : (n : ℕ) (g : Group) → IsLed n g → updater g ≡ Some (host_no 0)
sends n g is = (λ i. if is_warm (is.group.style i) then taker g else None) ∙ takes n g is

-- a message to each of the other members
abbrev out : ℕ → Inner → Message
out host carried = messages.Carried bank_id (record { to = host_no host; carried = carried })

pub record Sends (sent : ℕ) (s : State) (line : Line) : Type 0 where
  pub next : State
  pub does : Does s line next
  pub stands : Stands (sent + 2) next
  pub clients : next.clients ≡ s.clients
  pub carried : Inner
  pub light : IsLight carried
  pub messages : next.messages ≡ s.messages ++ out 1 carried ∷ out 2 carried ∷ []

light_payload : (carried : Inner) → IsLight carried → payload carried ≡ 8
light_payload (inners.View sent) light = absurd light
light_payload (inners.State n state) light = light
light_payload (inners.Update n k update) light = light
light_payload (inners.Order i q) light = absurd light

-- the world with both on the way
abbrev with_two : State → Event → Inner → State
with_two s e carried = record s {
  past = more s.past e;
  messages = s.messages ++ out 1 carried ∷ out 2 carried ∷ [];
  bytes = at_most_one_past (s.bytes + payloads (sent_to (1 ∷ 2 ∷ []) carried));
}

two_stand : (sent : ℕ) (s : State) (e : Event) (carried : Inner) → IsLight carried → Stands sent s → Serves (IsLed sent) (more s.past e) → Stands (sent + 2) (with_two s e carried)
two_stand sent s e carried light is serves = record {
  messages = omega (arith, is.messages, length-append s.messages (out 1 carried ∷ out 2 carried ∷ []));
  bytes = omega (arith, is.bytes, counted_most (s.bytes + payloads (sent_to (1 ∷ 2 ∷ []) carried)), light_payload carried light);
  subscribers = is.subscribers;
  hosts = is.hosts;
  serves = more_led sent (sent + 2) (more s.past e) (omega arith) serves;
}

checkpoint_sends : Laws → (sent : ℕ) (s : State) → Stands sent s → Sends sent s (lines.Checkpoint bank)
checkpoint_sends laws sent s is =
    let w = world s in
    let g = bank_at s in
    let e = checkpoint_event w (host_no 0) in
    let t = happened.checkpointed laws sent s.past (record { 0 = host_clock w 0 }) is.serves in
    let last : GroupAnswer → Effect = λ answer. costing (turn g e).calls (checkpointed (with_event w 0 g e) (host_no 0) (acted g e) answer) in
    record {
      next = with_two s e t.answer.carried;
      does = record {
        report = _;
        calls = _;
        is = ap (checkpoint_of w) (called s) ∙ ap (λ (o : Option HostNo). goes (checkpoint_by w (placed 0 g) o)) (takes sent (group_of g) is.serves.is) ∙ ap (λ (a : GroupAnswer). goes (last a)) t.answer.is;
      };
      stands = two_stand sent s e t.answer.carried t.answer.light is t.serves;
      clients = refl;
      carried = t.answer.carried;
      light = t.answer.light;
      messages = refl;
    }

update_sends : Laws → (sent : ℕ) (s : State) → Stands sent s → Sends sent s (lines.Update bank)
update_sends laws sent s is =
    let w = world s in
    let g = bank_at s in
    let e = events.SendUpdate (host_no 0) in
    let t = happened.updated laws sent s.past is.serves in
    let last : GroupAnswer → Effect = λ answer. costing (turn g e).calls (updated (with_event w 0 g e) (host_no 0) (acted g e) answer) in
    record {
      next = with_two s e t.answer.carried;
      does = record {
        report = _;
        calls = _;
        is = ap (update_of w) (called s) ∙ ap (λ (o : Option HostNo). goes (update_by w (placed 0 g) o)) (sends sent (group_of g) is.serves.is) ∙ ap (λ (a : GroupAnswer). goes (last a)) t.answer.is;
      };
      stands = two_stand sent s e t.answer.carried t.answer.light is t.serves;
      clients = refl;
      carried = t.answer.carried;
      light = t.answer.light;
      messages = refl;
    }

-- ---- what comes to the others

pub arrives : (s : State) (o : Out) (at : ℕ) → slice_get s.messages at ≡ Some (messages.Carried bank_id o) →
    Does s (lines.Deliver (at + 1) Never) (record s { past = more s.past (brought o) })
arrives s o at there = record {
  report = _;
  calls = _;
  is = ap (delivered (world s) (at + 1) Never) (by_number s at (messages.Carried bank_id o) there) ∙ ap (λ (n : Naming). goes (brought_to (world s) (at + 1) o n)) (numbered s);
}

-- ---- the lines of a transfer

transfer_sends : Laws → (sent : ℕ) (s : State) → Stands sent s → (b : Bool) → Sends sent s (if b then lines.Checkpoint bank else lines.Update bank)
transfer_sends laws sent s is true = checkpoint_sends laws sent s is
transfer_sends laws sent s is false = update_sends laws sent s is

-- time goes on
ticks : (sent : ℕ) (s : State) → Stands sent s → Stands sent (record s { clock = s.clock + 1; hosts = map (ticked 1) s.hosts })
ticks sent s is = record {
  messages = is.messages;
  bytes = is.bytes;
  subscribers = is.subscribers;
  hosts = ap (λ (hs : List HostState). map (ticked 1) hs) is.hosts;
  serves = is.serves;
}

transfer_leads : Laws → (rounds sent : ℕ) (s : State) → Runs sent rounds s → sent + 2 ≤ MANY → LeadsOn (sent + sent_by_transfer rounds) rounds s (transfers_made rounds sent)
unfolding transfers_made
transfer_leads laws rounds sent s r few = go (rounds % 100 == 0)
  where
    sent_two : Sends sent s (transfer_made rounds)
    sent_two = transfer_sends laws sent s r.stands (rounds % 1000 == 0)

    t1 : State
    t1 = sent_two.next

    o1 : Out
    o1 = record { to = host_no 1; carried = sent_two.carried }

    o2 : Out
    o2 = record { to = host_no 2; carried = sent_two.carried }

    t2 : State
    t2 = record t1 { past = more t1.past (brought o1) }

    t3 : State
    t3 = record t2 { past = more t2.past (brought o2) }

    t4 : State
    t4 = record t3 { clock = t3.clock + 1; hosts = map (ticked 1) t3.hosts }

    stands2 : Stands (sent + 2) t2
    stands2 = record {
      messages = sent_two.stands.messages;
      bytes = sent_two.stands.bytes;
      subscribers = sent_two.stands.subscribers;
      hosts = sent_two.stands.hosts;
      serves = came laws (sent + 2) t1.past sent_two.carried (host_no 1) sent_two.light sent_two.stands.serves;
    }

    stands3 : Stands (sent + 2) t3
    stands3 = record {
      messages = stands2.messages;
      bytes = stands2.bytes;
      subscribers = stands2.subscribers;
      hosts = stands2.hosts;
      serves = came laws (sent + 2) t2.past sent_two.carried (host_no 2) sent_two.light stands2.serves;
    }

    stands4 : Stands (sent + 2) t4
    stands4 = ticks (sent + 2) t3 stands3

    first : slice_get t1.messages sent ≡ Some (messages.Carried bank_id o1)
    first = ap (λ (ms : List Message). slice_get ms sent) sent_two.messages ∙ sent_at s.messages (messages.Carried bank_id o2 ∷ []) _ sent r.stands.messages

    second : slice_get t2.messages (sent + 1) ≡ Some (messages.Carried bank_id o2)
    second =
        ap (λ (ms : List Message). slice_get ms (sent + 1)) (sent_two.messages ∙ sym (append_assoc s.messages (messages.Carried bank_id o1 ∷ []) (messages.Carried bank_id o2 ∷ [])))
        ∙ sent_at (s.messages ++ messages.Carried bank_id o1 ∷ []) [] _ (sent + 1) (omega (arith, r.stands.messages, length-append s.messages (messages.Carried bank_id o1 ∷ [])))

    number : sent + 1 + 1 ≡ sent + 2
    number = omega arith

    third : Does t2 (arrival (sent + 2)) t3
    third = subst (λ (k : ℕ). Does t2 (lines.Deliver k Never) t3) number (arrives t2 o2 (sent + 1) second)

    none : sent ≡ sent + 0
    none = omega arith

    go : (b : Bool) → LeadsOn (sent + (if b then 2 else 0)) rounds s (if b then transfer_made rounds ∷ arrival (sent + 1) ∷ arrival (sent + 2) ∷ lines.Tick 1 ∷ [] else [])
    go false = subst (λ (n : ℕ). LeadsOn n rounds s []) none (record { next = s; runs = r; leads = none_lead s })
    go true = record {
      next = t4;
      runs = record { stands = stands4; k = r.k; clients = sent_two.clients ∙ r.clients; early = r.early };
      leads =
          first_leads s (transfer_made rounds) (arrival (sent + 1) ∷ arrival (sent + 2) ∷ lines.Tick 1 ∷ []) t1 t4 (sent + 2) sent_two.does few (fits (sent + 2) t1 sent_two.stands)
          (first_leads t1 (arrival (sent + 1)) (arrival (sent + 2) ∷ lines.Tick 1 ∷ []) t2 t4 (sent + 2) (arrives t1 o1 sent first) few (fits (sent + 2) t2 stands2)
          (first_leads t2 (arrival (sent + 2)) (lines.Tick 1 ∷ []) t3 t4 (sent + 2) third few (fits (sent + 2) t3 stands3)
          (first_leads t3 (lines.Tick 1) [] t4 t4 (sent + 2) (record { report = _; calls = _; is = refl }) few (fits (sent + 2) t4 stands4) (none_lead t4))));
    }

-- ---- all rounds

by_call : (b : Bool) → (if b then 3 else 2) ≤ 3
by_call true = lit≤ tt
by_call false = lit≤ tt

pub rounds_lead : Laws → (seed : ℕ) (s : State) → Runs 0 0 s → (n : ℕ) → n ≤ 50000 → LeadsOn (sent_in seed n) n s (rounds_made seed n)
unfolding sent_in rounds_made
rounds_lead laws seed s r zero few = record { next = s; runs = r; leads = none_lead s }
rounds_lead laws seed s r (suc n) few =
    let before = rounds_lead laws seed s r n (omega (arith, few)) in
    let sent = sent_in seed n in
    let x = drawn seed (suc n) in
    let bound : sent + 5 ≤ MANY = omega (arith, few, few_sent seed n) in
    let three = by_call (x % 5 == 0) in
    let call = call_leads laws n x sent before.next before.runs (omega (arith, few)) (omega (arith, bound)) in
    let transfer = transfer_leads laws (n + 1) (sent + sent_by_call x) call.next call.runs (omega (arith, bound, three)) in
    let count : sent + sent_by_call x + sent_by_transfer (n + 1) ≡ sent + (sent_by_call x + sent_by_transfer (n + 1)) = omega arith in
    let next : n + 1 ≡ suc n = omega arith in
    record {
      next = transfer.next;
      runs = subst (λ (m : ℕ). Runs m (suc n) transfer.next) count (subst (λ (m : ℕ). Runs (sent + sent_by_call x + sent_by_transfer (n + 1)) m transfer.next) next transfer.runs);
      leads = leads_on s (rounds_made seed n) (round_made n x sent) before.next transfer.next before.leads
          (leads_on before.next (call_made n x sent) (transfers_made (n + 1) (sent + sent_by_call x)) call.next transfer.next call.leads transfer.leads);
    }
