-- The calls of a made script's rounds. Each sends the messages that the script counts, so the next one's numbers are right.
use Rattle.std.proofs.Common.{◌≡◌, ℕ, zero, suc, ◌+◌, ◌*◌, ◌%◌, ◌<◌, ◌≤◌, arith, Bool, true, false, if◌then◌else◌, List, [], ◌∷◌, ◌++◌, length, length-append, Some, refl, ap, sym, subst, ◌∙◌, codes, decimal, lit<, lit≤, mod-lt}
use Rattle.std.specs.Fmt.{digits}
use Rattle.std.specs.Prelude.{◌==◌, nat_eq, slice_get, slice_set}
use Rattle.client_retry.specs.declared.limits.TheConstants.{LAST_ID}
use Rattle.fault_script.specs.declared.lines.Line.{Line}
use Rattle.fault_script.specs.declared.lines.Line.TheVariants as lines
use Rattle.ft_base.specs.Coding as words
use Rattle.ft_base.specs.declared.decisions.Stop.TheVariants.{Never}
use Rattle.ft_base.specs.declared.numbers.Tick.{Tick}
use Rattle.ft_base.specs.declared.requests.Par.TheVariants.{I64}
use Rattle.ft_base.specs.declared.requests.Request.{Request}
use Rattle.ft_world.specs.Delivering.{asked_by}
use Rattle.ft_world.specs.Requests.{gives_asked, request_at}
use Rattle.group_model.specs.Views.{host_no, view_at}
use Rattle.host_ports.specs.Ports.{all_ports}
use Rattle.made_lines.specs.Made.{arrival, bank, call_made, deposit_made}
use Rattle.made_scripts.specs.Scripts.{sent_by_call}
use Rattle.made_scripts.specs.Lines.{client}
use Rattle.message_sizes.specs.Sizes.{request_size}
use Rattle.script_clients.specs.Clients.{Client}
use Rattle.script_groups.specs.Groups.{common_of, placed}
use Rattle.script_groups.specs.declared.happenings.Happening.{Happening}
use Rattle.script_groups.specs.References.{newest_reference, reference_in}
use Rattle.script_subscribers.specs.Subscribers.{Subscribers, nobody_listens}
use Rattle.script_world.specs.World.{client_named, host_clock}
use Rattle.script_world.specs.declared.hosts.HostState.{HostState}
use Rattle.script_world.specs.declared.limits.TheConstants.{DEFAULT_LIFE}
use Rattle.script_world.specs.declared.messages.Message.{Message}
use Rattle.script_world.specs.declared.messages.Message.TheVariants as messages
use Rattle.servant_account.specs.Account.{account}
use Rattle.sys_faults.specs.declared.answers.Answer.{Answer}
use Rattle.made_worlds.proofs.Amounts.{amount_args, deposit_said}
use Rattle.made_worlds.proofs.Bank.{IsEnd}
use Rattle.made_worlds.proofs.Callers.{Idler, after_call, busy, first_attempt, idle, reference}
use Rattle.made_worlds.proofs.Calls.{LeadsAt, asks, call_goes, reply_from, reply_heard, request_comes, with_call, with_reply}
use Rattle.made_worlds.proofs.Happened.{IsLed, Laws, Serves, deposited}
use Rattle.made_worlds.proofs.Replies.{MOST}
use Rattle.made_worlds.proofs.Turns.{view_1}
use Rattle.made_worlds.proofs.Worlds.{Does, Fits, Leads, MANY, State, bank_at, counted_few, first_leads, none_lead, sent_at, sent_before, world}

-- ---- the clients of the opening

abbrev pub four : (ℕ → Idler) → List Client
four k = idle (client 0) view_1 (k 0) ∷ idle (client 1) view_1 (k 1) ∷ idle (client 2) view_1 (k 2) ∷ idle (client 3) view_1 (k 3) ∷ []

abbrev pub changed : (ℕ → Idler) → ℕ → Idler → ℕ → Idler
changed k i c j = if nat_eq j i then c else k j

-- what holds of the four holds of each
each_of_four : (P : ℕ → Type 0) → P 0 → P 1 → P 2 → P 3 → (i : ℕ) → i < 4 → P i
each_of_four P a b c d zero lt = a
each_of_four P a b c d (suc zero) lt = b
each_of_four P a b c d (suc (suc zero)) lt = c
each_of_four P a b c d (suc (suc (suc zero))) lt = d
each_of_four P a b c d (suc (suc (suc (suc i)))) lt = absurd (omega (arith, lt))

found_four : (s : State) (k : ℕ → Idler) (i : ℕ) → i < 4 → client_named (world (record s { clients = four k })) (client i) ≡ Some (placed i (idle (client i) view_1 (k i)))
unfolding digits
found_four s k =
    each_of_four (λ (i : ℕ). client_named (world (record s { clients = four k })) (client i) ≡ Some (placed i (idle (client i) view_1 (k i)))) refl refl refl refl

set_there : (k : ℕ → Idler) (b : Client) (i : ℕ) → i < 4 → slice_get (slice_set (four k) i b) i ≡ Some b
set_there k b = each_of_four (λ (i : ℕ). slice_get (slice_set (four k) i b) i ≡ Some b) refl refl refl refl

set_back : (k : ℕ → Idler) (b : Client) (c : Idler) (i : ℕ) → i < 4 → slice_set (slice_set (four k) i b) i (idle (client i) view_1 c) ≡ four (changed k i c)
set_back k b c = each_of_four (λ (i : ℕ). slice_set (slice_set (four k) i b) i (idle (client i) view_1 c) ≡ four (changed k i c)) refl refl refl refl

-- the request of a deposit is short
deposit_short : (s : State) (c : Idler) (amount i : ℕ) → i < 4 → request_size (first_attempt view_1 c (asks s (client i) c (codes "deposit") (amount_args amount))) ≤ MOST
unfolding request_size digits
deposit_short s c amount =
    each_of_four (λ (i : ℕ). request_size (first_attempt view_1 c (asks s (client i) c (codes "deposit") (amount_args amount))) ≤ MOST)
    (lit≤ tt) (lit≤ tt) (lit≤ tt) (lit≤ tt)

-- its first attempt goes to the first primary
leads_first : LeadsAt view_1 0
unfolding all_ports
leads_first = record { some = refl; port = λ c q. refl }

-- ---- between lines

abbrev pub three : ℕ → List HostState
three clock = let h : HostState = record { up = true; clock = clock } in h ∷ h ∷ h ∷ []

-- So many messages were sent, all hosts are up, and the first primary leads the group.
pub record Stands (sent : ℕ) (s : State) : Type 0 where
  pub messages : length s.messages ≡ sent
  pub bytes : s.bytes ≤ MOST * sent
  pub subscribers : s.subscribers ≡ nobody_listens
  pub hosts : s.hosts ≡ three s.clock
  pub serves : Serves (IsLed sent) s.past

pub fits : (sent : ℕ) (s : State) → Stands sent s → Fits sent s
fits sent s is = record {
  messages = is.messages;
  entries = is.serves.is.group.few;
  bytes = is.bytes;
  faults = subst (λ (x : Subscribers). x.faults ≤ 1) (sym is.subscribers) (lit≤ tt);
}

pub more_led : (n m : ℕ) (past : List Happening) → n ≤ m → Serves (IsLed n) past → Serves (IsLed m) past
more_led n m past le s = record {
  unfailing = s.unfailing;
  is = record {
    group = record { style = s.is.group.style; views_are = s.is.group.views_are; opening = s.is.group.opening; few = omega (arith, le, s.is.group.few) };
    primary = s.is.primary;
    second = s.is.second;
  };
}

-- After so many rounds no client has sent more attempts, and each is idle.
pub record Runs (sent rounds : ℕ) (s : State) : Type 0 where
  pub stands : Stands sent s
  pub k : ℕ → Idler
  pub clients : s.clients ≡ four k
  pub early : (i : ℕ) → (k i).last ≤ rounds

-- ---- a round's call

abbrev deposit_of : State → ℕ → Idler → ℕ → Request
deposit_of s i c amount = asks s (client i) c (codes "deposit") (amount_args amount)

abbrev waiting : State → ℕ → Idler → ℕ → Client
waiting s i c amount = busy (client i) view_1 c (record { 0 = s.clock + DEFAULT_LIFE }) (deposit_of s i c amount)

abbrev called_by : State → ℕ → Idler → ℕ → State
called_by s i c amount = with_call s i 0 (waiting s i c amount) (first_attempt view_1 c (deposit_of s i c amount))

newest_first : (s : State) → (common_of (bank_at s)).views ≡ view_1 ∷ [] → newest_reference (bank_at s) ≡ reference view_1
newest_first s views = λ i. reference_in (bank_at s) (view_at (views i) (length (views i)))

calls : (sent rounds : ℕ) (s : State) (r : Runs sent rounds s) (i amount : ℕ) → i < 4 → amount < 1000 → rounds < LAST_ID →
    Does s (lines.Call (client i) bank (codes "deposit") (decimal amount ∷ [])) (called_by s i (r.k i) amount)
calls sent rounds s r i amount lt small few =
    call_goes s view_1 0 i (client i) (r.k i) (codes "deposit") (decimal amount ∷ []) (amount_args amount)
    (newest_first s r.stands.serves.is.group.views_are) leads_first
    (ap (λ (cs : List Client). client_named (world (record s { clients = cs })) (client i)) r.clients ∙ found_four s r.k i lt)
    (deposit_said s.past amount small) (omega (arith, r.early i, few))

one_more : (ms : List Message) (m : Message) (n : ℕ) → length ms ≡ n → length (ms ++ m ∷ []) ≡ n + 1
one_more ms m n is = omega (arith, is, length-append ms (m ∷ []))

called_stands : (sent : ℕ) (s : State) (c : Idler) (i amount : ℕ) → i < 4 → Stands sent s → Stands (sent + 1) (called_by s i c amount)
called_stands sent s c i amount lt is = record {
  messages = one_more s.messages _ sent is.messages;
  bytes = counted_few s.bytes sent (request_size (first_attempt view_1 c (deposit_of s i c amount))) is.bytes (deposit_short s c amount i lt);
  subscribers = is.subscribers;
  hosts = is.hosts;
  serves = more_led sent (sent + 1) s.past (omega arith) is.serves;
}

-- ---- its request

-- it comes to the primary, whose reply is the last message then
pub record Came (sent i : ℕ) (c : Idler) (s : State) (line : Line) : Type 0 where
  pub next : State
  pub does : Does s line next
  pub stands : Stands (sent + 1) next
  pub clients : next.clients ≡ s.clients
  pub said : Answer
  pub ends : IsEnd said
  pub messages : next.messages ≡ s.messages ++ messages.Reply (reply_from i 0 (c.last + 1) said) ∷ []

gives_number : (s before : State) (c : Idler) (i amount : ℕ) → gives_asked (bank_at s) (asked_by (first_attempt view_1 c (deposit_of before i c amount))) ≡ Some I64
unfolding words.machine_of account
gives_number s before c i amount = refl

comes : Laws → (sent : ℕ) (s before : State) (c : Idler) (i amount at : ℕ) (b : Client) → Stands sent s →
    slice_get s.messages at ≡ Some (messages.Request i (host_no 0) (first_attempt view_1 c (deposit_of before i c amount))) →
    slice_get s.clients i ≡ Some b → Came sent i c s (lines.Deliver (at + 1) Never)
comes laws sent s before c i amount at b is there has =
    let q = deposit_of before i c amount in
    let clock : Tick = record { 0 = host_clock (world s) 0 } in
    let d = deposited laws sent s.past clock q.key amount is.serves in
    let t = request_comes s i 0 b view_1 c q at there has (gives_number s before c i amount) d.answer in
    record {
      next = with_reply s (request_at (world s) (host_no 0) (asked_by (first_attempt view_1 c q)) Never) (reply_from i 0 (c.last + 1) t.said) t.bytes;
      does = t.does;
      stands = record {
        messages = one_more s.messages _ sent is.messages;
        bytes = omega (arith, t.short, is.bytes);
        subscribers = is.subscribers;
        hosts = is.hosts;
        serves = d.serves;
      };
      clients = refl;
      said = t.said;
      ends = t.ends;
      messages = refl;
    }

-- ---- its reply

changed_early : (k : ℕ → Idler) (i rounds : ℕ) → ((j : ℕ) → (k j).last ≤ rounds) → (j : ℕ) → (changed k i (after_call (k i)) j).last ≤ rounds + 1
changed_early k i rounds early j = go (nat_eq j i)
  where
    go : (t : Bool) → (if t then after_call (k i) else k j).last ≤ rounds + 1
    go true = omega (arith, early i)
    go false = omega (arith, early j)

-- it comes to its client, which is idle then
pub record Heard (sent rounds : ℕ) (s : State) (line : Line) : Type 0 where
  pub next : State
  pub runs : Runs sent (rounds + 1) next
  pub does : Does s line next

heard : (sent rounds : ℕ) (s before : State) (k : ℕ → Idler) (i amount at : ℕ) (said : Answer) → i < 4 → Stands sent s → ((j : ℕ) → (k j).last ≤ rounds) →
    s.clients ≡ slice_set (four k) i (waiting before i (k i) amount) →
    slice_get s.messages at ≡ Some (messages.Reply (reply_from i 0 ((k i).last + 1) said)) → IsEnd said → Heard sent rounds s (lines.Deliver (at + 1) Never)
heard sent rounds s before k i amount at said lt is early clients there ends =
    let c = k i in
    let has : slice_get s.clients i ≡ Some (waiting before i c amount) = ap (λ (cs : List Client). slice_get cs i) clients ∙ set_there k (waiting before i c amount) i lt in
    record {
      next = record s { clients = slice_set s.clients i (idle (client i) view_1 (after_call c)) };
      runs = record {
        stands = record { messages = is.messages; bytes = is.bytes; subscribers = is.subscribers; hosts = is.hosts; serves = is.serves };
        k = changed k i (after_call c);
        clients = ap (λ (cs : List Client). slice_set cs i (idle (client i) view_1 (after_call c))) clients ∙ set_back k (waiting before i c amount) (after_call c) i lt;
        early = changed_early k i rounds early;
      };
      does = reply_heard s i 0 (client i) view_1 c (record { 0 = before.clock + DEFAULT_LIFE }) (deposit_of before i c amount) said at there has ends;
    }

-- ---- the whole call

-- lines that lead to a world after so many messages and rounds
pub record LeadsOn (sent rounds : ℕ) (s : State) (ls : List Line) : Type 0 where
  pub next : State
  pub runs : Runs sent rounds next
  pub leads : Leads s ls next

pub call_leads : Laws → (round x sent : ℕ) (s : State) → Runs sent round s → round < 50000 → sent + 3 ≤ MANY →
    LeadsOn (sent + sent_by_call x) (round + 1) s (call_made round x sent)
unfolding call_made
call_leads laws round x sent s r early few = go (x % 5 == 0)
  where
    i : ℕ
    i = round % 4

    lt : i < 4
    lt = mod-lt round (lit< tt)

    amount : ℕ
    amount = x % 1000

    small : amount < 1000
    small = mod-lt x (lit< tt)

    c : Idler
    c = r.k i

    b : Client
    b = waiting s i c amount

    s1 : State
    s1 = called_by s i c amount

    stands1 : Stands (sent + 1) s1
    stands1 = called_stands sent s c i amount lt r.stands

    asked : slice_get s1.messages sent ≡ Some (messages.Request i (host_no 0) (first_attempt view_1 c (deposit_of s i c amount)))
    asked = sent_at s.messages [] _ sent r.stands.messages

    has : slice_get s1.clients i ≡ Some b
    has = ap (λ (cs : List Client). slice_get (slice_set cs i b) i) r.clients ∙ set_there r.k b i lt

    came : Came (sent + 1) i c s1 (lines.Deliver (sent + 1) Never)
    came = comes laws (sent + 1) s1 s c i amount sent b stands1 asked has

    two : sent + 1 + 1 ≡ sent + 2
    two = omega arith

    three_sent : sent + 1 + 1 + 1 ≡ sent + 3
    three_sent = omega arith

    its_reply : Message
    its_reply = messages.Reply (reply_from i 0 (c.last + 1) came.said)

    waits : came.next.clients ≡ slice_set (four r.k) i b
    waits = came.clients ∙ ap (λ (cs : List Client). slice_set cs i b) r.clients

    replied : slice_get came.next.messages (sent + 1) ≡ Some its_reply
    replied = ap (λ (ms : List Message). slice_get ms (sent + 1)) came.messages ∙ sent_at s1.messages [] its_reply (sent + 1) stands1.messages

    -- where it comes twice
    once_more : Came (sent + 1 + 1) i c came.next (lines.Deliver (sent + 1) Never)
    once_more = comes laws (sent + 1 + 1) came.next s c i amount sent b came.stands
        (ap (λ (ms : List Message). slice_get ms sent) came.messages ∙ sent_before s1.messages (its_reply ∷ []) sent _ asked)
        (ap (λ (cs : List Client). slice_get cs i) came.clients ∙ has)

    waits_more : once_more.next.clients ≡ slice_set (four r.k) i b
    waits_more = once_more.clients ∙ waits

    replied_more : slice_get once_more.next.messages (sent + 1) ≡ Some its_reply
    replied_more = ap (λ (ms : List Message). slice_get ms (sent + 1)) once_more.messages ∙ sent_before came.next.messages _ (sent + 1) its_reply replied

    ends_by : (n : ℕ) (t : State) → Stands n t → t.clients ≡ slice_set (four r.k) i b → slice_get t.messages (sent + 1) ≡ Some its_reply →
        Heard n round t (lines.Deliver (sent + 1 + 1) Never)
    ends_by n t stands waits there = heard n round t s r.k i amount (sent + 1) came.said lt stands r.early waits there came.ends

    ends_at : (n : ℕ) (t : State) (stands : Stands n t) (waits : t.clients ≡ slice_set (four r.k) i b) (there : slice_get t.messages (sent + 1) ≡ Some its_reply) → n ≤ MANY →
        Leads t (arrival (sent + 2) ∷ []) (ends_by n t stands waits there).next
    ends_at n t stands waits there few =
        let h = ends_by n t stands waits there in
        first_leads t (arrival (sent + 2)) [] h.next h.next n (subst (λ (k : ℕ). Does t (lines.Deliver k Never) h.next) two h.does) few (fits n h.next h.runs.stands) (none_lead h.next)

    begins : (ls : List Line) (end : State) → Leads came.next ls end → Leads s (deposit_made round x ∷ arrival (sent + 1) ∷ ls) end
    begins ls end rest =
        first_leads s (deposit_made round x) (arrival (sent + 1) ∷ ls) s1 end (sent + 1) (calls sent round s r i amount lt small (omega (arith, early))) (omega (arith, few)) (fits (sent + 1) s1 stands1)
        (first_leads s1 (arrival (sent + 1)) ls came.next end (sent + 1 + 1) came.does (omega (arith, few)) (fits (sent + 1 + 1) came.next came.stands) rest)

    go : (again : Bool) → LeadsOn (sent + (if again then 3 else 2)) (round + 1) s
        (deposit_made round x ∷ arrival (sent + 1) ∷ ((if again then arrival (sent + 1) ∷ [] else []) ++ arrival (sent + 2) ∷ []))
    go false =
        subst (λ (n : ℕ). LeadsOn n (round + 1) s (deposit_made round x ∷ arrival (sent + 1) ∷ arrival (sent + 2) ∷ [])) two
        (record {
          next = (ends_by (sent + 1 + 1) came.next came.stands waits replied).next;
          runs = (ends_by (sent + 1 + 1) came.next came.stands waits replied).runs;
          leads = begins (arrival (sent + 2) ∷ []) _ (ends_at (sent + 1 + 1) came.next came.stands waits replied (omega (arith, few)));
        })
    go true =
        subst (λ (n : ℕ). LeadsOn n (round + 1) s (deposit_made round x ∷ arrival (sent + 1) ∷ arrival (sent + 1) ∷ arrival (sent + 2) ∷ [])) three_sent
        (record {
          next = (ends_by (sent + 1 + 1 + 1) once_more.next once_more.stands waits_more replied_more).next;
          runs = (ends_by (sent + 1 + 1 + 1) once_more.next once_more.stands waits_more replied_more).runs;
          leads = begins (arrival (sent + 1) ∷ arrival (sent + 2) ∷ []) _
              (first_leads came.next (arrival (sent + 1)) (arrival (sent + 2) ∷ []) once_more.next _ (sent + 1 + 1 + 1) once_more.does (omega (arith, few)) (fits (sent + 1 + 1 + 1) once_more.next once_more.stands)
              (ends_at (sent + 1 + 1 + 1) once_more.next once_more.stands waits_more replied_more (omega (arith, few))));
        })
