-- The ending of a made script: its primary goes down and is reported, and a further client asks the next one.
use Rattle.std.proofs.Common.{◌≡◌, ℕ, ◌+◌, ◌*◌, ◌≤◌, arith, false, List, [], ◌∷◌, ◌++◌, append_assoc, append-nil, length, length-append, Some, refl, ap, sym, subst, ◌∙◌, codes, lit<, lit≤}
use Rattle.std.specs.Fmt.{digits}
use Rattle.std.specs.Prelude.{slice_get, slice_set}
use Rattle.fault_script.specs.declared.lines.Line.TheVariants as lines
use Rattle.fault_script.specs.declared.lines.MemberChange.TheVariants as change_words
use Rattle.ft_base.specs.Coding as words
use Rattle.ft_base.specs.declared.decisions.Stop.TheVariants.{Never}
use Rattle.ft_base.specs.declared.numbers.Tick.{Tick}
use Rattle.ft_base.specs.declared.requests.Par.TheVariants.{I64}
use Rattle.ft_base.specs.declared.requests.Request.{Request}
use Rattle.ft_world.specs.Delivering.{asked_by}
use Rattle.ft_world.specs.Requests.{gives_asked, request_at}
use Rattle.group_model.specs.Sending.{brought}
use Rattle.group_model.specs.Views.{host_no, version, view_at}
use Rattle.group_model.specs.declared.changes.Change.{Change}
use Rattle.group_model.specs.declared.changes.Change.TheVariants.{Report}
use Rattle.group_model.specs.declared.events.Event.{Event}
use Rattle.group_model.specs.declared.events.Event.TheVariants as events
use Rattle.group_model.specs.declared.events.GroupAnswer.{GroupAnswer}
use Rattle.group_model.specs.declared.events.Inner.TheVariants as inners
use Rattle.group_model.specs.declared.events.Out.{Out}
use Rattle.host_ports.specs.Ports.{all_ports}
use Rattle.made_lines.specs.Laws.{few_sent}
use Rattle.made_lines.specs.Made.{arrival, bank, ending_made, last_caller, rounds_made}
use Rattle.made_scripts.specs.Scripts.{sent_in}
use Rattle.message_sizes.specs.Sizes.{request_size}
use Rattle.property_manager.specs.Groups.{level_of}
use Rattle.property_manager.specs.Levels.{over}
use Rattle.property_manager.specs.Names.{built_in, text_of}
use Rattle.property_manager.specs.Styles.{membership_style}
use Rattle.script_clients.specs.declared.answers.Attempt.{Attempt}
use Rattle.ft_base.specs.declared.views.View.{View}
use Rattle.script_clients.specs.Clients.{Client, new_client}
use Rattle.script_groups.specs.Groups.{placed, turn}
use Rattle.script_groups.specs.References.{newest_reference, reference_in}
use Rattle.script_groups.specs.declared.happenings.Happening.{Happening}
use Rattle.script_subscribers.specs.Subscribers.{Subscribers, nobody_listens, told}
use Rattle.script_world.specs.World.{World, at_most_one_past, client_named, host_clock, with_event}
use Rattle.script_world.specs.declared.limits.TheConstants.{DEFAULT_LIFE}
use Rattle.script_world.specs.declared.messages.Message.{Message}
use Rattle.script_world.specs.declared.messages.Message.TheVariants as messages
use Rattle.servant_account.specs.Account.{account}
use Rattle.shipped_servants.specs.declared.kinds.Kind.TheVariants.{Account}
use Rattle.world_management.specs.Hosts.{change_to, changed, changes_members, down_host, fault_of, on_host, show_found}
use Rattle.world_management.specs.Membership.{report_of}
use Rattle.world_turns.specs.Naming.{Naming}
use Rattle.world_turns.specs.Turns.{costing, goes}
use Rattle.made_worlds.specs.Going.{AllGo, MadeLinesGo}
use Rattle.made_worlds.proofs.Amounts.{balance_said}
use Rattle.made_worlds.proofs.Callers.{Idler, after_call, bank_id, busy, first_attempt, idle, reference}
use Rattle.made_worlds.proofs.Calls.{LeadsAt, Replied, asks, call_goes, reply_from, reply_heard, request_comes, with_call, with_reply}
use Rattle.made_worlds.proofs.Happened.{IsLeft, Laws, Serves, asked_last, crashed, heard_second, heard_third, more, report, was_reported}
use Rattle.made_worlds.proofs.Replies.{MOST}
use Rattle.made_worlds.proofs.Rounds.{Runs, Stands, four, three}
use Rattle.made_worlds.proofs.Transfers.{arrives, rounds_lead}
use Rattle.made_worlds.proofs.Opening.{opened, opened_runs, opening_goes}
use Rattle.made_worlds.proofs.Turns.{view_1, view_2}
use Rattle.made_worlds.proofs.Worlds.{Does, Fits, Leads, MANY, first_leads, none_lead, State, bank_at, called, counted_most, sent_at, world}

-- the membership isn't the infrastructure's, so no spares come
report_is : (s : State) → report_of (world s) (bank_at s) (host_no 0) ≡ Report (host_no 0)
unfolding report_of membership_style over text_of level_of built_in
report_is s = refl

-- its first attempt goes to the next primary
leads_second : LeadsAt view_2 1
unfolding all_ports
leads_second = record { some = refl; port = λ c q. refl }

-- a world of which the rounds are over, as it is
abbrev ended : ℕ → List Happening → (ℕ → Idler) → List Message → ℕ → State
ended clock past k ms bytes = record {
  clock = clock;
  hosts = three clock;
  past = past;
  clients = four k;
  messages = ms;
  subscribers = nobody_listens;
  bytes = bytes;
}

module _ (laws : Laws) (sent clock : ℕ) (past : List Happening) (k : ℕ → Idler) (ms : List Message) (bytes : ℕ) (stands : Stands sent (ended clock past k ms bytes)) (few : sent + 5 ≤ MANY) where
  -- the primary goes down
  abbrev s1 : State
  s1 = record (ended clock past k ms bytes) { hosts = slice_set (three clock) 0 down_host; past = more past (events.Crash (host_no 0)) }

  crash_goes : Does (ended clock past k ms bytes) (lines.Crash 0) s1
  crash_goes = record { report = _; calls = _; is = refl }

  serves1 : Serves (IsLeft (view_1 ∷ []) sent 1) s1.past
  serves1 = crashed laws sent past stands.serves

  fits1 : Fits sent s1
  fits1 = record { messages = stands.messages; entries = serves1.is.group.few; bytes = stands.bytes; faults = lit≤ tt }

  -- it is reported
  abbrev view_out : ℕ → Out
  view_out host = record { to = host_no host; carried = inners.View (version 2) }

  abbrev view_sent : ℕ → Message
  view_sent host = messages.Carried bank_id (view_out host)

  abbrev s2 : State
  s2 = record s1 {
    past = more s1.past report;
    messages = ms ++ view_sent 0 ∷ view_sent 1 ∷ view_sent 2 ∷ [];
    bytes = at_most_one_past (bytes + 0);
    subscribers = told nobody_listens (fault_of Account bank_id (host_no 0));
  }

  report_goes : Does s1 (lines.Change change_words.Report bank 0) s2
  report_goes =
      let w = world s1 in
      let g = bank_at s1 in
      let t = was_reported laws sent s1.past serves1 in
      record {
        report = _;
        calls = _;
        is = ap (λ (n : Naming). change_to w n change_words.Report 0) (called s1)
            ∙ ap (λ (change : Change). on_host w 0 (changes_members w (placed 0 g) change (host_no 0))) (report_is s1)
            ∙ ap (λ (a : GroupAnswer). goes (costing (turn g report).calls (changed (with_event w 0 g report) (host_no 0) g (Report (host_no 0)) a))) t.answer;
      }

  serves2 : Serves (IsLeft (view_1 ∷ view_2 ∷ []) sent 1) s2.past
  serves2 = (was_reported laws sent s1.past serves1).serves

  three_more : length s2.messages ≡ sent + 3
  three_more = omega (arith, stands.messages, length-append ms (view_sent 0 ∷ view_sent 1 ∷ view_sent 2 ∷ []))

  within : (n : ℕ) (s : State) (views : List View) (known : ℕ) → length s.messages ≡ n → sent ≤ n → Serves (IsLeft views sent known) s.past → s.bytes ≤ MOST * n →
      s.subscribers ≡ s2.subscribers → Fits n s
  within n s views known number le serves light told = record {
    messages = number;
    entries = omega (arith, le, serves.is.group.few);
    bytes = light;
    faults = subst (λ (x : Subscribers). x.faults ≤ 1) (sym told) (lit≤ tt);
  }

  bytes2 : s2.bytes ≤ MOST * (sent + 3)
  bytes2 = omega (arith, stands.bytes, counted_most (bytes + 0))

  fits2 : Fits (sent + 3) s2
  fits2 = within (sent + 3) s2 (view_1 ∷ view_2 ∷ []) 1 three_more (omega arith) serves2 bytes2 refl

  -- the other two hear of it
  abbrev s3 : State
  s3 = record s2 { past = more s2.past (brought (view_out 1)) }

  abbrev s4 : State
  s4 = record s3 { past = more s3.past (brought (view_out 2)) }

  serves3 : Serves (IsLeft (view_1 ∷ view_2 ∷ []) sent 2) s3.past
  serves3 = heard_second laws sent s2.past serves2

  serves4 : Serves (IsLeft (view_1 ∷ view_2 ∷ []) sent 2) s4.past
  serves4 = heard_third laws sent s3.past serves3

  second_there : slice_get s2.messages (sent + 1) ≡ Some (view_sent 1)
  second_there =
      ap (λ (xs : List Message). slice_get xs (sent + 1)) (sym (append_assoc ms (view_sent 0 ∷ []) (view_sent 1 ∷ view_sent 2 ∷ [])))
      ∙ sent_at (ms ++ view_sent 0 ∷ []) (view_sent 2 ∷ []) (view_sent 1) (sent + 1) (omega (arith, stands.messages, length-append ms (view_sent 0 ∷ [])))

  third_there : slice_get s2.messages (sent + 2) ≡ Some (view_sent 2)
  third_there =
      ap (λ (xs : List Message). slice_get xs (sent + 2)) (sym (append_assoc ms (view_sent 0 ∷ view_sent 1 ∷ []) (view_sent 2 ∷ [])))
      ∙ sent_at (ms ++ view_sent 0 ∷ view_sent 1 ∷ []) [] (view_sent 2) (sent + 2) (omega (arith, stands.messages, length-append ms (view_sent 0 ∷ view_sent 1 ∷ [])))

  fits3 : Fits (sent + 3) s3
  fits3 = within (sent + 3) s3 (view_1 ∷ view_2 ∷ []) 2 three_more (omega arith) serves3 bytes2 refl

  fits4 : Fits (sent + 3) s4
  fits4 = within (sent + 3) s4 (view_1 ∷ view_2 ∷ []) 2 three_more (omega arith) serves4 bytes2 refl

  -- a further client
  abbrev last_idler : Idler
  last_idler = record { started = 0; numbered = 0; last = 0; met = false }

  abbrev s5 : State
  s5 = record s4 { clients = four k ++ new_client last_caller ∷ [] }

  client_comes : Does s4 (lines.Client last_caller) s5
  unfolding digits
  client_comes = record { report = _; calls = _; is = refl }

  fits5 : Fits (sent + 3) s5
  fits5 = within (sent + 3) s5 (view_1 ∷ view_2 ∷ []) 2 three_more (omega arith) serves4 bytes2 refl

  -- its call
  abbrev q : Request
  q = asks s5 last_caller last_idler (codes "balance") []

  abbrev expires : Tick
  expires = record { 0 = clock + DEFAULT_LIFE }

  abbrev waiting : Client
  waiting = busy last_caller view_2 last_idler expires q

  abbrev a : Attempt
  a = first_attempt view_2 last_idler q

  abbrev s6 : State
  s6 = with_call s5 4 1 waiting a

  newest_second : newest_reference (bank_at s5) ≡ reference view_2
  newest_second = let views = serves4.is.group.views_are in λ i. reference_in (bank_at s5) (view_at (views i) (length (views i)))

  last_there : client_named (world s5) last_caller ≡ Some (placed 4 (idle last_caller view_2 last_idler))
  unfolding digits
  last_there = refl

  last_calls : Does s5 (lines.Call last_caller bank (codes "balance") []) s6
  last_calls = call_goes s5 view_2 1 4 last_caller last_idler (codes "balance") [] [] newest_second leads_second last_there (balance_said s5.past) (lit< tt)

  four_more : length s6.messages ≡ sent + 4
  four_more = omega (arith, three_more, length-append s5.messages (messages.Request 4 (host_no 1) a ∷ []))

  short : request_size a ≤ MOST
  unfolding request_size
  short = lit≤ tt

  bytes6 : s6.bytes ≤ MOST * (sent + 4)
  bytes6 = omega (arith, bytes2, short, counted_most (s5.bytes + request_size a))

  fits6 : Fits (sent + 4) s6
  fits6 = within (sent + 4) s6 (view_1 ∷ view_2 ∷ []) 2 four_more (omega arith) serves4 bytes6 refl

  -- its request
  abbrev e : Event
  e = request_at (world s6) (host_no 1) (asked_by a) Never

  gives_number : gives_asked (bank_at s6) (asked_by a) ≡ Some I64
  unfolding words.machine_of account
  gives_number = refl

  asked_there : slice_get s6.messages (sent + 3) ≡ Some (messages.Request 4 (host_no 1) a)
  asked_there = sent_at s5.messages [] (messages.Request 4 (host_no 1) a) (sent + 3) three_more

  answered : Replied s6 (lines.Deliver (sent + 3 + 1) Never) e 4 1 1
  answered = request_comes s6 4 1 waiting view_2 last_idler q (sent + 3) asked_there refl gives_number
      (asked_last laws sent s6.past (record { 0 = host_clock (world s6) 1 }) q.key serves4).answer

  serves7 : Serves (IsLeft (view_1 ∷ view_2 ∷ []) (sent + 1) 2) (more s6.past e)
  serves7 = (asked_last laws sent s6.past (record { 0 = host_clock (world s6) 1 }) q.key serves4).serves

  abbrev s7 : State
  s7 = with_reply s6 e (reply_from 4 1 1 answered.said) answered.bytes

  five_more : length s7.messages ≡ sent + 5
  five_more = omega (arith, four_more, length-append s6.messages (messages.Reply (reply_from 4 1 1 answered.said) ∷ []))

  fits7 : Fits (sent + 5) s7
  fits7 = record { messages = five_more; entries = omega (arith, serves7.is.group.few); bytes = omega (arith, answered.short, bytes6); faults = lit≤ tt }

  -- its reply
  abbrev s8 : State
  s8 = record s7 { clients = slice_set s7.clients 4 (idle last_caller view_2 (after_call last_idler)) }

  replied_there : slice_get s7.messages (sent + 4) ≡ Some (messages.Reply (reply_from 4 1 1 answered.said))
  replied_there = sent_at s6.messages [] (messages.Reply (reply_from 4 1 1 answered.said)) (sent + 4) four_more

  hears_it : Does s7 (lines.Deliver (sent + 4 + 1) Never) s8
  hears_it = reply_heard s7 4 1 last_caller view_2 last_idler expires q answered.said (sent + 4) replied_there refl answered.ends

  fits8 : Fits (sent + 5) s8
  fits8 = record { messages = five_more; entries = fits7.entries; bytes = fits7.bytes; faults = fits7.faults }

  shows : Does s8 (lines.Show bank) s8
  shows = record { report = _; calls = _; is = ap (show_found (world s8)) (called s8) }

  -- ---- all of it

  next_number : (n : ℕ) → sent + n + 1 ≡ sent + (n + 1)
  next_number n = omega arith

  delivers : (s next : State) (n : ℕ) → Does s (lines.Deliver (sent + n + 1) Never) next → Does s (arrival (sent + (n + 1))) next
  delivers s next n does = subst (λ (number : ℕ). Does s (lines.Deliver number Never) next) (next_number n) does

  ending_leads : Leads (ended clock past k ms bytes) (ending_made sent) s8
  unfolding ending_made
  ending_leads =
      let l9 = lines.Show bank ∷ [] in
      let l8 = arrival (sent + 5) ∷ l9 in
      let l7 = arrival (sent + 4) ∷ l8 in
      let l6 = lines.Call last_caller bank (codes "balance") [] ∷ l7 in
      let l5 = lines.Client last_caller ∷ l6 in
      let l4 = arrival (sent + 3) ∷ l5 in
      let l3 = arrival (sent + 2) ∷ l4 in
      let l2 = lines.Change change_words.Report bank 0 ∷ l3 in
      first_leads (ended clock past k ms bytes) (lines.Crash 0) l2 s1 s8 sent crash_goes (omega (arith, few)) fits1
      (first_leads s1 (lines.Change change_words.Report bank 0) l3 s2 s8 (sent + 3) report_goes (omega (arith, few)) fits2
      (first_leads s2 (arrival (sent + 2)) l4 s3 s8 (sent + 3) (delivers s2 s3 1 (arrives s2 (view_out 1) (sent + 1) second_there)) (omega (arith, few)) fits3
      (first_leads s3 (arrival (sent + 3)) l5 s4 s8 (sent + 3) (delivers s3 s4 2 (arrives s3 (view_out 2) (sent + 2) third_there)) (omega (arith, few)) fits4
      (first_leads s4 (lines.Client last_caller) l6 s5 s8 (sent + 3) client_comes (omega (arith, few)) fits5
      (first_leads s5 (lines.Call last_caller bank (codes "balance") []) l7 s6 s8 (sent + 4) last_calls (omega (arith, few)) fits6
      (first_leads s6 (arrival (sent + 4)) l8 s7 s8 (sent + 5) (delivers s6 s7 3 answered.does) few fits7
      (first_leads s7 (arrival (sent + 5)) l9 s8 s8 (sent + 5) (delivers s7 s8 4 hears_it) few fits8
      (first_leads s8 (lines.Show bank) [] s8 s8 (sent + 5) shows few fits8 (none_lead s8)))))))))

-- ---- the whole script

none_go : (w : World) → AllGo w []
unfolding AllGo
none_go w = tt

-- behind any number of rounds
ending_goes : Laws → (sent rounds : ℕ) (s : State) → Runs sent rounds s → sent + 5 ≤ MANY → AllGo (world s) (ending_made sent)
ending_goes laws sent rounds s r few =
    let as_is : s ≡ ended s.clock s.past r.k s.messages s.bytes =
    λ i. record s { hosts = r.stands.hosts i; clients = r.clients i; subscribers = r.stands.subscribers i } in
    let all = ending_leads laws sent s.clock s.past r.k s.messages s.bytes (subst (Stands sent) as_is r.stands) few [] (none_go _) in
    subst (λ (t : State). AllGo (world t) (ending_made sent)) (sym as_is) (subst (AllGo (world (ended s.clock s.past r.k s.messages s.bytes))) (append-nil (ending_made sent)) all)

pub made_go : Laws → MadeLinesGo
made_go laws number few =
    let sent = sent_in number number in
    let rounds = rounds_lead laws number opened opened_runs number few in
    let bound : sent + 5 ≤ MANY = omega (arith, few, few_sent number number) in
    opening_goes (rounds_made number number ++ ending_made sent) (rounds.leads (ending_made sent) (ending_goes laws sent number rounds.next rounds.runs bound))
