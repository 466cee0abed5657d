-- What every line leaves of a world: each group, to which more may have happened, and the servant calls of that;
-- the clock goes on by less than 2^32, and each client begins one invocation at most.
use Rattle.std.proofs.Common.{◌≡◌, ℕ, suc, ◌+◌, ◌<◌, ◌≤◌, ◌^◌, arith, Bool, true, false, List, [], ◌∷◌, ◌++◌, length, Option, Some, None, Result, Ok, Err, refl, ap, subst, ◌∙◌}
use Rattle.std.proofs.lemmas.List.{length_push}
use Rattle.std.specs.Prelude.{◌-◌, if◌then◌else◌, slice_get, IfSome}
use Rattle.std.specs.List.{AllByRecursion}
use Rattle.ft_base.specs.declared.decisions.Stop.{Stop}
use Rattle.ft_base.specs.declared.numbers.GroupId.{GroupId}
use Rattle.ft_base.specs.declared.numbers.HostNo.{HostNo}
use Rattle.ft_base.specs.declared.views.Style.{Style}
use Rattle.client_retry.specs.Invocations.{Silence}
use Rattle.fault_notifier.specs.declared.events.FaultEvent.{FaultEvent}
use Rattle.fault_script.specs.Arguments.{call_words_of}
use Rattle.fault_script.specs.declared.arguments.CallWords.{CallWords}
use Rattle.fault_script.specs.declared.lines.KindWord.{KindWord}
use Rattle.fault_script.specs.declared.lines.Level.{Level}
use Rattle.fault_script.specs.declared.lines.Level.TheVariants as levels
use Rattle.fault_script.specs.declared.lines.Line.{Line}
use Rattle.fault_script.specs.declared.lines.Line.TheVariants as lines
use Rattle.fault_script.specs.declared.lines.LineFault.{LineFault}
use Rattle.fault_script.specs.declared.lines.MemberChange.{MemberChange}
use Rattle.ft_report.specs.declared.reports.ReportLine.{ReportLine}
use Rattle.ft_report.specs.declared.reports.ReportLine.TheVariants as reports
use Rattle.generic_factory.specs.Creating.{refusal}
use Rattle.generic_factory.specs.declared.faults.CreateFault.{CreateFault}
use Rattle.group_model.specs.declared.changes.Change.{Change}
use Rattle.group_model.specs.declared.changes.Change.TheVariants as changes
use Rattle.group_model.specs.declared.events.Event.{Event}
use Rattle.group_model.specs.declared.events.Event.TheVariants as events
use Rattle.group_model.specs.declared.events.GroupAnswer.{GroupAnswer}
use Rattle.group_model.specs.declared.events.GroupAnswer.TheVariants as answers
use Rattle.group_model.specs.Sending.{sent_by}
use Rattle.group_model.specs.Views.{host_no}
use Rattle.property_manager.specs.declared.effective.Levels.{Levels}
use Rattle.property_manager.specs.declared.faults.PropertyFault.{PropertyFault}
use Rattle.property_manager.specs.declared.settings.Property.{Property}
use Rattle.property_manager.specs.Groups.{Settings, group_of}
use Rattle.script_clients.specs.declared.answers.Call.{Call}
use Rattle.script_clients.specs.Clients.{Client, Turn as Turned, binding, new_client, taking}
use Rattle.script_groups.specs.Acting.{IsKept}
use Rattle.script_groups.specs.Groups.{ScriptGroup, Placed, acted, group_named, opened, servant_calls, signature_of, turn}
use Rattle.shipped_servants.specs.declared.kinds.Kind.{Kind}
use Rattle.script_world.specs.declared.hosts.HostState.{HostState}
use Rattle.script_world.specs.declared.messages.Message.{Message}
use Rattle.script_world.specs.Sound.{HasActed, IsKeptWorld}
use Rattle.script_world.specs.World.{World, client_named, is_up, message_numbered, passed, with_client, with_event, with_failing, with_fault, with_hosts, with_messages, with_one_client, with_settings, with_subscribers, without_group}
use Rattle.script_world.specs.Worlds.{begin}
use Rattle.script_world.specs.declared.worlds.Begun.{Begun}
use Rattle.ft_world.proofs.ComingLemmas.{arrives_keeps, does_keeps, link_keeps, news_keep}
use Rattle.ft_world.proofs.KeepingLemmas.{Keeps, Makes, MaySend, alike, as_many, behind, client_hears, client_made, client_tells, client_within, clients_change, elsewhere, group_acts, group_sends, host_starts, host_stops, if_keeps, log_fails, none_more, one_made, same, sends_only, sends_then}
use Rattle.ft_world.proofs.MadeLemmas.{AllMade, AreMade, GoesBy, IsNumber, IsOfOne, Names, binding_so, more_clients, more_groups, or_other, order_with_next, starting_so, starting_told, taken_so, taking_so}
use Rattle.ft_world.proofs.TruthLemmas.{AllTrue, IsTrue, KnownGroups, later_true, opened_knows, stopped_know}
use Rattle.ft_world.proofs.PlaceLemmas.{IsOneNamed, IsOneOf, called_one, found_one, message_one}
use Rattle.script_groups.specs.Lists.{all_get, all_push, all_set}
use Rattle.ft_world.specs.Acts.{act_first}
use Rattle.ft_world.specs.Clients.{begun, call_by, call_from, call_said, call_to, gone_for, gone_said, started, started_by}
use Rattle.ft_world.specs.Delivering.{arrives, delivered}
use Rattle.world_management.specs.Creating.{create_causes, create_line, created, created_unless, creation, delete_found, grow_to, in_full, style_in}
use Rattle.world_management.specs.Hosts.{change_of, change_to, changed, changes_members, crash_line, fault_of, host_causes, on_host, restart_line, show_found, started_again, stopped, with_reported}
use Rattle.world_management.specs.Membership.{first_members, fit, report_of}
use Rattle.ft_world.specs.Laws.{AllLater, HasMore, calls_of_groups}
use Rattle.script_groups.specs.Laws.{CallsGoOn}
use Rattle.ft_world.specs.Leading.{KnowsViews}
use Rattle.ft_world.specs.Lines.{IsTimely}
use Rattle.ft_world.specs.Links.{inject_line, link_of}
use Rattle.world_management.specs.Making.{client_causes, client_line, group_causes, group_line, hosts_causes, hosts_line, kind_of, made_group, new_group, next_id, stopped_from, stopped_if, style_criteria}
use Rattle.world_management.specs.Properties.{get_group_found, set_group_found, set_in, set_line, set_unless, unset_line}
use Rattle.ft_world.specs.Retrying.{bind_from, bind_to, bound_by, timed_out, timeout_from}
use Rattle.world_management.specs.Reading.{member_of, reads}
use Rattle.script_groups.specs.References.{newest_reference}
use Rattle.script_groups.specs.Reading.{identified, located, member_referred, referred}
use Rattle.script_subscribers.specs.declared.answers.Pulled.{Pulled}
use Rattle.script_subscribers.specs.declared.answers.Pulled.TheVariants as pulls
use Rattle.script_subscribers.specs.Calls.{pulled_of}
use Rattle.script_subscribers.specs.Subscribers.{Bad, Good, Judged, Listener, filter_in, full, pulled, subscribed, subscriber_named, unsubscribed}
use Rattle.world_monitors.specs.Monitoring.{due, overdue}
use Rattle.world_monitors.specs.Polling.{asks, pings, poll_of, polled, watched_members}
use Rattle.world_monitors.specs.Subscribing.{pull_by, subscribe_line, subscriber_causes, subscribes, subscribes_by, unsubscribe_from}
use Rattle.world_monitors.specs.Staying.{reports_stay}
use Rattle.world_monitors.specs.Sweeping.{reported, reports_all, reports_one, sweep_of, sweeps, swept}
use Rattle.script_groups.specs.Takers.{checkpoint_taker, update_taker}
use Rattle.world_transfers.specs.Transfers.{checkpoint_by, checkpoint_event, checkpoint_of, checkpointed, logfail_of, update_by, update_of, updated}
use Rattle.world_turns.specs.Sending.{all_sent}
use Rattle.world_turns.specs.Naming.{Naming, NeverMade, Deleted, There, gone, group_called}
use Rattle.world_turns.specs.Turns.{Effect, Turn, Goes, Refused, first_cause, goes, says, unless}
use Rattle.ft_world.proofs.LaterLemmas.{KnownCalls, Few, more_few, all_stay, all_next, one_behind, one_behind_called}

-- T says of a line that its ticks are few.
module _ (T : Type 0) where
  -- a line lies between them
  pub record Follows (w new : World) (calls : ℕ) : Type 0 where
    pub groups : AllByRecursion IsKept w.groups → AllByRecursion IsKept new.groups
    pub later : AllLater HasMore w.groups new.groups
    pub called : KnownCalls → calls_of_groups new.groups ≡ calls_of_groups w.groups + calls
    pub acted : T → (lines : ℕ) → HasActed w lines → HasActed new (lines + 1)
    pub made : AllMade w → AllMade new
    pub told : KnownGroups → AllMade w → AllTrue w → AllTrue new

  begins_none : (w new : World) (calls : ℕ) → Keeps w new calls → Follows w new calls
  begins_none w new calls keeps = record {
    groups = keeps.groups;
    later = keeps.later;
    called = keeps.called;
    acted = λ t lines h. record {
      clock = omega (arith, keeps.clock, h.clock);
      started = more_few lines new.clients (keeps.few lines h.started);
    };
    made = keeps.made;
    told = keeps.told;
  }

  follows_then : (w v new : World) (calls : ℕ) → Follows w v 0 → Keeps v new calls → Follows w new calls
  follows_then w v new calls a b = record {
    groups = λ all. b.groups (a.groups all);
    later = all_next w.groups v.groups new.groups a.later b.later;
    called = λ known. let first = a.called known in let second = b.called known in omega (arith, first, second);
    acted = λ t lines h. let g = a.acted t lines h in record {
      clock = omega (arith, b.clock, g.clock);
      started = b.few (lines + 1) g.started;
    };
    made = λ m. b.made (a.made m);
    told = λ known m t. b.told known (a.made m) (a.told known m t);
  }

  client_starts : (w : World) (p : Placed Client) (d : Client) → IsOneOf w.clients (Some p) → ((lines : ℕ) → Few lines p.value → Few (lines + 1) d) →
      (AllMade w → GoesBy (length w.groups) p.value → GoesBy (length w.groups) d) → Follows w (with_client w p.place d) 0
  client_starts w p d is starts goes = record {
    groups = λ all. all;
    later = all_stay w.groups;
    called = λ known. omega arith;
    acted = λ t lines h. record {
      clock = omega (arith, h.clock);
      started = all_set (Few (lines + 1)) w.clients p.place d (more_few lines w.clients h.started) (starts lines (all_get (Few lines) w.clients p.place p.value h.started is));
    };
    made = client_made w p.place p.value d is goes;
    told = λ known m t. t;
  }

  -- ---- turns

  -- a line that is refused for itself has called no servant
  abbrev pub GoesOn : World → Turn → Type 0
  GoesOn w (Goes new report calls) = Follows w new calls
  GoesOn w (Refused why calls) = calls ≡ 0

  refused_or : (w : World) (o : Option LineFault) (t : Turn) → GoesOn w t → GoesOn w (unless o 0 t)
  refused_or w None t on = on
  refused_or w (Some why) t on = refl

  -- ---- what a client does

  one_more : (b : Bool) (n lines : ℕ) → n ≤ lines → (if b then n + 1 else n) ≤ lines + 1
  one_more true n lines le = omega (arith, le)
  one_more false n lines le = omega (arith, le)

  started_on : (w : World) (p : Placed Client) (g : ScriptGroup) (op : List ℕ) (said : CallWords) → IsOneOf w.clients (Some p) →
      (AllMade w → IsNumber (length w.groups) g.id) → Follows w (started w p g op said).world (started w p g op said).calls
  started_on w p g op said is number =
      let took = taking p.value g.id in
      let b : Begun = begun w p.value g op said took.reference in
      let t : Turned = begin took.client b in
      follows_then w (with_client w p.place t.client) (started_by w p t).world (started_by w p t).calls
      (client_starts w p t.client is (λ lines f. (omega (arith, f.0), one_more _ p.value.numbered lines f.1))
      (λ m by.
      starting_so (length w.groups) took.client b.reference b.expiration b.numbers b.versioned b.request (taking_so (length w.groups) p.value g.id by)
      (or_other (IsOfOne (length w.groups)) took.reference (newest_reference g) (taken_so (length w.groups) p.value g.id by) (number m))))
      (does_keeps (with_client w p.place t.client) p.place p.value.name None [] t.told (client_within w p.place p.value t.client is)
      (client_tells w p.place p.value t.client t.told is
      (λ n by. starting_told n took.client b.reference b.expiration b.numbers b.versioned b.request by)))

  called_on : (w : World) (p : Placed Client) (g : ScriptGroup) (op : List ℕ) (said : CallWords) (o : Option Call) → IsOneOf w.clients (Some p) →
      (AllMade w → IsNumber (length w.groups) g.id) → Follows w (call_by w p g op said o).world (call_by w p g op said o).calls
  called_on w p g op said None is number = started_on w p g op said is number
  called_on w p g op said (Some call) is number = begins_none w w 0 (same w)

  from_on : (w : World) (o : Option (Placed Client)) (g : ScriptGroup) (op : List ℕ) (said : CallWords) → IsOneOf w.clients o →
      (AllMade w → IsNumber (length w.groups) g.id) → GoesOn w (call_from w o g op said)
  from_on w None g op said is number = refl
  from_on w (Some p) g op said is number = called_on w p g op said p.value.call is number

  said_on : (w : World) (client : List ℕ) (g : ScriptGroup) (op : List ℕ) (said : Result CallWords LineFault) →
      (AllMade w → IsNumber (length w.groups) g.id) → GoesOn w (call_said w client g op said)
  said_on w client g op (Err why) number = refl
  said_on w client g op (Ok said) number = from_on w (client_named w client) g op said (found_one _ w.clients) number

  gone_for_on : (w : World) (o : Option (Placed Client)) → GoesOn w (gone_for w o)
  gone_for_on w None = refl
  gone_for_on w (Some p) = begins_none w w 0 (same w)

  gone_said_on : (w : World) (client : List ℕ) (said : Result CallWords LineFault) → GoesOn w (gone_said w client said)
  gone_said_on w client (Err why) = refl
  gone_said_on w client (Ok said) = gone_for_on w (client_named w client)

  call_on : (w : World) (client : List ℕ) (n : Naming) (op : List ℕ) (words : List (List ℕ)) → IsOneNamed w.groups n → GoesOn w (call_to w client n op words)
  call_on w client NeverMade op words is = refl
  call_on w client (Deleted p) op words is = gone_said_on w client (call_words_of (signature_of p.value op) words)
  call_on w client (There p) op words is = said_on w client p.value op (call_words_of (signature_of p.value op) words) (one_made w p is)

  -- ---- a client that is bound, and an attempt that gets no reply

  bound_keeps : (w : World) (p : Placed Client) (g : ScriptGroup) (o : Option Call) → IsOneOf w.clients (Some p) →
      (AllMade w → IsNumber (length w.groups) g.id) → Makes w (bound_by w p g o)
  bound_keeps w p g None is number =
      client_hears w p.place p.value (binding p.value (newest_reference g)) is (λ lines f. f)
      (λ m by. binding_so (length w.groups) p.value (newest_reference g) by (number m))
  bound_keeps w p g (Some call) is number = same w

  bind_to_on : (w : World) (p : Placed Client) (n : Naming) → IsOneOf w.clients (Some p) → IsOneNamed w.groups n → GoesOn w (bind_to w p n)
  bind_to_on w p NeverMade is one = refl
  bind_to_on w p (Deleted g) is one = begins_none w w 0 (same w)
  bind_to_on w p (There g) is one =
      let e : Effect = bound_by w p g.value p.value.call in begins_none w e.world e.calls (bound_keeps w p g.value p.value.call is (one_made w g one))

  bind_on : (w : World) (o : Option (Placed Client)) (n : Naming) → IsOneOf w.clients o → IsOneNamed w.groups n → GoesOn w (bind_from w o n)
  bind_on w None n is one = refl
  bind_on w (Some p) n is one = bind_to_on w p n is one

  timeout_on : (w : World) (o : Option (Placed Client)) → IsOneOf w.clients o → GoesOn w (timeout_from w o)
  timeout_on w None is = refl
  timeout_on w (Some p) is =
      let made : Effect = timed_out w p in
      begins_none w made.world made.calls (news_keep w p.place p.value (Silence (record { 0 = w.clock })) None (reports.Idle p.value.name ∷ []) is (λ m. tt))

  -- ---- a message that comes, and a link

  deliver_on : (w : World) (k : ℕ) (stop : Stop) (o : Option Message) → IfSome o (λ (m : Message). slice_get w.messages (k - 1) ≡ Some m) → GoesOn w (delivered w k stop o)
  deliver_on w k stop None at = refl
  deliver_on w k stop (Some m) at = begins_none w (arrives w k stop m).world (arrives w k stop m).calls (arrives_keeps w k stop m at)

  inject_on : (w : World) (host : ℕ) (bytes : List ℕ) → GoesOn w (inject_line w host bytes)
  inject_on w host bytes =
      let e : Effect = if is_up w host then link_of w host bytes else says w (reports.LinkLost ∷ []) in
      refused_or w (first_cause (host_causes w host)) (goes e)
      (begins_none w e.world e.calls (if_keeps w (is_up w host) (link_of w host bytes) (says w (reports.LinkLost ∷ [])) (link_keeps w host bytes) (same w)))

  -- ---- members and hosts

  -- who is told of a fault
  fault_keeps : (w : World) (event : FaultEvent) → Keeps w (with_fault w event) 0
  fault_keeps w event = elsewhere w (with_fault w event) refl refl refl refl

  reported_keeps : (w : World) (kind : Kind) (group : GroupId) (change : Change) → Keeps w (with_reported w kind group change) 0
  reported_keeps w kind group (changes.Report host) = fault_keeps w (fault_of kind group host)
  reported_keeps w kind group (changes.Remove host) = same w
  reported_keeps w kind group (changes.Add host) = same w
  reported_keeps w kind group (changes.Create host listed made) = same w
  reported_keeps w kind group (changes.Primary host) = same w
  reported_keeps w kind group (changes.Replace host spares) = fault_keeps w (fault_of kind group host)

  changed_keeps : (w v : World) (calls : ℕ) (host : HostNo) (g : ScriptGroup) (change : Change) (answer : GroupAnswer) → MaySend w v g.id (sent_by answer) → Keeps w v calls →
      Keeps w (changed v host g change answer).world (calls + (changed v host g change answer).calls)
  changed_keeps w v calls host g change (answers.Changed view out) may keeps =
      let sent : World = all_sent v g.id out in
      behind w sent (with_reported sent g.kind g.id change) calls 0 (group_sends w v g.id out calls may keeps) (reported_keeps sent g.kind g.id change)
  changed_keeps w v calls host g change (answers.Reply decision answer out) may keeps = none_more w v calls keeps
  changed_keeps w v calls host g change (answers.Known version) may keeps = none_more w v calls keeps
  changed_keeps w v calls host g change (answers.Applied position) may keeps = none_more w v calls keeps
  changed_keeps w v calls host g change (answers.Held position) may keeps = none_more w v calls keeps
  changed_keeps w v calls host g change (answers.Ignored why) may keeps = none_more w v calls keeps
  changed_keeps w v calls host g change (answers.Taken from position out) may keeps = none_more w v calls keeps
  changed_keeps w v calls host g change (answers.Refused why) may keeps = none_more w v calls keeps
  changed_keeps w v calls host g change answers.LogFault may keeps = none_more w v calls keeps
  changed_keeps w v calls host g change answers.Down may keeps = none_more w v calls keeps
  changed_keeps w v calls host g change answers.Up may keeps = none_more w v calls keeps
  changed_keeps w v calls host g change answers.NoMemory may keeps = none_more w v calls keeps

  changes_keep : (w : World) (p : Placed ScriptGroup) (change : Change) (host : HostNo) → IsOneOf w.groups (Some p) → Makes w (changes_members w p change host)
  changes_keep w p change host is =
      let e : Event = events.Manage change in
      changed_keeps w (with_event w p.place p.value e) (turn p.value e).calls host p.value change (turn p.value e).answer
      (sends_then w p e is (λ m t. tt)) (group_acts w p e is (λ m t. tt))

  -- a line about a host, where that is there
  on_host_on : (w : World) (host : ℕ) (e : Effect) → Makes w e → GoesOn w (on_host w host e)
  on_host_on w host e keeps = refused_or w (first_cause (host_causes w host)) (goes e) (begins_none w e.world e.calls keeps)

  change_on : (w : World) (n : Naming) (change : MemberChange) (host : ℕ) → IsOneNamed w.groups n → GoesOn w (change_to w n change host)
  change_on w NeverMade change host is = refl
  change_on w (Deleted p) change host is = on_host_on w host (gone w) (same w)
  change_on w (There p) change host is =
      on_host_on w host (changes_members w p (change_of w p.value change (host_no host)) (host_no host))
      (changes_keep w p (change_of w p.value change (host_no host)) (host_no host) is)

  grow_on : (w : World) (n : Naming) (host : ℕ) → IsOneNamed w.groups n → GoesOn w (grow_to w n host)
  grow_on w NeverMade host is = refl
  grow_on w (Deleted p) host is = on_host_on w host (gone w) (same w)
  grow_on w (There p) host is =
      on_host_on w host (changes_members w p (creation w p.value host) (host_no host)) (changes_keep w p (creation w p.value host) (host_no host) is)

  -- ---- states and updates

  checkpointed_keeps : (w v : World) (calls : ℕ) (host : HostNo) (g : ScriptGroup) (answer : GroupAnswer) → MaySend w v g.id (sent_by answer) → Keeps w v calls →
      Keeps w (checkpointed v host g answer).world (calls + (checkpointed v host g answer).calls)
  checkpointed_keeps w v calls host g (answers.Taken from position out) may keeps = none_more w (all_sent v g.id out) calls (group_sends w v g.id out calls may keeps)
  checkpointed_keeps w v calls host g (answers.Reply decision answer out) may keeps = none_more w v calls keeps
  checkpointed_keeps w v calls host g (answers.Known version) may keeps = none_more w v calls keeps
  checkpointed_keeps w v calls host g (answers.Applied position) may keeps = none_more w v calls keeps
  checkpointed_keeps w v calls host g (answers.Held position) may keeps = none_more w v calls keeps
  checkpointed_keeps w v calls host g (answers.Ignored why) may keeps = none_more w v calls keeps
  checkpointed_keeps w v calls host g (answers.Changed view out) may keeps = none_more w v calls keeps
  checkpointed_keeps w v calls host g (answers.Refused why) may keeps = none_more w v calls keeps
  checkpointed_keeps w v calls host g answers.LogFault may keeps = none_more w v calls keeps
  checkpointed_keeps w v calls host g answers.Down may keeps = none_more w v calls keeps
  checkpointed_keeps w v calls host g answers.Up may keeps = none_more w v calls keeps
  checkpointed_keeps w v calls host g answers.NoMemory may keeps = none_more w v calls keeps

  updated_keeps : (w v : World) (calls : ℕ) (host : HostNo) (g : ScriptGroup) (answer : GroupAnswer) → MaySend w v g.id (sent_by answer) → Keeps w v calls →
      Keeps w (updated v host g answer).world (calls + (updated v host g answer).calls)
  updated_keeps w v calls host g (answers.Taken from position out) may keeps = none_more w (all_sent v g.id out) calls (group_sends w v g.id out calls may keeps)
  updated_keeps w v calls host g (answers.Reply decision answer out) may keeps = none_more w v calls keeps
  updated_keeps w v calls host g (answers.Known version) may keeps = none_more w v calls keeps
  updated_keeps w v calls host g (answers.Applied position) may keeps = none_more w v calls keeps
  updated_keeps w v calls host g (answers.Held position) may keeps = none_more w v calls keeps
  updated_keeps w v calls host g (answers.Ignored why) may keeps = none_more w v calls keeps
  updated_keeps w v calls host g (answers.Changed view out) may keeps = none_more w v calls keeps
  updated_keeps w v calls host g (answers.Refused why) may keeps = none_more w v calls keeps
  updated_keeps w v calls host g answers.LogFault may keeps = none_more w v calls keeps
  updated_keeps w v calls host g answers.Down may keeps = none_more w v calls keeps
  updated_keeps w v calls host g answers.Up may keeps = none_more w v calls keeps
  updated_keeps w v calls host g answers.NoMemory may keeps = none_more w v calls keeps

  checkpoint_keeps : (w : World) (p : Placed ScriptGroup) (o : Option HostNo) → IsOneOf w.groups (Some p) → Makes w (checkpoint_by w p o)
  checkpoint_keeps w p None is = same w
  checkpoint_keeps w p (Some host) is =
      let e : Event = checkpoint_event w host in
      checkpointed_keeps w (with_event w p.place p.value e) (turn p.value e).calls host (acted p.value e) (turn p.value e).answer
      (sends_then w p e is (λ m t. tt)) (group_acts w p e is (λ m t. tt))

  update_keeps : (w : World) (p : Placed ScriptGroup) (o : Option HostNo) → IsOneOf w.groups (Some p) → Makes w (update_by w p o)
  update_keeps w p None is = same w
  update_keeps w p (Some host) is =
      let e : Event = events.SendUpdate host in
      updated_keeps w (with_event w p.place p.value e) (turn p.value e).calls host (acted p.value e) (turn p.value e).answer
      (sends_then w p e is (λ m t. tt)) (group_acts w p e is (λ m t. tt))

  checkpoint_on : (w : World) (n : Naming) → IsOneNamed w.groups n → GoesOn w (checkpoint_of w n)
  checkpoint_on w NeverMade is = refl
  checkpoint_on w (Deleted p) is = begins_none w w 0 (same w)
  checkpoint_on w (There p) is =
      let e : Effect = checkpoint_by w p (checkpoint_taker p.value) in
      begins_none w e.world e.calls (checkpoint_keeps w p (checkpoint_taker p.value) is)

  update_on : (w : World) (n : Naming) → IsOneNamed w.groups n → GoesOn w (update_of w n)
  update_on w NeverMade is = refl
  update_on w (Deleted p) is = begins_none w w 0 (same w)
  update_on w (There p) is =
      let e : Effect = update_by w p (update_taker p.value) in
      begins_none w e.world e.calls (update_keeps w p (update_taker p.value) is)

  logfail_on : (w : World) (n : Naming) → IsOneNamed w.groups n → GoesOn w (logfail_of w n)
  logfail_on w NeverMade is = refl
  logfail_on w (Deleted p) is = begins_none w w 0 (same w)
  logfail_on w (There p) is = begins_none w (with_failing w p.place p.value) 0 (log_fails w p is)

  -- ---- the monitor, and those who subscribe

  pings_so : (n m : ℕ) (group : GroupId) (hosts : List ℕ) → IsNumber n group → AllByRecursion (Names n m) (pings group hosts)
  pings_so n m group [] is = tt
  pings_so n m group (host ∷ hosts) is = (is, pings_so n m group hosts is)

  pings_true : (gs : List ScriptGroup) (ms : List Message) (group : GroupId) (hosts : List ℕ) → AllByRecursion (IsTrue gs ms) (pings group hosts)
  pings_true gs ms group [] = tt
  pings_true gs ms group (host ∷ hosts) = ((tt, tt), pings_true gs ms group hosts)

  asks_keep : (w : World) (g : ScriptGroup) (hosts : List ℕ) → (AllMade w → IsNumber (length w.groups) g.id) → Makes w (asks w g hosts)
  asks_keep w g [] number = same w
  asks_keep w g (host ∷ hosts) number =
      let ms : List Message = pings g.id (host ∷ hosts) in
      alike w (with_messages w ms) (asks w g (host ∷ hosts)).world 0 refl refl refl refl
      (sends_only w ms (record {
        names = λ m. pings_so (length w.groups) (length w.clients) g.id (host ∷ hosts) (number m);
        told = λ known m t. pings_true w.groups w.messages g.id (host ∷ hosts);
      }))

  poll_on : (w : World) (n : Naming) → IsOneNamed w.groups n → GoesOn w (poll_of w n)
  poll_on w NeverMade is = refl
  poll_on w (Deleted p) is = begins_none w w 0 (same w)
  poll_on w (There p) is =
      let v : World = watched_members w p.value in
      let e : Effect = polled w p.value in
      begins_none w e.world e.calls
      (as_many w e.world (0 + e.calls) e.calls (omega arith)
      (behind w v e.world 0 e.calls (elsewhere w v refl refl refl refl) (asks_keep v p.value (due v p.value) (one_made w p is))))

  reports_keep : (w : World) (p : Placed ScriptGroup) (hosts : List ℕ) → IsOneOf w.groups (Some p) → Makes w (reports_all w p hosts)
  unfolding reports_all
  reports_keep w p [] is = same w
  reports_keep w p (host ∷ hosts) is =
      let e : Effect = reports_one w p host in
      let f : Effect = reports_all e.world (reported w p host) hosts in
      behind w e.world f.world e.calls f.calls (changes_keep w p (report_of w p.value (host_no host)) (host_no host) is)
      (reports_keep e.world (reported w p host) hosts (reports_stay w p host is))

  sweeps_keep : (w : World) (p : Placed ScriptGroup) (hosts : List ℕ) → IsOneOf w.groups (Some p) → Makes w (sweeps w p hosts)
  sweeps_keep w p [] is = same w
  sweeps_keep w p (host ∷ hosts) is = reports_keep w p (host ∷ hosts) is

  sweep_on : (w : World) (n : Naming) → IsOneNamed w.groups n → GoesOn w (sweep_of w n)
  sweep_on w NeverMade is = refl
  sweep_on w (Deleted p) is = begins_none w w 0 (same w)
  sweep_on w (There p) is = begins_none w (swept w p).world (swept w p).calls (sweeps_keep w p (overdue w p.value) is)

  subscribed_keeps : (w : World) (name : List ℕ) (j : Judged) (room : Option ℕ) → Makes w (subscribes_by w name j room)
  subscribed_keeps w name (Bad place) room = same w
  subscribed_keeps w name (Good f) (Some count) = same w
  subscribed_keeps w name (Good f) None = elsewhere w (with_subscribers w (subscribed w.subscribers name f)) refl refl refl refl

  subscribe_on : (w : World) (name filter : List ℕ) → GoesOn w (subscribe_line w name filter)
  subscribe_on w name filter =
      let e : Effect = subscribes w name filter in
      refused_or w (first_cause (subscriber_causes w name)) (goes e)
      (begins_none w e.world e.calls (subscribed_keeps w name (filter_in filter) (full w.subscribers)))

  unsubscribe_on : (w : World) (name : List ℕ) (o : Option Listener) → GoesOn w (unsubscribe_from w name o)
  unsubscribe_on w name None = refl
  unsubscribe_on w name (Some l) =
      let new : World = with_subscribers w (unsubscribed w.subscribers name) in
      begins_none w new 0 (elsewhere w new refl refl refl refl)

  pull_on : (w : World) (name : List ℕ) (told : Pulled) → GoesOn w (pull_by w name told)
  pull_on w name pulls.Unknown = refl
  pull_on w name pulls.Nothing = begins_none w w 0 (same w)
  pull_on w name (pulls.Event event) =
      let new : World = with_subscribers w (pulled w.subscribers name) in
      begins_none w new 0 (elsewhere w new refl refl refl refl)

  -- one of two worlds
  either_keeps : (w : World) (b : Bool) (u v : World) → Keeps w u 0 → Keeps w v 0 → Keeps w (if b then u else v) 0
  either_keeps w true u v a b = a
  either_keeps w false u v a b = b

  crash_on : (w : World) (host : ℕ) → GoesOn w (crash_line w host)
  crash_on w host =
      let new : World = if is_up w host then stopped w (host_no host) else w in
      refused_or w (first_cause (host_causes w host)) (goes (says new (reports.Down (host_no host) ∷ [])))
      (begins_none w new 0 (either_keeps w (is_up w host) (stopped w (host_no host)) w (host_stops w (host_no host)) (same w)))

  restart_on : (w : World) (host : ℕ) → GoesOn w (restart_line w host)
  restart_on w host =
      let new : World = if is_up w host then w else started_again w (host_no host) in
      refused_or w (first_cause (host_causes w host)) (goes (says new (reports.Up (host_no host) ∷ [])))
      (begins_none w new 0 (either_keeps w (is_up w host) w (started_again w (host_no host)) (same w) (host_starts w (host_no host))))

  show_on : (w : World) (n : Naming) → GoesOn w (show_found w n)
  show_on w NeverMade = refl
  show_on w (Deleted p) = begins_none w w 0 (same w)
  show_on w (There p) = begins_none w w 0 (same w)

  reads_on : (w : World) (line : ScriptGroup → ReportLine) (n : Naming) → GoesOn w (reads w line n)
  reads_on w line NeverMade = refl
  reads_on w line (Deleted p) = begins_none w w 0 (same w)
  reads_on w line (There p) = begins_none w w 0 (same w)

  member_on : (w : World) (n : Naming) (host : ℕ) → GoesOn w (member_of w n host)
  member_on w NeverMade host = refl
  member_on w (Deleted p) host = on_host_on w host (gone w) (same w)
  member_on w (There p) host = on_host_on w host (says w (member_referred p.value (host_no host) ∷ [])) (same w)

  -- ---- what is made

  hosts_on : (w : World) (count : ℕ) → GoesOn w (hosts_line w count)
  hosts_on w count =
      refused_or w (first_cause (hosts_causes w count)) (goes (says (with_hosts w count) []))
      (begins_none w (with_hosts w count) 0 (elsewhere w (with_hosts w count) refl refl refl refl))

  -- hosts that are down stop in a group, and call no servant
  stopped_kept : (i : ℕ) (hosts : List HostState) (g : ScriptGroup) → IsKept g → IsKept (stopped_from i hosts g)
  unfolding stopped_from
  stopped_kept i [] g kept = kept
  stopped_kept i (h ∷ hosts) g kept = stopped_kept (suc i) hosts (stopped_if h.up g i) (one h.up)
    where
      one : (up : Bool) → IsKept (stopped_if up g i)
      one true = kept
      one false = kept

  stopped_called : CallsGoOn → (i : ℕ) (hosts : List HostState) (g : ScriptGroup) → servant_calls (stopped_from i hosts g) ≡ servant_calls g
  unfolding stopped_from
  stopped_called go i [] g = refl
  stopped_called go i (h ∷ hosts) g = let here = one h.up in stopped_called go (suc i) hosts (stopped_if h.up g i) ∙ here
    where
      one : (up : Bool) → servant_calls (stopped_if up g i) ≡ servant_calls g
      one true = refl
      one false = let turned = go g (events.Crash (host_no i)) in omega (arith, turned)

  stopped_id : (i : ℕ) (hosts : List HostState) (g : ScriptGroup) → (stopped_from i hosts g).id ≡ g.id
  unfolding stopped_from
  stopped_id i [] g = refl
  stopped_id i (h ∷ hosts) g = stopped_id (suc i) hosts (stopped_if h.up g i) ∙ one h.up
    where
      one : (up : Bool) → (stopped_if up g i).id ≡ g.id
      one true = refl
      one false = refl

  -- its number is the next
  one_more_made : (w : World) (g : ScriptGroup) → g.id ≡ next_id w → AllMade w → AreMade (w.groups ++ g ∷ []) w.clients w.messages
  one_more_made w g is m =
      let long = length_push w.groups g in
      more_groups w.groups (w.groups ++ g ∷ []) w.clients w.messages (omega (arith, long)) (order_with_next w.groups g (ap (λ (id : GroupId). id.0) is) m.ordered) m

  made_keeps : (w : World) (name : List ℕ) (kind : Kind) (style : Style) (members : List ℕ) (criteria : List Property) → Makes w (made_group w name kind style members criteria)
  made_keeps w name kind style members criteria =
      let opens : ScriptGroup = opened (next_id w) name kind style members in
      let g : ScriptGroup = new_group w name kind style members in
      record {
        groups = λ all. all_push IsKept w.groups g all (stopped_kept 0 w.hosts opens refl);
        later = one_behind w.groups g;
        called = λ known.
            let behind = one_behind_called w.groups g in
            let stops = stopped_called known.go_on 0 w.hosts opens in
            let opening = known.none (next_id w) name kind style members in
            omega (arith, behind, stops, opening);
        clock = refl;
        few = λ lines f. f;
        made = one_more_made w g (stopped_id 0 w.hosts opens);
        told = λ known m t.
            let knows = stopped_know known 0 w.hosts opens (opened_knows (next_id w) name kind style members) in
            later_true known w.groups (w.groups ++ g ∷ []) (one_behind w.groups g) w.messages (all_push KnowsViews w.groups g t.groups knows) t;
      }

  group_on : (w : World) (name : List ℕ) (kind : KindWord) (style : Style) (members : List ℕ) → GoesOn w (group_line w name kind style members)
  group_on w name kind style members =
      let e : Effect = made_group w name (kind_of kind) style members (style_criteria style) in
      refused_or w (first_cause (group_causes w name members)) (goes e)
      (begins_none w e.world e.calls (made_keeps w name (kind_of kind) style members (style_criteria style)))

  created_keeps : (o : Option CreateFault) (w : World) (name : List ℕ) (kind : Kind) (full criteria : List Property) → Makes w (created_unless o w name kind full criteria)
  created_keeps None w name kind full criteria = made_keeps w name kind (style_in full) (first_members w full) criteria
  created_keeps (Some why) w name kind full criteria = same w

  create_on : (w : World) (name : List ℕ) (kind : KindWord) (criteria : List Property) → GoesOn w (create_line w name kind criteria)
  create_on w name kind criteria =
      let e : Effect = created w name (kind_of kind) criteria in
      let full : List Property = in_full w.settings (kind_of kind) criteria in
      refused_or w (first_cause (create_causes w name)) (goes e)
      (begins_none w e.world e.calls (created_keeps (refusal full (fit w full) []) w name (kind_of kind) full criteria))

  -- what is set, and groups that are deleted: each group stays as it is
  set_keeps : (w : World) (s : Settings) → Keeps w (with_settings w s) 0
  set_keeps w s = elsewhere w (with_settings w s) refl refl refl refl

  delete_on : (w : World) (n : Naming) → GoesOn w (delete_found w n)
  delete_on w NeverMade = refl
  delete_on w (Deleted p) = begins_none w w 0 (same w)
  delete_on w (There p) = begins_none w (without_group w p.value) 0 (set_keeps w (without_group w p.value).settings)

  set_unless_keeps : (o : Option PropertyFault) (w : World) (s : Settings) → Makes w (set_unless o w s)
  set_unless_keeps None w s = set_keeps w s
  set_unless_keeps (Some why) w s = same w

  set_unless_on : (o : Option PropertyFault) (w : World) (s : Settings) → GoesOn w (goes (set_unless o w s))
  set_unless_on o w s = let e : Effect = set_unless o w s in begins_none w e.world e.calls (set_unless_keeps o w s)

  set_on : (w : World) (level : Level) (p : Property) → GoesOn w (set_line w level p)
  set_on w levels.Default p = set_unless_on _ w _
  set_on w (levels.Type kind) p = set_unless_on _ w _

  unset_on : (w : World) (level : Level) (name : List ℕ) → GoesOn w (unset_line w level name)
  unset_on w levels.Default name = set_unless_on _ w _
  unset_on w (levels.Type kind) name = set_unless_on _ w _

  set_in_on : (w : World) (g : ScriptGroup) (p : Property) (o : Option Levels) → GoesOn w (goes (set_in w g p o))
  set_in_on w g p None = begins_none w w 0 (same w)
  set_in_on w g p (Some levels) = set_unless_on _ w _

  set_group_on : (w : World) (o : Option (Placed ScriptGroup)) (p : Property) → GoesOn w (set_group_found w o p)
  set_group_on w None p = refl
  set_group_on w (Some g) p = set_in_on w g.value p (group_of w.settings.groups g.value.id.0)

  get_group_on : (w : World) (o : Option (Placed ScriptGroup)) (name : List ℕ) → GoesOn w (get_group_found w o name)
  get_group_on w None name = refl
  get_group_on w (Some g) name = begins_none w w 0 (same w)

  client_on : (w : World) (name : List ℕ) → GoesOn w (client_line w name)
  client_on w name =
      let c : Client = new_client name in
      let new : World = with_one_client w c in
      let long = length_push w.clients c in
      refused_or w (first_cause (client_causes w name)) (goes (says new []))
      (begins_none w new 0
      (clients_change w (w.clients ++ c ∷ []) (λ lines f. all_push (Few lines) w.clients c f (omega arith, omega arith))
      (λ m.
      more_clients w.groups w.clients (w.clients ++ c ∷ []) w.messages (omega (arith, long)) (all_push (GoesBy (length w.groups)) w.clients c m.clients (tt, tt)) m)))

  tick_on : (w : World) (ticks : ℕ) → (T → ticks < 2 ^ 32) → Follows w (passed w ticks) 0
  tick_on w ticks timely = record {
    groups = λ all. all;
    later = all_stay w.groups;
    called = λ known. omega arith;
    acted = λ t lines h. record { clock = omega (arith, h.clock, timely t); started = more_few lines w.clients h.started };
    made = λ m. m;
    told = λ known m t. t;
  }

  -- ---- every line

  pub first_on : (w : World) (line : Line) → (T → IsTimely line) → GoesOn w (act_first w line)
  first_on w (lines.Hosts count) timely = hosts_on w count
  first_on w (lines.Group name kind style members) timely = group_on w name kind style members
  first_on w (lines.Create name kind criteria) timely = create_on w name kind criteria
  first_on w (lines.Delete name) timely = delete_on w (group_called w name)
  first_on w (lines.Set level property) timely = set_on w level property
  first_on w (lines.SetGroup group property) timely = set_group_on w (group_named w.groups group) property
  first_on w (lines.Unset level name) timely = unset_on w level name
  first_on w (lines.Get level name) timely = begins_none w w 0 (same w)
  first_on w (lines.GetGroup group name) timely = get_group_on w (group_named w.groups group) name
  first_on w (lines.Client name) timely = client_on w name
  first_on w (lines.Call client group op words) timely = call_on w client (group_called w group) op words (called_one w group)
  first_on w (lines.Bind client group) timely = bind_on w (client_named w client) (group_called w group) (found_one _ w.clients) (called_one w group)
  first_on w (lines.Timeout client) timely = timeout_on w (client_named w client) (found_one _ w.clients)
  first_on w (lines.Deliver number stop) timely = deliver_on w number stop (message_numbered w number) (message_one w number)
  first_on w (lines.Tick ticks) timely = tick_on w ticks timely
  first_on w (lines.Show name) timely = show_on w (group_called w name)
  first_on w (lines.Locations name) timely = reads_on w located (group_called w name)
  first_on w (lines.Id name) timely = reads_on w identified (group_called w name)
  first_on w (lines.Ref name) timely = reads_on w referred (group_called w name)
  first_on w (lines.MemberRef group host) timely = member_on w (group_called w group) host
  first_on w (lines.Inject host bytes) timely = inject_on w host bytes
  first_on w (lines.Change change group host) timely = change_on w (group_called w group) change host (called_one w group)
  first_on w (lines.Grow group host) timely = grow_on w (group_called w group) host (called_one w group)
  first_on w (lines.Crash host) timely = crash_on w host
  first_on w (lines.Restart host) timely = restart_on w host
  first_on w (lines.Poll name) timely = poll_on w (group_called w name) (called_one w name)
  first_on w (lines.Sweep name) timely = sweep_on w (group_called w name) (called_one w name)
  first_on w (lines.Subscribe subscriber filter) timely = subscribe_on w subscriber filter
  first_on w (lines.Unsubscribe subscriber) timely = unsubscribe_on w subscriber (subscriber_named w.subscribers subscriber)
  first_on w (lines.Pull subscriber) timely = pull_on w subscriber (pulled_of (subscriber_named w.subscribers subscriber))
  first_on w (lines.Checkpoint name) timely = checkpoint_on w (group_called w name) (called_one w name)
  first_on w (lines.Update name) timely = update_on w (group_called w name) (called_one w name)
  first_on w (lines.LogFail name) timely = logfail_on w (group_called w name) (called_one w name)

-- ---- the world after a line, before its totals are judged

module _ (w new : World) (line : Line) (timely : IsTimely line) (report : List ReportLine) (calls : ℕ) (is : act_first w line ≡ Goes new report calls) where
  follows : Follows (IsTimely line) w new calls
  follows = subst (GoesOn (IsTimely line) w) is (first_on (IsTimely line) w line (λ t. t))

  pub kept_after : IsKeptWorld w → IsKeptWorld new
  kept_after kept = follows.groups kept

  pub acted_after : (lines : ℕ) → HasActed w lines → HasActed new (lines + 1)
  acted_after lines acted = follows.acted timely lines acted
