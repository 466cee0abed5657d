-- A request at a host.
use Rattle.std.proofs.Common.{◌≡◌, ℕ, ◌+◌, ◌<◌, ◌≤◌, inl, inr, max, Bool, true, false, List, [], ◌∷◌, length, length-append, refl, sym, subst, ap, ◌∙◌, arith}
use Rattle.std.specs.Prelude.{Option, Some, None, Result, Ok, Err}
use Rattle.ft_base.specs.Machine.{Machine}
use Rattle.ft_base.specs.declared.decisions.Decision.{Decision}
use Rattle.ft_base.specs.declared.decisions.Stop.{Stop}
use Rattle.ft_base.specs.declared.numbers.HostNo.{HostNo}
use Rattle.ft_base.specs.declared.numbers.Tick.{Tick}
use Rattle.ft_base.specs.declared.numbers.Version.{Version}
use Rattle.ft_base.specs.declared.requests.Request.{Request}
use Rattle.sys_faults.specs.declared.answers.Answer.{Answer}
use Rattle.ft_replica.specs.Picture.{Picture as ReplicaPicture}
use Rattle.group_model.specs.declared.asking.Asked.{Asked}
use Rattle.group_model.specs.declared.events.Event.TheVariants as events
use Rattle.group_model.specs.declared.events.GroupAnswer.TheVariants as answers
use Rattle.group_model.specs.declared.events.Out.{Out}
use Rattle.group_model.specs.declared.refusals.Refusal.{Refusal}
use Rattle.group_model.specs.Agreeing.{IsSoundHost}
use Rattle.group_model.specs.Decisions.{known_then, looks_up, request_in}
use Rattle.group_model.specs.Events.{turn_of, is_log_fault}
use Rattle.group_model.specs.Lean as leans
use Rattle.group_model.specs.Plain.{Common, Host, Group, blank, from, caught_up, caught_up_to, put, with_ran}
use Rattle.group_model.specs.Serving.{joined, served, served_or, served_caught_up, unless_bad, asked_at, on_request}
use Rattle.group_model.specs.Turns.{Turn}
use Rattle.group_model.specs.Views.{MayKnow, newest}
use Rattle.group_stands.specs.Going.{BlanksStand}
use Rattle.group_stands.specs.Holding.{HeldOrder, NothingIsHeld}
use Rattle.group_stands.specs.Stands.{LogStands}
use Rattle.group_stands.specs.Telling.{LogsTell}
use Rattle.decision_table.specs.Passing.{IsAsked, MayBeServed}
use Rattle.passive_dispatch.specs.declared.serving.Replied.{Replied}
use Rattle.active_sequencer.specs.Sequences.{replied_as}
use Rattle.group_hosts.specs.Asking.{Parts, parts, PartsStand, CanEnter, HasStoppedAt, IsEntered, settled, unless_stopped, entered_told}
use Rattle.group_hosts.specs.Hosts.{HostPicture, HostStands, IsHere, Shared, forgotten}
use Rattle.group_hosts.specs.Turning.{seen, IsTaken, IsShort, IsTurn}
use Rattle.group_hosts.specs.declared.entering.Entered.{Entered}
use Rattle.group_hosts.specs.declared.entering.Entered.TheVariants.{Done, Short, Unrun}
use Rattle.group_hosts.proofs.Hears.{put-same, up_is, forgot}
use Rattle.group_hosts.proofs.Holds.{sound_of, with_ran-same}
use Rattle.group_hosts.proofs.Knows.{knows_then, known_has}
use Rattle.group_hosts.proofs.Shapes.{IsShaped, going, ended, shaped, calls_new}

-- a journal that a request joined isn't that of before
one_longer : (c : Common) (at : ℕ) (request : Request) → (joined c at request).journal ≡ c.journal → ⊥
one_longer c at request same =
    let sum = length-append c.journal (record { at = at; request = request } ∷ []) in
    let both : length (joined c at request).journal ≡ length c.journal = ap length same in
    omega (arith, sum, both)

module _ (machines : ℕ → Machine) (g : Group) (s : Shared) (host : HostNo) (p : HostPicture) (here : IsHere machines g.common (g.hosts host.0) s p)
    (clock : Tick) (asked : Asked) (stop : Stop) (is_up : p.up ≡ true) where
  abbrev c : Common
  c = g.common

  abbrev h : Host
  h = g.hosts host.0

  -- the host, once it knows what it looked up
  abbrev h' : Host
  h' = record h { known = known_then (newest c) h.known asked.version }

  -- ---- what it knows then

  -- this is what the plain group has it know, where the log's newest version is that
  pub knows : LogsTell → (newest_version known : Version) → newest_version ≡ s.log.newest.version → known.0 ≡ known_then newest_version.0 p.known asked.version → known.0 ≡ h'.known
  knows tell newest_version known newest_is is =
      let top : newest_version.0 ≡ newest c = ap (λ (v : Version). v.0) newest_is ∙ (tell machines c s.log here.log).version in
      is ∙ ap (λ (n : ℕ). known_then n p.known asked.version) top ∙ ap (λ (k : ℕ). known_then (newest c) k asked.version) here.host.known

  -- it is a version that the group still has
  pub may_know : MayKnow c h'.known
  may_know = knows_then machines c s.log here.log (looks_up h.known asked.version) h.known here.sound.known

  pub is_asked : LogsTell → (newest_version known : Version) → newest_version ≡ s.log.newest.version → known.0 ≡ known_then newest_version.0 p.known asked.version → (0 < newest_version.0 → 0 < known.0) →
      IsAsked machines c s.log s.style s.kind known.0
  is_asked tell newest_version known newest_is is some =
      let top : newest_version.0 ≡ newest c = ap (λ (v : Version). v.0) newest_is ∙ (tell machines c s.log here.log).version in
      let views = here.log.sound.views.some in
      let top_some : 0 < newest_version.0 = omega (arith, top, views) in
      let may : MayKnow c known.0 = subst (MayKnow c) (sym (knows tell newest_version known newest_is is)) may_know in
      record { log = here.log; style = here.style; kind = here.opening.kind; has = known_has machines c s.log here.log known.0 (some top_some) may }

  -- ---- what is refused before the journal

  -- the turn of a request whose contexts are good
  good_turn : (x : Stop) (fails : Bool) (r : Result Request Refusal) → asked.bad_context ≡ None → request_in (machines c.kind) c host.0 h'.known asked ≡ r →
      turn_of (machines c.kind) g (events.Request host clock asked x) fails ≡ served_or (machines c.kind) c h' host.0 clock.0 x fails r
  good_turn x fails r good is =
      up_is machines g s host p here (on_request (machines c.kind) c h host.0 clock.0 asked x fails) is_up
      ∙ ap (λ (b : Option ℕ). unless_bad b c h (asked_at (machines c.kind) c h' host.0 clock.0 asked x fails)) good
      ∙ ap (served_or (machines c.kind) c h' host.0 clock.0 x fails) is

  pub refused_taken : (refused : Refusal) (steps : ℕ) → asked.bad_context ≡ None → request_in (machines c.kind) c host.0 h'.known asked ≡ Err refused →
      IsTurn machines g (events.Request host clock asked stop) (answers.Reply refused.decision (Some refused.answer) []) steps (seen s.log (record p { known = refused.known.0 }) steps)
  refused_taken refused steps good is =
      let told = answers.Reply refused.decision (Some refused.answer) [] in
      let now = seen s.log (record p { known = refused.known.0 }) steps in
      subst (λ (t : Turn). IsTaken machines t told steps now) (sym (good_turn stop (is_log_fault refused.decision) (Err refused) good is)) (record {
        log = here.log;
        host = record { up = here.host.up; known = refl; replica = here.host.replica; held = here.host.held };
        told = refl;
        calls = omega arith;
      })

  -- ---- what passes

  -- the host knows what it has to, and no more than there is
  own_up : h.up ≡ true
  own_up = sym here.host.up ∙ is_up

  pub known_sound : IsSoundHost c h'
  known_sound = record {
    known = may_know;
    base = here.sound.base;
    position = here.sound.position;
    unloaded = here.sound.unloaded;
    held = here.sound.held;
    passive = here.sound.passive;
    down = λ no. let both : true ≡ false = sym own_up ∙ no in absurd cc;
  }

  pub can_enter : (request : Request) (steps : ℕ) → MayBeServed (machines c.kind) c h'.known request →
      CanEnter machines c h' s.style s.kind s.opening request (parts s.log p.replica p.held steps)
  can_enter request steps may = record {
    style = here.style;
    catch_up = record { stand = record { log = here.log; replica = here.host.replica; held = here.host.held }; opening = here.opening };
    fits = may.fits;
    short = may.short;
  }

  module _ (request : Request) (good : asked.bad_context ≡ None) (passes : request_in (machines c.kind) c host.0 h'.known asked ≡ Ok request) where
    passed_turn : (x : Stop) (fails : Bool) → turn_of (machines c.kind) g (events.Request host clock asked x) fails ≡ served_caught_up (machines c.kind) c h' host.0 clock.0 request x fails
    passed_turn x fails = good_turn x fails (Ok request) good passes

    -- the host as it knows what it looked up, with what it did
    abbrev after : ReplicaPicture → List HeldOrder → HostPicture
    after replica held = record { up = p.up; known = h'.known; replica = replica; held = held }

    host_of_parts : (d : Common) (x : Host) (now : Parts) → PartsStand machines d x now → x.up ≡ h.up → x.known ≡ h'.known → HostStands machines d (after now.replica now.held) x
    host_of_parts d x now stand up known = record { up = here.host.up ∙ sym up; known = sym known; replica = stand.replica; held = stand.held }

    done_host : BlanksStand → NothingIsHeld → (t : Turn) (decision : Decision) (answer : Option Answer) (out : List Out) (now : Parts) → IsShaped (caught_up c h') t →
        PartsStand machines t.common t.host now → t.answer ≡ answers.Reply decision answer out → HostStands machines t.common (unless_stopped answer (after now.replica now.held)) t.host
    done_host blanks nothing t decision (Some answer) out now (going shape) stand told = host_of_parts t.common t.host now stand shape.up shape.known
    done_host blanks nothing t decision (Some answer) out now (ended shape) stand told = let no = sym told ∙ shape.told in absurd cc
    done_host blanks nothing t decision None out now (going shape) stand told = let no = sym told ∙ shape.told in absurd cc
    done_host blanks nothing t decision None out now (ended shape) stand told =
        subst (λ (x : Host). HostStands machines t.common (forgotten false (after now.replica now.held)) x) (sym shape.gone)
        (forgot machines g s host p here blanks nothing t.common now.replica false stand.replica.kind)

    done_taken : BlanksStand → NothingIsHeld → (replied : Replied) (before now : Parts) →
        IsEntered machines c h' host.0 clock.0 request stop (Done replied) before now →
        IsTurn machines g (events.Request host clock asked stop) (replied_as replied) before.steps (seen now.log (settled (Done replied) (after now.replica now.held)) now.steps)
    done_taken blanks nothing replied before now is =
        let fails = is_log_fault replied.decision in
        let t = served (machines c.kind) (with_ran (length c.journal) c) (caught_up c h') host.0 clock.0 request stop fails in
        let shape = shaped (machines c.kind) (with_ran (length c.journal) c) (caught_up c h') host.0 clock.0 request stop fails in
        let picture = settled (Done replied) (after now.replica now.held) in
        subst (λ (x : Turn). IsTaken machines x (replied_as replied) before.steps (seen now.log picture now.steps)) (sym (passed_turn stop fails)) (record {
          log = is.stand.log;
          host = done_host blanks nothing t replied.decision replied.answer replied.out now shape is.stand is.told;
          told = is.told;
          calls = is.calls;
        })

    -- ---- memory was wanted

    short_left : (before now : Parts) → now ≡ before → LogStands machines c before.log → HostStands machines c (after before.replica before.held) h' →
        IsShort machines g (events.Request host clock asked stop) before.steps (seen now.log (after now.replica now.held) now.steps)
    short_left before now same log stands =
        let same_ran : with_ran h.place.position c ≡ c = with_ran-same c h.place.position here.sound.position in
        rw same (record {
          left = record { common = with_ran h.place.position c; hosts = put g.hosts host.0 h' };
          lean = leans.partly (record {
            up = own_up;
            host = h';
            part = ((request, record { good = good; is = passes }), record { known = h'.known; knows = inr refl; come = inl refl });
            is = refl;
          });
          log = subst (λ (d : Common). LogStands machines d before.log) (sym same_ran) log;
          host = subst (λ (x : Host). HostStands machines (with_ran h.place.position c) (after before.replica before.held) x) (sym (put-same g.hosts host.0 h'))
              (subst (λ (d : Common). HostStands machines d (after before.replica before.held) h') (sym same_ran) stands);
          sound = subst (λ (x : Host). IsSoundHost (with_ran h.place.position c) x) (sym (put-same g.hosts host.0 h')) (subst (λ (d : Common). IsSoundHost d h') (sym same_ran) known_sound);
          calls = omega arith;
          unwritten = λ kept. omega arith;
        })

    -- on its way, at a position
    short_at : (before now : Parts) (n : ℕ) → HasStoppedAt machines c h' before now n →
        IsShort machines g (events.Request host clock asked stop) before.steps (seen now.log (after now.replica now.held) now.steps)
    short_at before now n stopped =
        let come = stopped.come in
        let there = caught_up_to c h' n in
        let stands = host_of_parts (with_ran n c) there now come.stand refl refl in
        let few : (fails : Bool) → now.steps ≤ before.steps + (turn_of (machines c.kind) g (events.Request host clock asked stop) fails).calls =
        λ fails. subst (λ (t : Turn). now.steps ≤ before.steps + t.calls) (sym (passed_turn stop fails)) (omega (arith, stopped.calls)) in
        record {
          left = record { common = with_ran n c; hosts = put g.hosts host.0 there };
          lean = leans.partly (record {
            up = own_up;
            host = there;
            part = ((request, record { good = good; is = passes }), record { known = h'.known; knows = inr refl; come = inr (n, come.first, come.last, refl) });
            is = refl;
          });
          log = come.stand.log;
          host = subst (λ (x : Host). HostStands machines (with_ran n c) (after now.replica now.held) x) (sym (put-same g.hosts host.0 there)) stands;
          sound = subst (λ (x : Host). IsSoundHost (with_ran n c) x) (sym (put-same g.hosts host.0 there))
              (sound_of machines (with_ran n c) _ there stands own_up may_know (λ no. let e : true ≡ false = sym come.loaded ∙ no in absurd cc) (λ passive. ap (from n) (here.sound.passive passive)));
          calls = few false;
          unwritten = λ kept. few true;
        }

    pub short_taken : (before now : Parts) → before ≡ parts s.log p.replica p.held before.steps → IsEntered machines c h' host.0 clock.0 request stop Short before now →
        IsTurn machines g (events.Request host clock asked stop) answers.NoMemory before.steps (seen now.log (settled Short (after now.replica now.held)) now.steps)
    short_taken before now is (inl same) =
        short_left before now same (rw is here.log) (rw is (record { up = here.host.up; known = refl; replica = here.host.replica; held = here.host.held }))
    short_taken before now is (inr stopped) = short_at before now stopped.0 stopped.1

    -- the request joined, and couldn't be run
    pub unrun_taken : BlanksStand → NothingIsHeld → (before now : Parts) → IsEntered machines c h' host.0 clock.0 request stop Unrun before now →
        IsTurn machines g (events.Request host clock asked stop) answers.NoMemory before.steps (seen now.log (settled Unrun (after now.replica now.held)) now.steps)
    unrun_taken blanks nothing before now unrun =
        let d = record (joined c (max clock.0 c.time) request) { ran = length c.journal } in
        let calls = calls_new (machines c.kind) (with_ran (length c.journal) c) (caught_up c h') host.0 clock.0 request stop unrun.new in
        let stands = forgot machines g s host p here blanks nothing d now.replica true unrun.stand.replica.kind in
        record {
          left = record { common = d; hosts = put g.hosts host.0 (blank true) };
          lean = leans.unrun (record {
            up = own_up;
            clock = clock.0;
            request = request;
            new = unrun.new;
            asks = (refl, unrun.to_run, record { good = good; is = passes });
            is = refl;
          });
          log = unrun.stand.log;
          host = subst (λ (x : Host). HostStands machines d (forgotten true (after now.replica now.held)) x) (sym (put-same g.hosts host.0 (blank true))) stands;
          sound = subst (λ (x : Host). IsSoundHost d x) (sym (put-same g.hosts host.0 (blank true))) (record { known = (omega arith, inl refl); base = omega arith; position = omega arith; unloaded = λ no. (refl, refl); held = tt; passive = λ passive. refl; down = λ no. absurd cc });
          calls = subst (λ (t : Turn). now.steps ≤ before.steps + t.calls) (sym (passed_turn stop false)) (omega (arith, unrun.calls, calls));
          unwritten = λ kept. absurd (one_longer c (max clock.0 c.time) request kept);
        }

    -- whatever came of it
    pub entered_taken : BlanksStand → NothingIsHeld → (entered : Entered) (before now : Parts) → before ≡ parts s.log p.replica p.held before.steps → IsEntered machines c h' host.0 clock.0 request stop entered before now →
        IsTurn machines g (events.Request host clock asked stop) (entered_told entered) before.steps (seen now.log (settled entered (after now.replica now.held)) now.steps)
    entered_taken blanks nothing (Done replied) before now at is = done_taken blanks nothing replied before now is
    entered_taken blanks nothing Short before now at is = short_taken before now at is
    entered_taken blanks nothing Unrun before now at is = unrun_taken blanks nothing before now is
