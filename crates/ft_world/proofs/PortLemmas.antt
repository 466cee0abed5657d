-- A message of a link, and the link's end.
use Rattle.std.proofs.Common.{◌≡◌, ℕ, suc, ◌+◌, ◌≤◌, Bool, true, false, List, [], ◌∷◌, ◌++◌, Option, Some, None, refl, sym, ap, subst, ◌∙◌, arith, append_assoc, append-nil, inl, inr}
use Rattle.std.specs.Prelude.{if◌then◌else◌, length, not, Result, Ok, Err, OnOk, slice_get}
use Rattle.ft_base.specs.declared.decisions.Stop.TheVariants.{Never}
use Rattle.ft_base.specs.declared.memory.NoMemory.{NoMemory}
use Rattle.ft_base.specs.declared.numbers.HostNo.{HostNo}
use Rattle.ft_report.specs.declared.reports.ReportLine.{ReportLine}
use Rattle.ft_report.specs.declared.reports.ReportLine.TheVariants as reports
use Rattle.giop_messages.specs.declared.forms.Form.{Form}
use Rattle.giop_stream.specs.declared.sessions.StreamEnd.{StreamEnd}
use Rattle.giop_stream.specs.declared.sessions.StreamEnd.TheVariants.{Closed, Malformed, TooLarge}
use Rattle.giop_stream.specs.Parts.{Received}
use Rattle.giop_stream.specs.Sessions.{Session, session}
use Rattle.group_model.specs.declared.asking.Asked.{Asked}
use Rattle.group_model.specs.declared.events.Inner.{Inner}
use Rattle.group_model.specs.declared.events.Inner.TheVariants as inners
use Rattle.group_model.specs.declared.events.Out.{Out}
use Rattle.group_model.specs.Views.{host_no}
use Rattle.host_server.specs.declared.answers.PortAnswer.{PortAnswer}
use Rattle.host_server.specs.declared.answers.PortAnswer.TheVariants as answers
use Rattle.host_server.specs.Replies.{IsReply}
use Rattle.link_session.specs.Calls.{calling_of}
use Rattle.link_session.specs.Exchanges.{Exchanging}
use Rattle.link_session.specs.Loops.{IsOver}
use Rattle.link_session.specs.Ports.{called, end_error, linked, locate_reply_of, reply_of, step, writes}
use Rattle.link_session.specs.Serving.{bytes_of, IsAnswered, IsDown, IsServed as AreServed, IsShort, IsStepped, Meets, meets_served, written as to_write}
use Rattle.link_session.specs.declared.calls.Calling.{Calling}
use Rattle.link_session.specs.declared.calls.Calling.TheVariants.{Ask, Locate, Nothing}
use Rattle.link_session.specs.declared.ports.Stepped.{Stepped}
use Rattle.link_session.specs.declared.ports.Stepped.TheVariants.{Write, Silent, Down}
use Rattle.script_groups.specs.Groups.{ScriptGroup, Placed}
use Rattle.script_world.specs.declared.hosts.HostState.{HostState}
use Rattle.script_world.specs.Sound.{IsKeptWorld}
use Rattle.script_world.specs.World.{World, is_there, is_up, up_of}
use Rattle.world_turns.specs.Answers.{HasDone}
use Rattle.world_turns.specs.Sending.{sent_line, sent_lines}
use Rattle.world_turns.specs.Turns.{Effect, effect, says}
use Rattle.ft_world.specs.declared.asking.Said.{Said}
use Rattle.ft_world.specs.declared.asking.Said.TheVariants as saids
use Rattle.ft_world.specs.Requests.{ask}
use Rattle.ft_world.specs.Links.{PortTurn, bytes_lines, end_line, further_by, group_keyed, is_here, link_of, port_turn, turn_by, unheard_turn, with_end, world_port}
use Rattle.ft_world.specs.Passes.{Exchanges, Fits, HasAnswered, IsExchanged, IsLinkServed, IsMade, IsToldOf, Lines, Pass, is_stopped, lines_at, looks, octets, octets_of, pass_at, turn_at, with_turn}
use Rattle.ft_world.specs.Serving.{Changes, IsChange, IsServed, IsTaken, IsWithin}

-- ---- what is written

pub written_is : (host : ℕ) (w : World) (lines : List ReportLine) (calls : ℕ) (bytes : Option (List ℕ)) →
    writes (world_port host) (effect w lines calls) bytes ≡ effect w (lines ++ bytes_lines bytes) calls
written_is host w lines calls None = ap (λ (ls : List ReportLine). effect w ls calls) (sym (append-nil lines))
written_is host w lines calls (Some bytes) = ap (λ (n : ℕ). effect w (lines ++ reports.Bytes bytes ∷ []) n) (let same : calls + 0 ≡ calls = omega arith in same)

-- ---- octets

pub octets_join : (xs ys : List ReportLine) → octets (xs ++ ys) ≡ octets xs ++ octets ys
unfolding octets
octets_join [] ys = refl
octets_join (x ∷ xs) ys = ap (λ (bs : List ℕ). octets_of x ++ bs) (octets_join xs ys) ∙ sym (append_assoc (octets_of x) (octets xs) (octets ys))

pub octets_written : (bytes : Option (List ℕ)) → octets (bytes_lines bytes) ≡ bytes_of bytes
unfolding octets
octets_written None = refl
octets_written (Some bytes) = append-nil bytes

none_in_line : (number : ℕ) (name : List ℕ) (from to : HostNo) (carried : Inner) → octets_of (sent_line number name from to carried) ≡ []
none_in_line number name from to (inners.View version) = refl
none_in_line number name from to (inners.State position state) = refl
none_in_line number name from to (inners.Update base position update) = refl
none_in_line number name from to (inners.Order index request) = refl

none_in_sent : (number : ℕ) (name : List ℕ) (from : HostNo) (outs : List Out) → octets (sent_lines number name from outs) ≡ []
unfolding octets sent_lines
none_in_sent number name from [] = refl
none_in_sent number name from (out ∷ outs) =
    ap (λ (bs : List ℕ). bs ++ octets (sent_lines (suc number) name from outs)) (none_in_line number name from out.to out.carried)
    ∙ none_in_sent (suc number) name from outs

-- ---- a turn

-- it prints no octets but those of its answer, and no host stops
record IsQuiet (w : World) (t : PortTurn) : Type 0 where
  before : octets t.before ≡ []
  behind : octets t.behind ≡ []
  hosts : t.world.hosts ≡ w.hosts

turn_is_quiet : (w : World) (g : ScriptGroup) (host : HostNo) (calls : ℕ) (said : Said) → IsQuiet w (turn_by w g host calls said)
unfolding octets
turn_is_quiet w g host calls (saids.Reply r) = record { before = refl; behind = none_in_sent (length w.messages + 1) g.name host r.out; hosts = refl }
turn_is_quiet w g host calls (saids.Stopped decision) = record { before = refl; behind = refl; hosts = refl }
turn_is_quiet w g host calls saids.Down = record { before = refl; behind = refl; hosts = refl }

port_is_quiet : (w : World) (host : ℕ) (asked : Asked) (o : Option (Placed ScriptGroup)) → IsQuiet w (port_turn w host asked o)
unfolding octets
port_is_quiet w host asked None = record { before = refl; behind = refl; hosts = refl }
port_is_quiet w host asked (Some g) =
    let a = ask w g (host_no host) asked Never in
    let q : IsQuiet a.world (turn_by a.world g.value (host_no host) a.calls a.said) = turn_is_quiet a.world g.value (host_no host) a.calls a.said in
    record { before = q.before; behind = q.behind; hosts = q.hosts }

nothing_is_quiet : (w : World) → IsQuiet w (unheard_turn w 0)
unfolding octets
nothing_is_quiet w = record { before = refl; behind = refl; hosts = refl }

-- by its answer, which is a reply
made : (host : ℕ) (key : List ℕ) (asked : Asked) (answer : PortAnswer) (old new : Pass) → IsReply answer → HasAnswered host key asked answer old new →
    IsMade (turn_at old host key asked) answer old new
made host key asked answers.NoGroup old new reply h = h.1
made host key asked (answers.Forward perm body) old new reply h = h.1
made host key asked (answers.Done outcome gives) old new reply h = h.1
made host key asked (answers.System fault) old new reply h = h.1
made host key asked answers.Down old new reply h = absurd reply
made host key asked answers.NoMemory old new reply h = absurd reply

told : (t : PortTurn) (answer : PortAnswer) (old new : Lines) → IsReply answer → IsToldOf t answer old new → new ≡ with_turn old t
told t answers.NoGroup old new reply is = is
told t (answers.Forward perm body) old new reply is = is
told t (answers.Done outcome gives) old new reply is = is
told t (answers.System fault) old new reply is = is
told t answers.Down old new reply is = absurd reply
told t answers.NoMemory old new reply is = absurd reply

-- where the host wasn't down, no more servant calls were made than the turn's
counted_within : (host : ℕ) (key : List ℕ) (asked : Asked) (answer : PortAnswer) (old new : Pass) → (answer ≡ answers.Down → ⊥) →
    HasAnswered host key asked answer old new → new.calls ≤ old.calls + (turn_at old host key asked).calls
counted_within host key asked answers.NoGroup old new up h = let n = ap (λ (p : Pass). p.calls) h.1.pass in omega (arith, n)
counted_within host key asked (answers.Forward perm body) old new up h = let n = ap (λ (p : Pass). p.calls) h.1.pass in omega (arith, n)
counted_within host key asked (answers.Done outcome gives) old new up h = let n = ap (λ (p : Pass). p.calls) h.1.pass in omega (arith, n)
counted_within host key asked (answers.System fault) old new up h = let n = ap (λ (p : Pass). p.calls) h.1.pass in omega (arith, n)
counted_within host key asked answers.Down old new up h = absurd (up refl)
counted_within host key asked answers.NoMemory old new up h = h.calls

-- ---- hosts that are up

not_stopped : (w : World) (host : ℕ) → is_up w host ≡ true → is_stopped w host ≡ false
not_stopped w host up = ap (λ (b : Bool). if is_there w host then not b else false) up ∙ both (is_there w host)
  where
    both : (b : Bool) → (if b then not true else false) ≡ false
    both true = refl
    both false = refl

looks_there : (p : Pass) (host : ℕ) (key : List ℕ) → p.short ≡ false → is_up p.world host ≡ true → looks p host key ≡ is_here host (group_keyed p.world key)
looks_there p host key whole up =
    ap (λ (b : Bool). if b then false else (if is_stopped p.world host then false else is_here host (group_keyed p.world key))) whole
    ∙ ap (λ (b : Bool). if b then false else is_here host (group_keyed p.world key)) (not_stopped p.world host up)

-- ---- where nothing is asked

no_more : (n : ℕ) → n ≡ n + 0
no_more n = omega arith

stays : (p : Pass) → p.short ≡ false → p ≡ pass_at p.world (p.calls + 0) false
stays p whole = ap (λ (n : ℕ). pass_at p.world n p.short) (no_more p.calls) ∙ ap (λ (b : Bool). pass_at p.world (p.calls + 0) b) whole

prints_nothing : (l : Lines) (w : World) → l ≡ with_turn l (unheard_turn w 0)
prints_nothing l w =
    ap (λ (ls : List ReportLine). lines_at ls l.behind) (sym (append-nil l.before))
    ∙ ap (λ (ls : List ReportLine). lines_at (l.before ++ []) ls) (sym (append-nil l.behind))

does_nothing : (w : World) (report : List ReportLine) (so_far : ℕ) → effect w report so_far ≡ further_by (effect w report so_far) (unheard_turn w 0) None
does_nothing w report so_far =
    ap (λ (ls : List ReportLine). effect w ls so_far) (sym (append-nil report)) ∙ ap (λ (n : ℕ). effect w (report ++ []) n) (no_more so_far)

-- ---- a message at a pass

module _ {P N M : Type 0} (pass : P → Pass) (lines : P → Lines) (owned : P → N) (printing : P → M) (host : ℕ) where
  abbrev pub Over : Exchanging P
  Over = IsExchanged pass lines owned printing

  by_pass : (form : Form) (c : Calling) (old new : P) (bytes : Option (List ℕ)) → IsAnswered Over host form c old new bytes →
      IsAnswered Exchanges host form c (pass old) (pass new) bytes
  by_pass form (Ask id flags key asked) old new bytes a = record { answer = a.answer; replies = a.replies; so = a.so.so; written = a.written }
  by_pass form (Locate id key) old new bytes a = record { here = a.here; so = a.so.so; written = a.written }
  by_pass form Nothing old new bytes a = (ap pass a.0, a.1)

  -- the turn that it takes
  record IsTurned (form : Form) (c : Calling) (old new : P) (bytes : Option (List ℕ)) : Type 0 where
    turn : PortTurn
    pass_is : pass new ≡ pass_at turn.world ((pass old).calls + turn.calls) false
    printed : lines new ≡ with_turn (lines old) turn
    called_is : (report : List ReportLine) (so_far : ℕ) →
        called (world_port host) (effect (pass old).world report so_far) form c ≡ further_by (effect (pass old).world report so_far) turn bytes
    quiet : IsQuiet (pass old).world turn

  turned : (form : Form) (c : Calling) (old new : P) (bytes : Option (List ℕ)) → (pass old).short ≡ false → is_up (pass old).world host ≡ true →
      IsAnswered Over host form c old new bytes → IsTurned form c old new bytes
  turned form (Ask id flags key asked) old new bytes whole up a =
      let t : PortTurn = turn_at (pass old) host key asked in
      let m : IsMade t a.answer (pass old) (pass new) = made host key asked a.answer (pass old) (pass new) a.replies a.so.so in
      record {
        turn = t;
        pass_is = m.pass;
        printed = told t a.answer (lines old) (lines new) a.replies a.so.prints;
        called_is = λ report so_far.
            ap (λ (o : Option (List ℕ)). further_by (effect (pass old).world report so_far) t o)
            (ap (λ (x : PortAnswer). reply_of id flags form x) (sym m.answer) ∙ sym a.written);
        quiet = port_is_quiet (pass old).world host asked (group_keyed (pass old).world key);
      }
  turned form (Locate id key) old new bytes whole up a =
      let w : World = (pass old).world in
      let here : a.here ≡ is_here host (group_keyed w key) = a.so.so.1 ∙ looks_there (pass old) host key whole up in
      record {
        turn = unheard_turn w 0;
        pass_is = a.so.so.0 ∙ stays (pass old) whole;
        printed = a.so.prints ∙ prints_nothing (lines old) w;
        called_is = λ report so_far.
            ap (λ (o : Option (List ℕ)). further_by (effect w report so_far) (unheard_turn w 0) o)
            (ap (λ (b : Bool). Some (locate_reply_of id form b)) (sym here) ∙ sym a.written);
        quiet = nothing_is_quiet w;
      }
  turned form Nothing old new bytes whole up a =
      let w : World = (pass old).world in
      record {
        turn = unheard_turn w 0;
        pass_is = ap pass a.0 ∙ stays (pass old) whole;
        printed = ap lines a.0 ∙ prints_nothing (lines old) w;
        called_is = λ report so_far.
            does_nothing w report so_far ∙ ap (λ (o : Option (List ℕ)). further_by (effect w report so_far) (unheard_turn w 0) o) (sym a.1);
        quiet = nothing_is_quiet w;
      }

  pub is_taken : (m : Received) (old new : P) (bytes : Option (List ℕ)) → (pass old).short ≡ false → is_up (pass old).world host ≡ true →
      IsAnswered Over host m.1 (calling_of m.0) old new bytes → IsTaken host m (pass old) (pass new) (lines old) (lines new) bytes
  is_taken m old new bytes whole up a =
      let t : IsTurned m.1 (calling_of m.0) old new bytes = turned m.1 (calling_of m.0) old new bytes whole up a in
      record {
        answered = by_pass m.1 (calling_of m.0) old new bytes a;
        turn = t.turn;
        pass = t.pass_is;
        printed = t.printed;
        stepped = t.called_is;
        before = t.quiet.before;
        behind = t.quiet.behind;
        hosts = t.quiet.hosts;
      }

  -- a host that is up isn't found down
  pub not_down : (c : Calling) (old new : P) → is_up (pass old).world host ≡ true → IsDown Over host c old new → ⊥
  not_down (Ask id flags key asked) old new up d = let no = not_stopped (pass old).world host up in let yes = d.so.0 in absurd cc
  not_down (Locate id key) old new up d = d
  not_down Nothing old new up d = d

  -- the world and the counter stay where they are
  abbrev pub SameNames : P → P → Type 0
  SameNames old new = (owned new ≡ owned old) × (printing new ≡ printing old)

  answered_same : (form : Form) (c : Calling) (old new : P) (bytes : Option (List ℕ)) → IsAnswered Over host form c old new bytes → SameNames old new
  answered_same form (Ask id flags key asked) old new bytes a = (a.so.owned_stay, a.so.printed_stay)
  answered_same form (Locate id key) old new bytes a = (a.so.owned_stay, a.so.printed_stay)
  answered_same form Nothing old new bytes a = (ap owned a.0, ap printing a.0)

  pub stepped_same : (form : Form) (c : Calling) (s : Stepped) (old new : P) → IsStepped Over host form c s old new → SameNames old new
  stepped_same form c (Write bytes) old new a = answered_same form c old new (Some bytes) a
  stepped_same form c Silent old new a = answered_same form c old new None a
  stepped_same form (Ask id flags key asked) Down old new d = (d.owned_stay, d.printed_stay)
  stepped_same form (Locate id key) Down old new d = absurd d
  stepped_same form Nothing Down old new d = absurd d

  pub short_same : (c : Calling) (old new : P) → IsShort Over host c old new → SameNames old new
  short_same (Ask id flags key asked) old new (inl is) = (ap owned is, ap printing is)
  short_same (Ask id flags key asked) old new (inr it) = (it.2.owned_stay, it.2.printed_stay)
  short_same (Locate id key) old new (inl is) = (ap owned is, ap printing is)
  short_same (Locate id key) old new (inr it) = (it.1.owned_stay, it.1.printed_stay)
  short_same Nothing old new is = (ap owned is, ap printing is)

  -- memory was wanted in it
  none_called : (form : Form) (c : Calling) (p q : Pass) (report : List ReportLine) → q ≡ p →
      IsWithin (λ e. called (world_port host) e form c) p.world report p.calls q.calls
  none_called form (Ask id flags key asked) p q report is = λ so_far. let n = ap (λ (x : Pass). x.calls) is in omega (arith, n)
  none_called form (Locate id key) p q report is = λ so_far. let n = ap (λ (x : Pass). x.calls) is in omega (arith, n)
  none_called form Nothing p q report is = λ so_far. let n = ap (λ (x : Pass). x.calls) is in omega (arith, n)

  pub short_within : (form : Form) (c : Calling) (old new : P) (report : List ReportLine) → IsShort Over host c old new →
      IsWithin (λ e. called (world_port host) e form c) (pass old).world report (pass old).calls (pass new).calls
  short_within form (Ask id flags key asked) old new report (inl is) = none_called form (Ask id flags key asked) (pass old) (pass new) report (ap pass is)
  short_within form (Ask id flags key asked) old new report (inr it) = λ so_far.
      let n = counted_within host key asked it.0 (pass old) (pass new) it.1 it.2.so in omega (arith, n)
  short_within form (Locate id key) old new report (inl is) = none_called form (Locate id key) (pass old) (pass new) report (ap pass is)
  short_within form (Locate id key) old new report (inr it) = none_called form (Locate id key) (pass old) (pass new) report it.1.so.0
  short_within form Nothing old new report is = none_called form Nothing (pass old) (pass new) report (ap pass is)

-- ---- what a step of a message told, by the values of the pass

module _ {P N M : Type 0} (old new : P) (pass : P → Pass) (lines : P → Lines) (owned : P → N) (printing : P → M) (host : ℕ) (m : Received) where
  pub step_taken : (s : Stepped) (bytes : Option (List ℕ)) → s ≡ to_write bytes → (pass old).short ≡ false → is_up (pass old).world host ≡ true →
      IsStepped (IsExchanged pass lines owned printing) host m.1 (calling_of m.0) s old new → IsTaken host m (pass old) (pass new) (lines old) (lines new) bytes
  step_taken s bytes is whole up a = go bytes (subst (λ (x : Stepped). IsStepped (IsExchanged pass lines owned printing) host m.1 (calling_of m.0) x old new) is a)
    where
      go : (o : Option (List ℕ)) → IsStepped (IsExchanged pass lines owned printing) host m.1 (calling_of m.0) (to_write o) old new →
          IsTaken host m (pass old) (pass new) (lines old) (lines new) o
      go None b = is_taken pass lines owned printing host m old new None whole up b
      go (Some bs) b = is_taken pass lines owned printing host m old new (Some bs) whole up b

  pub step_same : (s : Stepped) → IsStepped (IsExchanged pass lines owned printing) host m.1 (calling_of m.0) s old new →
      (owned new ≡ owned old) × (printing new ≡ printing old)
  step_same s a = stepped_same pass lines owned printing host m.1 (calling_of m.0) s old new a

  pub step_up : (s : Stepped) → s ≡ Down → is_up (pass old).world host ≡ true →
      IsStepped (IsExchanged pass lines owned printing) host m.1 (calling_of m.0) s old new → ⊥
  step_up s is up a =
      not_down pass lines owned printing host (calling_of m.0) old new up
      (subst (λ (x : Stepped). IsStepped (IsExchanged pass lines owned printing) host m.1 (calling_of m.0) x old new) is a)

  pub step_short_same : IsShort (IsExchanged pass lines owned printing) host (calling_of m.0) old new → (owned new ≡ owned old) × (printing new ≡ printing old)
  step_short_same a = short_same pass lines owned printing host (calling_of m.0) old new a

  pub step_within : (report : List ReportLine) → IsShort (IsExchanged pass lines owned printing) host (calling_of m.0) old new →
      IsWithin (λ e. step (world_port host) e m.0 m.1) (pass old).world report (pass old).calls (pass new).calls
  step_within report a = short_within pass lines owned printing host m.1 (calling_of m.0) old new report a

-- memory wasn't wanted, so the world is kept
pub taken_kept : (host : ℕ) (m : Received) (old new : Pass) (lines mid : Lines) (bytes : Option (List ℕ)) → IsTaken host m old new lines mid bytes →
    Fits new.short new.world → IsKeptWorld new.world
taken_kept host m old new lines mid bytes t fits = fits (ap (λ (p : Pass). p.short) t.pass)

-- ---- its bytes are printed

module _ (host : ℕ) (m : Received) (old new : Pass) (lines mid : Lines) (bytes : Option (List ℕ)) (taken : IsTaken host m old new lines mid bytes)
    (later : List ReportLine) (flat : lines.behind ≡ []) (printed : later ≡ mid.before ++ (bytes_lines bytes ++ mid.behind)) where
  later_is : later ≡ lines.before ++ (taken.turn.before ++ (bytes_lines bytes ++ taken.turn.behind))
  later_is =
      printed
      ∙ ap (λ (l : Lines). l.before ++ (bytes_lines bytes ++ l.behind)) taken.printed
      ∙ ap (λ (ls : List ReportLine). (lines.before ++ taken.turn.before) ++ (bytes_lines bytes ++ (ls ++ taken.turn.behind))) flat
      ∙ append_assoc lines.before taken.turn.before (bytes_lines bytes ++ taken.turn.behind)

  pub taken_changes : IsChange (λ e. step (world_port host) e m.0 m.1) old.world new.world lines.before later old.calls new.calls
  taken_changes =
      record {
        calls = taken.turn.calls;
        is = λ so_far.
            taken.stepped lines.before so_far
            ∙ ap (λ (p : Pass). effect p.world (lines.before ++ (taken.turn.before ++ (bytes_lines bytes ++ taken.turn.behind))) (so_far + taken.turn.calls)) (sym taken.pass)
            ∙ ap (λ (ls : List ReportLine). effect new.world ls (so_far + taken.turn.calls)) (sym later_is);
        counted = ap (λ (p : Pass). p.calls) taken.pass;
      }

  octets_are : octets later ≡ octets lines.before ++ bytes_of bytes
  octets_are =
      ap octets later_is
      ∙ octets_join lines.before (taken.turn.before ++ (bytes_lines bytes ++ taken.turn.behind))
      ∙ ap (λ (bs : List ℕ). octets lines.before ++ bs)
      (octets_join taken.turn.before (bytes_lines bytes ++ taken.turn.behind)
      ∙ ap (λ (bs : List ℕ). bs ++ octets (bytes_lines bytes ++ taken.turn.behind)) taken.before
      ∙ octets_join (bytes_lines bytes) taken.turn.behind
      ∙ ap (λ (bs : List ℕ). octets (bytes_lines bytes) ++ bs) taken.behind
      ∙ append-nil (octets (bytes_lines bytes))
      ∙ octets_written bytes)

  pub taken_meets : Meets Exchanges host (old, octets lines.before) m (new, octets later)
  taken_meets = (bytes, taken.answered, octets_are)

-- it is still up
pub taken_up : (host : ℕ) (m : Received) (old new : Pass) (lines mid : Lines) (bytes : Option (List ℕ)) → IsTaken host m old new lines mid bytes →
    is_up old.world host ≡ true → is_up new.world host ≡ true
taken_up host m old new lines mid bytes t up =
    ap (λ (p : Pass). is_up p.world host) t.pass ∙ ap (λ (hs : List HostState). up_of (slice_get hs host)) t.hosts ∙ up

-- memory was wanted behind it
pub taken_within : (host : ℕ) (m : Received) (old new : Pass) (lines mid : Lines) (bytes : Option (List ℕ)) → IsTaken host m old new lines mid bytes →
    IsWithin (λ e. step (world_port host) e m.0 m.1) old.world lines.before old.calls new.calls
taken_within host m old new lines mid bytes t = λ so_far.
    let more = ap (λ (e : Effect). e.calls) (t.stepped lines.before so_far) in
    let n = ap (λ (p : Pass). p.calls) t.pass in omega (arith, more, n)

pub taken_so : (host : ℕ) (m : Received) (old new : Pass) (lines mid : Lines) (bytes : Option (List ℕ)) (result : Result (Unit {0}) NoMemory) (later : List ReportLine) →
    IsTaken host m old new lines mid bytes → lines.behind ≡ [] → OnOk result (later ≡ mid.before ++ (bytes_lines bytes ++ mid.behind)) →
    Changes (λ e. step (world_port host) e m.0 m.1) result old.world new.world lines.before later old.calls new.calls
taken_so host m old new lines mid bytes (Ok u) later t flat printed = taken_changes host m old new lines mid bytes t later flat printed
taken_so host m old new lines mid bytes (Err why) later t flat printed = taken_within host m old new lines mid bytes t

pub meets_so : (host : ℕ) (m : Received) (old new : Pass) (lines mid : Lines) (bytes : Option (List ℕ)) (result : Result (Unit {0}) NoMemory) (later : List ReportLine) →
    IsTaken host m old new lines mid bytes → lines.behind ≡ [] → OnOk result (later ≡ mid.before ++ (bytes_lines bytes ++ mid.behind)) →
    OnOk result (Meets Exchanges host (old, octets lines.before) m (new, octets later))
meets_so host m old new lines mid bytes (Ok u) later t flat printed = taken_meets host m old new lines mid bytes t later flat printed
meets_so host m old new lines mid bytes (Err why) later t flat printed = tt

-- ---- the end of a link

module _ (w new : World) (host : ℕ) (bytes : List ℕ) (end : StreamEnd) (mid : List ReportLine) (before now : ℕ)
    (s : IsServed w host bytes end new mid before now) where
  link_is : link_of w host bytes ≡ effect new ((mid ++ bytes_lines (end_error end)) ++ end_line end ∷ []) (s.calls + 0)
  link_is =
      ap (λ (x : StreamEnd). with_end x (linked (world_port host) (says w []) bytes)) s.over
      ∙ ap (with_end end) (s.is ∙ written_is host new mid s.calls (end_error end))

  pub link_done : (answer : Option (List ℕ)) (after last : List ReportLine) → answer ≡ end_error end → after ≡ mid ++ bytes_lines answer →
      last ≡ after ++ end_line end ∷ [] → HasDone (link_of w host bytes) last new before now
  link_done answer after last is are so =
      subst (λ (e : Effect). HasDone e last new before now) (sym link_is) (record {
        world = refl;
        lines = so ∙ ap (λ (ls : List ReportLine). ls ++ end_line end ∷ []) (are ∙ ap (λ (x : Option (List ℕ)). mid ++ bytes_lines x) is);
        calls = omega (arith, s.counted);
      })

  -- memory was wanted behind its messages
  pub link_stopped : now ≤ before + (link_of w host bytes).calls
  link_stopped = omega (arith, s.counted, ap (λ (e : Effect). e.calls) link_is)

-- all its messages are served, and their octets are those that are printed
pub turns_served : (host : ℕ) (fed : List ℕ) (start now : Pass) (before later : List ReportLine) (end : StreamEnd) → before ≡ [] →
    IsOver (Meets Exchanges host) (start, octets before) fed end (now, octets later) →
    AreServed Exchanges host (session fed).messages start now (octets later)
unfolding octets
turns_served host fed start now before later end fresh over =
    let r = meets_served Exchanges host (start, octets before) (now, octets later) over.given over.so in
    let bytes : octets later ≡ r.0 = r.1 ∙ ap (λ (ls : List ReportLine). octets ls ++ r.0) fresh in
    subst (λ (ms : List Received). AreServed Exchanges host ms start now (octets later)) (sym (ap (λ (s : Session). s.messages) over.is))
    (subst (λ (bs : List ℕ). AreServed Exchanges host over.given start now bs) (sym bytes) r.2)

-- the octets that are printed of all of it
pub link_served : (host : ℕ) (bytes : List ℕ) (old new : Pass) (mid last : List ReportLine) (end : StreamEnd) → (session bytes).end ≡ end →
    AreServed Exchanges host (session bytes).messages old new (octets mid) → last ≡ (mid ++ bytes_lines (end_error end)) ++ end_line end ∷ [] →
    IsLinkServed host bytes old new last
unfolding octets
link_served host bytes old new mid last end over served is = record {
  written = octets mid;
  served = served;
  is =
      ap octets is
      ∙ octets_join (mid ++ bytes_lines (end_error end)) (end_line end ∷ [])
      ∙ ap (λ (bs : List ℕ). octets (mid ++ bytes_lines (end_error end)) ++ bs) (no_octets end)
      ∙ append-nil (octets (mid ++ bytes_lines (end_error end)))
      ∙ octets_join mid (bytes_lines (end_error end))
      ∙ ap (λ (bs : List ℕ). octets mid ++ bs) (octets_written (end_error end) ∙ ap (λ (e : StreamEnd). bytes_of (end_error e)) (sym over));
}
  where
    no_octets : (e : StreamEnd) → octets (end_line e ∷ []) ≡ []
    no_octets Closed = refl
    no_octets (Malformed why place) = refl
    no_octets (TooLarge size) = refl

-- by booleans, whether memory was wanted; it was not
pub closed_served : (host : ℕ) (bytes : List ℕ) (w new : World) (m n : ℕ) (before after : Bool) (mid last : List ReportLine) (end : StreamEnd)
    (result : Result (Unit {0}) NoMemory) → before ≡ false → after ≡ before → (session bytes).end ≡ end →
    AreServed Exchanges host (session bytes).messages (pass_at w m before) (pass_at new n after) (octets mid) →
    OnOk result (last ≡ (mid ++ bytes_lines (end_error end)) ++ end_line end ∷ []) →
    OnOk result (IsLinkServed host bytes (pass_at w m false) (pass_at new n false) last)
closed_served host bytes w new m n before after mid last end (Err why) whole same over served is = tt
closed_served host bytes w new m n before after mid last end (Ok u) whole same over served is =
    link_served host bytes (pass_at w m false) (pass_at new n false) mid last end over
    (subst (λ (b : Bool). AreServed Exchanges host (session bytes).messages (pass_at w m false) (pass_at new n b) (octets mid)) (same ∙ whole)
    (subst (λ (b : Bool). AreServed Exchanges host (session bytes).messages (pass_at w m b) (pass_at new n after) (octets mid)) whole served)) is

-- ---- what a pass had

module _ (P : World → ℕ → World → ℕ → List ReportLine → Type 0) where
  pub passed : (w v x u : World) (k l n m : ℕ) (report last : List ReportLine) → v ≡ w → l ≡ k → x ≡ u → n ≡ m → report ≡ last → P v l u m last → P w k x n report
  passed w v x u k l n m report last at from to counted printed p =
      subst (λ (ls : List ReportLine). P w k x n ls) (sym printed)
      (subst (λ (y : World). P w k y n last) (sym to)
      (subst (λ (i : ℕ). P w k u i last) (sym counted) (subst (λ (i : ℕ). P w i u m last) from (subst (λ (y : World). P y l u m last) at p))))
