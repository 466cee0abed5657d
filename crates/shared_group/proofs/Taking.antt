-- A turn of the lock is one of its group.
use Rattle.std.proofs.Common.{◌≡◌, ℕ, List, [], ◌∷◌, ◌++◌, Option, Some, None, refl, sym, subst, ap, ◌∙◌, append_assoc}
use Rattle.std.specs.List.{AllByRecursion}
use Rattle.ft_base.specs.Machine.{Machine}
use Rattle.ft_base.specs.declared.numbers.HostNo.{HostNo}
use Rattle.ft_base.specs.declared.numbers.Tick.{Tick}
use Rattle.ft_base.specs.declared.requests.Key.{Key}
use Rattle.group_model.specs.declared.asking.Asked.{Asked}
use Rattle.group_model.specs.declared.events.Event.{Event}
use Rattle.group_model.specs.declared.events.Out.{Out}
use Rattle.group_model.specs.Agreeing.{IsSound}
use Rattle.group_model.specs.Plain.{Group}
use Rattle.group_model.specs.Sending.{WhatIsSentAgrees, brought, sent_by}
use Rattle.group_model.specs.Takers.{taker}
use Rattle.group_core.specs.Cores.{Stands}
use Rattle.hist_lock.specs.declared.standings.Turn.{Turn}
use Rattle.hist_lock.specs.Histories.{Continues, calls, turn_by}
use Rattle.hist_lock.specs.Passes.{IsOf, IsTurn, numbers, own_turns}
use Rattle.shared_group.specs.declared.calls.Call.{Call}
use Rattle.shared_group.specs.declared.calls.Call.TheVariants as asks
use Rattle.shared_group.specs.declared.calls.CallAnswer.{CallAnswer}
use Rattle.shared_group.specs.declared.calls.CallAnswer.TheVariants as told
use Rattle.shared_group.specs.Books.{BookPicture, IsBook, MayCall}
use Rattle.shared_group.specs.Laws.{SentMayBeBrought}
use Rattle.shared_group.specs.Shared.{Carries, Shared, Steps, Takes, opening}
use Rattle.shared_group.specs.Turns.{AreFiguresOf, GroupLock, GroupPass, IsAsk, IsCarry, IsCheckpoint, IsEvent, IsGiven, IsGroupHistory, IsHere, IsReplyOf, IsTaken, IsWhole}
use Rattle.shared_group.proofs.Longer.{legal_last}
use Rattle.shared_group.proofs.May.{sent_may}

calls_last : (history : List (Turn Call CallAnswer)) (t : Turn Call CallAnswer) → calls (history ++ t ∷ []) ≡ calls history ++ (t.event, t.answer) ∷ []
calls_last [] t = refl
calls_last (h ∷ history) t = ap (λ (l : List (Call × CallAnswer)). (h.event, h.answer) ∷ l) (calls_last history t)

seen_last : (pass later : GroupPass) (call : Call) (answer : CallAnswer) → (turn : IsTurn pass call answer later) → calls later.seen ≡ calls turn.history ++ (call, answer) ∷ []
seen_last pass later call answer turn = ap (λ (p : GroupPass). calls p.seen) turn.ended ∙ calls_last turn.history (turn_by pass.number call answer)

module _ (machines : ℕ → Machine) where
  given_at : (lock : GroupLock) (pass later : GroupPass) (call : Call) (answer : CallAnswer) → (turn : IsTurn pass call answer later) → IsGroupHistory machines lock later.seen
      → (o : Group) → Stands machines lock.opening.core o → IsGiven machines o turn.history call answer
  given_at lock pass later call answer turn legal o stands =
      let m = machines o.common.kind in
      let past = calls turn.history in
      let is = seen_last pass later call answer turn in
      let book = subst (λ (l : List (Call × CallAnswer)). IsBook machines lock.opening l legal.0) is legal.1 in
      let at = book.at o stands in
      let l = legal_last m past (call, answer) (opening o) at.now at.legal in
      let sound = subst (λ (k : ℕ). IsSound (machines k) at.now.group) at.kind at.stands.sound in
      record { before = l.0; after = at.now; legal = l.1; step = l.2; sound = sound }

  pub taken : (lock : GroupLock) (pass later : GroupPass) (call : Call) (answer : CallAnswer) → IsOf lock later → IsTurn pass call answer later
      → own_turns later ≡ own_turns pass ++ turn_by pass.number call answer ∷ [] → IsGroupHistory machines lock later.seen → IsTaken machines lock pass call answer later
  taken lock pass later call answer own turn gained legal = record {
    own = own;
    turn = turn;
    gained = gained;
    legal = legal;
    given = given_at lock pass later call answer turn legal;
  }

  -- the history then begins with what the pass had seen
  pub continues : (lock : GroupLock) (pass later : GroupPass) (call : Call) (answer : CallAnswer) → IsTaken machines lock pass call answer later → Continues [] pass.seen later.seen
  continues lock pass later call answer is =
      let turn = is.turn in
      let others = turn.others in
      let t = turn_by pass.number call answer in (
        others.0 ++ t ∷ [],
        ap (λ (p : GroupPass). p.seen) turn.ended ∙ ap (λ (l : List (Turn Call CallAnswer)). l ++ t ∷ []) others.1 ∙ append_assoc pass.seen others.0 (t ∷ []),
        λ x among. absurd among,
      )

  pub sent_may_on : WhatIsSentAgrees → SentMayBeBrought machines
  sent_may_on sent = λ lock pass later e answer is.
      let turn = is.turn in
      subst (λ (l : List (Call × CallAnswer)). AllByRecursion (λ out. MayCall machines lock.opening l (asks.Act (brought out))) (sent_by answer))
      (sym (seen_last pass later (asks.Act e) (told.Event answer) turn))
      (sent_may machines sent lock.opening (calls turn.history) e answer)

  -- the turn's step, from the group for which the core stood
  step_of : (lock : GroupLock) (pass later : GroupPass) (call : Call) (answer : CallAnswer) → IsTaken machines lock pass call answer later
      → (m : Machine) × (s t : Shared) × Steps m call answer s t
  step_of lock pass later call answer is =
      let opened = is.legal.1.opened in
      let g = is.given opened.0 opened.1 in
      (machines opened.0.common.kind, g.before, g.after, g.step)

  module _ (lock : GroupLock) (pass later : GroupPass) (answer : CallAnswer) where
    pub is_event : (e : Event) → IsTaken machines lock pass (asks.Act e) answer later → IsEvent answer
    is_event e is = let s = step_of lock pass later (asks.Act e) answer is in subst IsEvent (sym s.3.1.is) tt

    pub is_ask : (host : HostNo) (asked : Asked) → IsTaken machines lock pass (asks.Ask host asked) answer later → IsAsk answer
    is_ask host asked is = let s = step_of lock pass later (asks.Ask host asked) answer is in subst IsAsk (sym s.3.is) tt

    pub is_carry : IsTaken machines lock pass asks.Carry answer later → IsCarry answer
    is_carry is = let s = step_of lock pass later asks.Carry answer is in go s.0 s.1.queue s.1 s.2 s.3 where
      go : (m : Machine) (outs : List Out) (s t : Shared) → Carries m outs answer s t → IsCarry answer
      go m [] s t carries = subst IsCarry (sym carries.0) tt
      go m (out ∷ outs) s t carries = subst IsCarry (sym carries.is) tt

    pub is_checkpoint : (clock : Tick) → IsTaken machines lock pass (asks.Checkpoint clock) answer later → IsCheckpoint answer
    is_checkpoint clock is = let s = step_of lock pass later (asks.Checkpoint clock) answer is in go s.0 (taker s.1.group) s.1 s.2 s.3 where
      go : (m : Machine) (host : Option HostNo) (s t : Shared) → Takes m host clock answer s t → IsCheckpoint answer
      go m None s t takes = subst IsCheckpoint (sym takes.0) tt
      go m (Some host) s t takes = subst IsCheckpoint (sym takes.is) tt

    pub is_here : (host : HostNo) → IsTaken machines lock pass (asks.Here host) answer later → IsHere answer
    is_here host is = let s = step_of lock pass later (asks.Here host) answer is in subst IsHere (sym s.3.0) tt

    pub are_figures : IsTaken machines lock pass asks.Figures answer later → AreFiguresOf answer
    are_figures is = let s = step_of lock pass later asks.Figures answer is in subst AreFiguresOf (sym s.3.0.is) tt

    pub is_reply : (key : Key) → IsTaken machines lock pass (asks.Reply key) answer later → IsReplyOf answer
    is_reply key is = let s = step_of lock pass later (asks.Reply key) answer is in subst IsReplyOf (sym s.3.0.is) tt

  -- the object that the lock gives back
  pub whole : (lock : GroupLock) (pass : GroupPass) (book : BookPicture)
      → (history : List (Turn Call CallAnswer)) × Continues (numbers pass) pass.seen history × IsBook machines lock.opening (calls history) book
      → IsWhole machines lock pass book
  whole lock pass book closed = record { history = closed.0; seen = closed.1; book = closed.2 }
