-- What is exchanged with a group is what turns of the pass asked and were told.
use Rattle.std.proofs.Common.{◌≡◌, ℕ, Bool, true, false, List, [], ◌∷◌, ◌++◌, refl, sym, subst, ap, ◌∙◌, append-nil, append_assoc}
use Rattle.ft_base.specs.Machine.{Machine}
use Rattle.ft_base.specs.declared.numbers.HostNo.{HostNo}
use Rattle.group_model.specs.declared.asking.Asked.{Asked}
use Rattle.group_model.specs.Views.{host_no}
use Rattle.hist_lock.specs.Histories.{turn_by}
use Rattle.hist_lock.specs.Passes.{own_turns}
use Rattle.host_server.specs.declared.answers.PortAnswer.{PortAnswer}
use Rattle.link_session.specs.Exchanges.{Exchange, Leads, Look, Request}
use Rattle.shared_group.specs.declared.calls.AskAnswer.{AskAnswer}
use Rattle.shared_group.specs.declared.calls.Call.{Call}
use Rattle.shared_group.specs.declared.calls.Call.TheVariants as calls
use Rattle.shared_group.specs.declared.calls.CallAnswer.{CallAnswer}
use Rattle.shared_group.specs.declared.calls.CallAnswer.TheVariants as told
use Rattle.shared_group.specs.Turns.{GroupPass, IsTaken, SharedValue}
use Rattle.shared_port.specs.Answers.{Says, names_group, port_answer}
use Rattle.shared_port.specs.Turns.{AreExchanged, Asks, Exchanges, GroupTurn, IsAskTurn, IsAsked, IsExchanged, IsLookTurn, Looks}

-- the turn in which it was asked
pub is_asked : (machines : ℕ → Machine) (group : SharedValue) (host : HostNo) (asked : Asked) (answer : PortAnswer) (old new : GroupPass) (ask : AskAnswer)
    → IsTaken machines group.lock old (calls.Ask host asked) (told.Ask ask) new → Says (port_answer group ask) answer → IsAsked machines group host.0 asked answer old new
is_asked machines group host asked answer old new ask taken says = record { ask = ask; taken = taken; says = says }

-- the pass keeps its number, and gains these turns
pub record Gains (old new : GroupPass) (turns : List GroupTurn) : Type 0 where
  pub number : new.number ≡ old.number
  pub gained : own_turns new ≡ own_turns old ++ turns

gains_none : (old new : GroupPass) → new ≡ old → Gains old new []
gains_none old new same = record {
  number = ap (λ (p : GroupPass). p.number) same;
  gained = ap (λ (p : GroupPass). own_turns p) same ∙ sym (append-nil (own_turns old));
}

gains_both : (p q r : GroupPass) (first more : List GroupTurn) → Gains p q first → Gains q r more → Gains p r (first ++ more)
gains_both p q r first more a b = record {
  number = b.number ∙ a.number;
  gained = b.gained ∙ ap (λ (l : List GroupTurn). l ++ more) a.gained ∙ append_assoc (own_turns p) first more;
}

module _ (machines : ℕ → Machine) (group : SharedValue) where
  gains_turn : (old new : GroupPass) (call : Call) (answer : CallAnswer) → IsTaken machines group.lock old call answer new → Gains old new (turn_by old.number call answer ∷ [])
  gains_turn old new call answer taken = record { number = ap (λ (p : GroupPass). p.number) taken.turn.ended; gained = taken.gained }

  asked_turns : (named : Bool) (host : ℕ) (asked : Asked) (answer : PortAnswer) (old new : GroupPass) → Asks machines group named host asked answer old new
      → (mine : List GroupTurn) × IsAskTurn group old.number named host asked answer mine × Gains old new mine
  asked_turns true host asked answer old new a =
      let call = calls.Ask (host_no host) asked in
      (turn_by old.number call (told.Ask a.ask) ∷ [], (a.ask, refl, a.says), gains_turn old new call (told.Ask a.ask) a.taken)
  asked_turns false host asked answer old new a = ([], (a.0, refl), gains_none old new a.1)

  look_turns : (named : Bool) (host : ℕ) (here : Bool) (old new : GroupPass) → Looks machines group named host here old new
      → (mine : List GroupTurn) × IsLookTurn group old.number named host here mine × Gains old new mine
  look_turns true host here old new l =
      let call = calls.Here (host_no host) in
      (turn_by old.number call (told.Here here) ∷ [], refl, gains_turn old new call (told.Here here) l)
  look_turns false host here old new l = ([], (l.0, refl), gains_none old new l.1)

  exchange_turns : (e : Exchange) (old new : GroupPass) → Exchanges machines group old e new → (mine : List GroupTurn) × IsExchanged group old.number e mine × Gains old new mine
  exchange_turns (Request host key asked answer) old new x = asked_turns (names_group group key) host asked answer old new x
  exchange_turns (Look host key here) old new x = look_turns (names_group group key) host here old new x

  pub all_turns : (es : List Exchange) (old new : GroupPass) → Leads (Exchanges machines group) old es new
      → (turns : List GroupTurn) × AreExchanged group old.number es turns × Gains old new turns
  unfolding Leads AreExchanged
  all_turns [] old new a = ([], refl, gains_none old new a)
  all_turns (e ∷ es) old new a =
      let first = exchange_turns e old a.0 a.1 in
      let more = all_turns es a.0 new a.2 in (
        first.0 ++ more.0,
        (first.0, more.0, first.1, refl, subst (λ (n : ℕ). AreExchanged group n es more.0) first.2.number more.1),
        gains_both old a.0 new first.0 more.0 first.2 more.2,
      )
