-- What is exchanged with a group behind a lock, as turns of the pass that exchanged it.
use Rattle.std.specs.Prelude.{◌≡◌, ℕ, Bool, false, true, List, [], ◌∷◌, ◌++◌}
use Rattle.std.specs.List.{AllByRecursion}
use Rattle.ft_base.specs.Machine.{Machine}
use Rattle.group_model.specs.declared.asking.Asked.{Asked}
use Rattle.group_model.specs.Views.{host_no}
use Rattle.hist_lock.specs.declared.standings.Turn.{Turn}
use Rattle.hist_lock.specs.Histories.{turn_by}
use Rattle.hist_lock.specs.Passes.{own_turns}
use Rattle.host_server.specs.declared.answers.PortAnswer.{PortAnswer}
use Rattle.host_server.specs.declared.answers.PortAnswer.TheVariants as port_answers
use Rattle.link_session.specs.Exchanges.{Exchange, Exchanging, Look, Request}
use Rattle.shared_group.specs.declared.calls.AskAnswer.{AskAnswer}
use Rattle.shared_group.specs.declared.calls.Call.{Call}
use Rattle.shared_group.specs.declared.calls.Call.TheVariants as calls
use Rattle.shared_group.specs.declared.calls.CallAnswer.{CallAnswer}
use Rattle.shared_group.specs.declared.calls.CallAnswer.TheVariants as told
use Rattle.shared_group.specs.Turns.{GroupPass, IsTaken, SharedValue}
use Rattle.shared_port.specs.Answers.{Says, names_group, port_answer}

-- ---- one exchange

module _ (machines : ℕ → Machine) (group : SharedValue) where
  -- the pass had a turn in which the request was asked, and this was said of what it was told
  pub record IsAsked (host : ℕ) (asked : Asked) (answer : PortAnswer) (old new : GroupPass) : Type 0 where
    pub ask : AskAnswer
    pub taken : IsTaken machines group.lock old (calls.Ask (host_no host) asked) (told.Ask ask) new
    pub says : Says (port_answer group ask) answer

  -- a request for an object that isn't the group is no turn, and neither is a look for one
  abbrev pub Asks : Bool → ℕ → Asked → PortAnswer → GroupPass → GroupPass → Type 0
  Asks true host asked answer old new = IsAsked host asked answer old new
  Asks false host asked answer old new = (answer ≡ port_answers.NoGroup) × (new ≡ old)

  abbrev pub Looks : Bool → ℕ → Bool → GroupPass → GroupPass → Type 0
  Looks true host here old new = IsTaken machines group.lock old (calls.Here (host_no host)) (told.Here here) new
  Looks false host here old new = (here ≡ false) × (new ≡ old)

  abbrev pub Exchanges : Exchanging GroupPass
  Exchanges old (Request host key asked answer) new = Asks (names_group group key) host asked answer old new
  Exchanges old (Look host key here) new = Looks (names_group group key) host here old new

-- ---- exchanges and turns

abbrev pub GroupTurn : Type 0
GroupTurn = Turn Call CallAnswer

module _ (group : SharedValue) (number : ℕ) where
  abbrev pub IsAskTurn : Bool → ℕ → Asked → PortAnswer → List GroupTurn → Type 0
  IsAskTurn true host asked answer turns =
      (ask : AskAnswer) × (turns ≡ turn_by number (calls.Ask (host_no host) asked) (told.Ask ask) ∷ []) × Says (port_answer group ask) answer
  IsAskTurn false host asked answer turns = (answer ≡ port_answers.NoGroup) × (turns ≡ [])

  abbrev pub IsLookTurn : Bool → ℕ → Bool → List GroupTurn → Type 0
  IsLookTurn true host here turns = turns ≡ turn_by number (calls.Here (host_no host)) (told.Here here) ∷ []
  IsLookTurn false host here turns = (here ≡ false) × (turns ≡ [])

  -- what is exchanged is what one turn under this number asked and was told, or it is no turn
  abbrev pub IsExchanged : Exchange → List GroupTurn → Type 0
  IsExchanged (Request host key asked answer) turns = IsAskTurn (names_group group key) host asked answer turns
  IsExchanged (Look host key here) turns = IsLookTurn (names_group group key) host here turns

  unfoldable pub AreExchanged : List Exchange → List GroupTurn → Type 0
  AreExchanged [] turns = turns ≡ []
  AreExchanged (e ∷ es) turns = (mine rest : List GroupTurn) × IsExchanged e mine × (turns ≡ mine ++ rest) × AreExchanged es rest

-- ---- what a pass does at a host

-- a turn in which a request was asked at this host, with clock 0 and no stop, or in which it was looked there
abbrev pub IsCallAt : ℕ → Call → Type 0
IsCallAt host (calls.Act e) = ⊥
IsCallAt host (calls.Ask at asked) = at.0 ≡ host
IsCallAt host calls.Carry = ⊥
IsCallAt host (calls.Checkpoint clock) = ⊥
IsCallAt host (calls.Here at) = at.0 ≡ host
IsCallAt host calls.Figures = ⊥
IsCallAt host (calls.Reply key) = ⊥

-- The pass is the one that it was, and has seen more; its new turns are all at this host.
pub record Moves (host : ℕ) (old new : GroupPass) : Type 0 where
  pub lock : new.lock ≡ old.lock
  pub number : new.number ≡ old.number
  pub rest : List GroupTurn
  pub seen : new.seen ≡ old.seen ++ rest
  pub mine : List GroupTurn
  pub gained : own_turns new ≡ own_turns old ++ mine
  pub calls : AllByRecursion (λ turn. IsCallAt host turn.event) mine
