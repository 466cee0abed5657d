-- What a pass does while a link to a host is served.
use Rattle.std.proofs.Common.{◌≡◌, ℕ, Bool, true, false, List, [], ◌∷◌, ◌++◌, refl, sym, subst, ap, ◌∙◌, append-nil, append_assoc, inl, inr}
use Rattle.std.specs.List.{AllByRecursion}
use Rattle.ft_base.specs.Machine.{Machine}
use Rattle.giop_stream.specs.Parts.{Received}
use Rattle.giop_stream.specs.Sessions.{Session}
use Rattle.group_model.specs.declared.asking.Asked.{Asked}
use Rattle.group_model.specs.Views.{host_no}
use Rattle.hist_lock.specs.Histories.{turn_by}
use Rattle.hist_lock.specs.Passes.{own_turns}
use Rattle.host_server.specs.declared.answers.PortAnswer.{PortAnswer}
use Rattle.host_server.specs.declared.answers.PortAnswer.TheVariants as port_answers
use Rattle.link_session.specs.declared.calls.Calling.{Calling}
use Rattle.link_session.specs.declared.calls.Calling.TheVariants as callings
use Rattle.link_session.specs.Calls.{calling_of}
use Rattle.link_session.specs.Exchanges.{Exchange, Leads}
use Rattle.link_session.specs.Serving.{AreTurns, IsDown, IsShort, Takes}
use Rattle.link_serving.specs.declared.ends.Ended.{Ended}
use Rattle.link_serving.specs.declared.ends.Ended.TheVariants as ends
use Rattle.link_serving.specs.declared.serving.Visit.{Visit}
use Rattle.link_serving.specs.Serving.{IsCutShort, IsVisited, Leaves}
use Rattle.link_serving.specs.Wires.{Wire}
use Rattle.shared_group.specs.declared.calls.Call.{Call}
use Rattle.shared_group.specs.declared.calls.Call.TheVariants as calls
use Rattle.shared_group.specs.declared.calls.CallAnswer.{CallAnswer}
use Rattle.shared_group.specs.declared.calls.CallAnswer.TheVariants as told
use Rattle.shared_group.specs.Turns.{GroupPass, IsTaken, SharedValue}
use Rattle.shared_port.specs.Answers.{names_group}
use Rattle.shared_port.specs.Links.{IsLinkServed}
use Rattle.shared_port.specs.Turns.{Asks, Exchanges, GroupTurn, IsCallAt, Looks, Moves}
use Rattle.shared_port.proofs.Turning.{all_turns}

module _ (host : ℕ) where
  moves_not : (p q : GroupPass) → q ≡ p → Moves host p q
  moves_not p q same = record {
    lock = ap (λ (x : GroupPass). x.lock) same;
    number = ap (λ (x : GroupPass). x.number) same;
    rest = [];
    seen = ap (λ (x : GroupPass). x.seen) same ∙ sym (append-nil p.seen);
    mine = [];
    gained = ap (λ (x : GroupPass). own_turns x) same ∙ sym (append-nil (own_turns p));
    calls = tt;
  }

  all_both : (xs ys : List GroupTurn) → AllByRecursion (λ turn. IsCallAt host turn.event) xs → AllByRecursion (λ turn. IsCallAt host turn.event) ys → AllByRecursion (λ turn. IsCallAt host turn.event) (xs ++ ys)
  all_both [] ys a b = b
  all_both (x ∷ xs) ys a b = (a.0, all_both xs ys a.1 b)

  moves_both : (p q r : GroupPass) → Moves host p q → Moves host q r → Moves host p r
  moves_both p q r a b = record {
    lock = b.lock ∙ a.lock;
    number = b.number ∙ a.number;
    rest = a.rest ++ b.rest;
    seen = b.seen ∙ ap (λ (l : List GroupTurn). l ++ b.rest) a.seen ∙ append_assoc p.seen a.rest b.rest;
    mine = a.mine ++ b.mine;
    gained = b.gained ∙ ap (λ (l : List GroupTurn). l ++ b.mine) a.gained ∙ append_assoc (own_turns p) a.mine b.mine;
    calls = all_both a.mine b.mine a.calls b.calls;
  }

  module _ (machines : ℕ → Machine) (group : SharedValue) where
    moves_once : (old new : GroupPass) (call : Call) (answer : CallAnswer) → IsCallAt host call → IsTaken machines group.lock old call answer new → Moves host old new
    moves_once old new call answer at taken =
        let t : GroupTurn = turn_by old.number call answer in
        let turn = taken.turn in
        let others = turn.others in
        record {
          lock = ap (λ (p : GroupPass). p.lock) turn.ended;
          number = ap (λ (p : GroupPass). p.number) turn.ended;
          rest = others.0 ++ t ∷ [];
          seen = ap (λ (p : GroupPass). p.seen) turn.ended ∙ ap (λ (l : List GroupTurn). l ++ t ∷ []) others.1 ∙ append_assoc old.seen others.0 (t ∷ []);
          mine = t ∷ [];
          gained = taken.gained;
          calls = (at, tt);
        }

    asks_move : (named : Bool) (asked : Asked) (answer : PortAnswer) (old new : GroupPass) → Asks machines group named host asked answer old new → Moves host old new
    asks_move true asked answer old new a = moves_once old new (calls.Ask (host_no host) asked) (told.Ask a.ask) refl a.taken
    asks_move false asked answer old new a = moves_not old new a.1

    looks_move : (named : Bool) (here : Bool) (old new : GroupPass) → Looks machines group named host here old new → Moves host old new
    looks_move true here old new l = moves_once old new (calls.Here (host_no host)) (told.Here here) refl l
    looks_move false here old new l = moves_not old new l.1

    -- ---- along the messages of a link

    abbrev Led : List Exchange → GroupPass → GroupPass → Type 0
    Led es old new = Leads (Exchanges machines group) old es new

    led_by : (c : Calling) (mine rest : List Exchange) (old new : GroupPass) → Takes host c mine → Led (mine ++ rest) old new
        → (mid : GroupPass) × Moves host old mid × Led rest mid new
    unfolding Leads
    led_by (callings.Ask id flags key asked) mine rest old new t a =
        let led = subst (λ (es : List Exchange). Led (es ++ rest) old new) t.2 a in (led.0, asks_move (names_group group key) asked t.0 old led.0 led.1, led.2)
    led_by (callings.Locate id key) mine rest old new t a =
        let led = subst (λ (es : List Exchange). Led (es ++ rest) old new) t.1 a in (led.0, looks_move (names_group group key) t.0 old led.0 led.1, led.2)
    led_by callings.Nothing mine rest old new t a = (old, moves_not old old refl, subst (λ (es : List Exchange). Led (es ++ rest) old new) t a)

    served_moves : (ms : List Received) (es : List Exchange) (old new : GroupPass) → AreTurns host ms es → Led es old new → Moves host old new
    unfolding Leads AreTurns
    served_moves [] es old new are a = moves_not old new (subst (λ (xs : List Exchange). Led xs old new) are a)
    served_moves (m ∷ ms) es old new are a =
        let led = led_by (calling_of m.0) are.0 are.1 old new are.2 (subst (λ (xs : List Exchange). Led xs old new) are.3 a) in
        moves_both old led.0 new led.1 (served_moves ms are.1 led.0 new are.4 led.2)

    -- ---- however it is left

    down_moves : (c : Calling) (at now : GroupPass) → IsDown (Exchanges machines group) host c at now → Moves host at now
    down_moves (callings.Ask id flags key asked) at now is = asks_move (names_group group key) asked port_answers.Down at now is
    down_moves (callings.Locate id key) at now is = absurd is
    down_moves callings.Nothing at now is = absurd is

    short_moves : (c : Calling) (at now : GroupPass) → IsShort (Exchanges machines group) host c at now → Moves host at now
    short_moves (callings.Ask id flags key asked) at now (inl same) = moves_not at now same
    short_moves (callings.Ask id flags key asked) at now (inr turn) = asks_move (names_group group key) asked turn.0 at now turn.2
    short_moves (callings.Locate id key) at now (inl same) = moves_not at now same
    short_moves (callings.Locate id key) at now (inr look) = looks_move (names_group group key) look.0 at now look.1
    short_moves callings.Nothing at now same = moves_not at now same

    cut_moves : (more : Session) (at now : GroupPass) → IsCutShort (Exchanges machines group) host more at now → Moves host at now
    cut_moves more at now (inl same) = moves_not at now same
    cut_moves more at now (inr cut) = short_moves (calling_of cut.0.0) at now cut.3

    leaves_move : (ended : Ended) (more : Session) (all : Type 0) (written : List ℕ) (at now : GroupPass) (w v : Wire)
        → Leaves (Exchanges machines group) host ended more all written at now w v → Moves host at now
    leaves_move ends.Closed more all written at now w v leaves = moves_not at now leaves.1
    leaves_move (ends.Malformed why place) more all written at now w v leaves = moves_not at now leaves.1
    leaves_move (ends.TooLarge size) more all written at now w v leaves = moves_not at now leaves.1
    leaves_move ends.ReadFault more all written at now w v leaves = moves_not at now leaves.1
    leaves_move ends.WriteFault more all written at now w v leaves = moves_not at now leaves.3
    leaves_move ends.Down more all written at now w v leaves = down_moves (calling_of leaves.0.0) at now leaves.3
    leaves_move ends.NoMemory more all written at now w v leaves = cut_moves more at now leaves.0

    link_served : (p q : GroupPass) (w v : Wire) (visit : Visit) → IsVisited (Exchanges machines group) host p w q v visit → IsLinkServed machines group host p w q v visit
    link_served p q w v visit link =
        let served = link.served in
        let messages = served.served in
        let turns = all_turns machines group messages.turns p served.at messages.leads in
        record {
          link = link;
          turns = turns.0;
          gained = turns.2.gained;
          exchanged = turns.1;
          moves = moves_both p served.at q (served_moves served.given messages.turns p served.at messages.take messages.leads)
              (leaves_move visit.ended served.more _ served.written served.at q w v served.leaves);
        }

-- the same, where the port is seen as the group
pub group_link_served : (host : ℕ) (machines : ℕ → Machine) (port group : SharedValue) {p q : GroupPass} {w v : Wire} {visit : Visit} → port ≡ group
    → IsVisited (Exchanges machines port) host p w q v visit → IsLinkServed machines group host p w q v visit
group_link_served host machines port group {p} {q} {w} {v} {visit} same link =
    subst (λ (g : SharedValue). IsLinkServed machines g host p w q v visit) same (link_served host machines port p q w v visit link)
