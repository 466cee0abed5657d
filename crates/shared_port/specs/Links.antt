-- A link to a host of a group behind a lock.
use Rattle.std.specs.Prelude.{◌≡◌, ℕ, List, ◌++◌}
use Rattle.ft_base.specs.Machine.{Machine}
use Rattle.hist_lock.specs.Passes.{own_turns}
use Rattle.link_serving.specs.Serving.{IsVisited}
use Rattle.link_serving.specs.Wires.{Wire}
use Rattle.link_serving.specs.declared.serving.Visit.{Visit}
use Rattle.shared_group.specs.Turns.{GroupPass, SharedValue}
use Rattle.shared_port.specs.Turns.{AreExchanged, Exchanges, GroupTurn, Moves}

-- A link was served, and what was exchanged with the group so that its messages could be answered are the turns that its
-- pass gained; however the link was left, the pass had all its further turns at this host.
pub record IsLinkServed (machines : ℕ → Machine) (group : SharedValue) (host : ℕ) (p : GroupPass) (w : Wire) (q : GroupPass) (v : Wire) (visit : Visit) : Type 0 where
  pub link : IsVisited (Exchanges machines group) host p w q v visit
  pub turns : List GroupTurn
  pub gained : own_turns link.served.at ≡ own_turns p ++ turns
  pub exchanged : AreExchanged group p.number link.served.served.turns turns
  pub moves : Moves host p q
