-- What a contract sees of a host of a group, and when that stands for the plain group's host.
use Rattle.std.specs.Prelude.{◌≡◌, ℕ, Bool, List, [], if◌then◌else◌}
use Rattle.ft_base.specs.Machine.{Machine}
use Rattle.ft_base.specs.declared.views.Style.{Style}
use Rattle.message_log.specs.Picture.{Picture as LogPicture}
use Rattle.ft_replica.specs.Picture.{Picture as ReplicaPicture, opened, blanked}
use Rattle.group_model.specs.Plain.{Common, Host}
use Rattle.group_model.specs.Agreeing.{IsSoundHost}
use Rattle.group_stands.specs.Holding.{HeldOrder, HoldStands}
use Rattle.group_stands.specs.Stands.{LogStands, ReplicaStands, OpeningStands}

pub record HostPicture : Type 0 where
  pub up : Bool
  -- the version of the newest view of which it heard, or 0
  pub known : ℕ
  pub replica : ReplicaPicture
  -- the orders that it holds back
  pub held : List HeldOrder

-- a host as a group opens: with the opening state, or blank
abbrev pub opening_replica : ℕ → List ℕ → Bool → ReplicaPicture
opening_replica kind state loaded = if loaded then opened kind state else blanked (opened kind state)

abbrev pub opening_picture : ℕ → List ℕ → Host → HostPicture
opening_picture kind state h =
    record { up = h.up; known = h.known; replica = opening_replica kind state h.place.loaded; held = [] }

-- it knows nothing, has no state, and holds nothing back
abbrev pub forgotten : Bool → HostPicture → HostPicture
forgotten up host = record { up = up; known = 0; replica = blanked host.replica; held = [] }

-- The picture stands for a host of a group: as to whether it is up, what it knows, where its servant stands, and
-- the orders that it holds back.
pub record HostStands (machines : ℕ → Machine) (c : Common) (host : HostPicture) (h : Host) : Type 0 where
  pub up : host.up ≡ h.up
  pub known : host.known ≡ h.known
  pub replica : ReplicaStands machines c host.replica h.place
  pub held : HoldStands c.journal c.ran h.place.position h.holdback host.held

-- what a host works with: its group's style, the kind and the state of the servant with which that was made, and
-- the group's log
pub record Shared : Type 0 where
  pub style : Style
  pub kind : ℕ
  pub opening : List ℕ
  pub log : LogPicture

abbrev pub shared : Style → ℕ → List ℕ → LogPicture → Shared
shared style kind opening log = record { style = style; kind = kind; opening = opening; log = log }

-- This and a host stand for a group's common part and for one of its hosts, which are sound.
pub record IsHere (machines : ℕ → Machine) (c : Common) (h : Host) (s : Shared) (picture : HostPicture) : Type 0 where
  pub style : s.style ≡ c.style
  pub opening : OpeningStands c s.kind s.opening
  pub log : LogStands machines c s.log
  pub host : HostStands machines c picture h
  pub sound : IsSoundHost c h
