-- What a contract sees of a group's core, and when that stands for the plain group.
use Rattle.std.specs.Prelude.{◌≡◌, ℕ, List, length, slice_get, Some}
use Rattle.ft_base.specs.Machine.{Machine}
use Rattle.ft_base.specs.declared.limits.TheConstants.{HOST_LIMIT}
use Rattle.ft_base.specs.declared.views.Style.{Style}
use Rattle.message_log.specs.Picture.{Picture as LogPicture}
use Rattle.group_model.specs.Agreeing.{IsSound}
use Rattle.group_model.specs.Plain.{Group}
use Rattle.group_stands.specs.Stands.{LogStands, OpeningStands}
use Rattle.group_hosts.specs.Hosts.{HostPicture, HostStands}

pub record CorePicture : Type 0 where
  -- the group's number
  pub id : ℕ
  pub style : Style
  -- the kind and the state of the servant with which the group was made
  pub kind : ℕ
  pub opening : List ℕ
  -- the version of the first view that it still has
  pub first_kept : ℕ
  pub log : LogPicture
  -- by number
  pub hosts : List HostPicture

-- It stands for a sound group: its log for what the hosts share, and each of its hosts for the group's host of
-- that number.
pub record Stands (machines : ℕ → Machine) (core : CorePicture) (g : Group) : Type 0 where
  pub id : core.id ≡ g.common.id
  pub style : core.style ≡ g.common.style
  pub opening : OpeningStands g.common core.kind core.opening
  pub first_kept : core.first_kept ≡ g.common.first_kept
  pub log : LogStands machines g.common core.log
  pub count : length core.hosts ≡ HOST_LIMIT
  pub hosts : (i : ℕ) (host : HostPicture) → slice_get core.hosts i ≡ Some host → HostStands machines g.common host (g.hosts i)
  pub sound : IsSound (machines g.common.kind) g
