-- The hosts with which a group opens, or goes on over a log that was opened again.
use Rattle.std.specs.Prelude.{◌≡◌, ℕ, true, List, length, slice_get, Option, Some, None, if◌then◌else◌}
use Rattle.ft_base.specs.declared.views.Style.{Style}
use Rattle.ft_base.specs.declared.views.View.{View}
use Rattle.ft_replica.specs.Picture.{Picture as ReplicaPicture}
use Rattle.group_model.specs.Openings.{opening_host}
use Rattle.group_model.specs.Plain.{blank}
use Rattle.group_hosts.specs.Hosts.{HostPicture, opening_picture}

-- so many, each as its number has it
pub record AreOpening (kind : ℕ) (state : List ℕ) (style : Style) (view : View) (hosts : List HostPicture) (so_many : ℕ) : Type 0 where
  pub count : length hosts ≡ so_many
  pub each : (i : ℕ) (host : HostPicture) → slice_get hosts i ≡ Some host → host ≡ opening_picture kind state (opening_host style view i)

-- so many, each blank
pub record AreBlank (kind : ℕ) (state : List ℕ) (hosts : List HostPicture) (so_many : ℕ) : Type 0 where
  pub count : length hosts ≡ so_many
  pub each : (i : ℕ) (host : HostPicture) → slice_get hosts i ≡ Some host → host ≡ opening_picture kind state (blank true)

-- a host's replica, where it is loaded
abbrev pub loaded_replica : HostPicture → Option ReplicaPicture
loaded_replica host = if host.replica.loaded then Some host.replica else None
