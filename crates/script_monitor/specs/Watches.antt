-- The watched members as a list, each of them once, the one that was told of last first. It says the same as the
-- function from groups and hosts (`watch_of`), and can be a field of a larger value.
use Rattle.std.specs.Prelude.{ℕ, ◌&&◌, not, Bool, nat_eq, if◌then◌else◌, List, [], ◌∷◌, Option, Some, None, option_map}
use Rattle.std.specs.List.{filter}
use Rattle.fault_monitor.specs.Watching.{Watch, Watched, Heard, numbered, hears}

-- a member, by its group and host, with all that was heard of it
pub record Watching : Type 0 where
  pub group : ℕ
  pub host : ℕ
  pub watched : Watched

abbrev pub Watches : Type 0
Watches = List Watching

abbrev pub nobody : Watches
nobody = []

abbrev pub is_of : ℕ → ℕ → Watching → Bool
is_of group host w = nat_eq w.group group && nat_eq w.host host

-- what was heard of the member of a group at a host, where it is watched
unfoldable pub member_at : Watches → ℕ → ℕ → Option Watched
member_at [] group host = None
member_at (w ∷ ws) group host = if is_of group host w then Some w.watched else member_at ws group host

abbrev pub watch_of : Watches → Watch
watch_of ws group host = member_at ws group host

unfoldable pub without : Watches → ℕ → ℕ → Watches
without ws group host = filter (λ w. not (is_of group host w)) ws

-- one member's in place of what is there
unfoldable pub with_member : Watches → ℕ → ℕ → Option Watched → Watches
with_member ws group host None = without ws group host
with_member ws group host (Some w) = record { group = group; host = host; watched = w } ∷ without ws group host

-- watched from now on, or again with other numbers: what was heard stays
abbrev pub watched : Watches → ℕ → ℕ → ℕ → ℕ → Watches
watched ws group host interval timeout =
    with_member ws group host (Some (numbered (member_at ws group host) interval timeout))

-- something more is heard of a member, where it is watched
abbrev pub told : Watches → ℕ → ℕ → Heard → Watches
told ws group host what = with_member ws group host (option_map (hears what) (member_at ws group host))
