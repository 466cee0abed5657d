-- What a group is like: its figures.
use Rattle.std.specs.Prelude.{◌≡◌, ℕ, ◌&&◌, not, if◌then◌else◌, Bool, List, ◌++◌, map, length, Option, Some, None}
use Rattle.std.specs.List.{filter, range_with_len}
use Rattle.ft_base.specs.Machine.{Machine}
use Rattle.ft_base.specs.Members.{is_member}
use Rattle.ft_base.specs.declared.limits.TheConstants.{HOST_LIMIT}
use Rattle.group_model.specs.Plain.{Common, Group, Place, state_at}
use Rattle.group_model.specs.Views.{host_no, newest_view, version}
use Rattle.group_looks.specs.declared.figures.Figure.{Figure}
use Rattle.group_looks.specs.declared.figures.Figures.{Figures}

module _ (m : Machine) where
  -- the position and the state of a servant, where there is one
  abbrev pub standing : Common → Place → Option (ℕ × List ℕ)
  standing c place = if place.loaded then Some (place.position, state_at m c place.position) else None

  abbrev pub figure_of : Group → ℕ → Figure
  figure_of g host = record {
    host = host_no host;
    up = (g.hosts host).up;
    known = version (g.hosts host).known;
    at = standing g.common (g.hosts host).place;
  }

-- a host that is no member, and has a servant still
abbrev pub is_former : Group → ℕ → Bool
is_former g host = not (is_member host (newest_view g.common).members) && (g.hosts host).place.loaded

unfoldable pub formers : Group → List ℕ
formers g = filter (is_former g) (range_with_len 0 HOST_LIMIT)

-- the members in order of joining, and then those that were members, by number
pub record AreFigures (m : Machine) (g : Group) (figures : Figures) : Type 0 where
  pub view : figures.view ≡ newest_view g.common
  pub entries : figures.entries ≡ length g.common.journal
  pub mark : figures.mark ≡ g.common.mark
  pub time : figures.time.0 ≡ g.common.time
  pub hosts : figures.hosts.items ≡ map (figure_of m g) (newest_view g.common).members ++ map (figure_of m g) (formers g)
