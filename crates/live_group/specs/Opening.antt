-- The group of a live run at its opening.
use Rattle.std.specs.Prelude.{ℕ, List}
use Rattle.std.specs.List.{range_with_len}
use Rattle.ft_base.specs.declared.views.Style.{Style}
use Rattle.group_model.specs.Openings.{opening_group}
use Rattle.group_model.specs.Plain.{Group}

-- so many hosts, from 0 on
abbrev pub first_hosts : ℕ → List ℕ
first_hosts count = range_with_len 0 count

-- group 1, whose first view has all of so many hosts
abbrev pub live_opening : Style → ℕ → List ℕ → ℕ → Group
live_opening style kind state hosts = opening_group 1 style kind state (first_hosts hosts)
