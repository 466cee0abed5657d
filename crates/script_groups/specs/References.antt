-- References of a script's groups.
use Rattle.std.specs.Prelude.{ℕ, Option, option_map}
use Rattle.ft_base.specs.declared.views.View.{View}
use Rattle.iogr_reference.specs.declared.references.GroupRef.{GroupRef}
use Rattle.iogr_reference.specs.declared.references.Ior.{Ior}
use Rattle.iogr_reference.specs.Views.{reference_of, group_of_view, plain_reference}
use Rattle.host_ports.specs.Ports.{all_ports}
use Rattle.group_model.specs.Views.{newest_view}
use Rattle.shipped_servants.specs.Kinds.{type_id}
use Rattle.group_core.specs.Telling.{shown_view}
use Rattle.script_groups.specs.Groups.{ScriptGroup, common_of}

-- of a view of the group
abbrev pub reference_in : ScriptGroup → View → GroupRef
reference_in g view = group_of_view g.id (type_id g.kind) view all_ports

abbrev pub newest_reference : ScriptGroup → GroupRef
newest_reference g = reference_in g (newest_view (common_of g))

-- of the view of a version, where the group has had it
abbrev pub reference_at : ScriptGroup → ℕ → Option GroupRef
reference_at g version = option_map (reference_in g) (shown_view (common_of g) version)

-- the same as it goes over a link
abbrev pub ior_in : ScriptGroup → View → Ior
ior_in g view = reference_of g.id (type_id g.kind) view all_ports

abbrev pub ior_at : ScriptGroup → ℕ → Option Ior
ior_at g version = option_map (ior_in g) (shown_view (common_of g) version)

abbrev pub newest_ior : ScriptGroup → Ior
newest_ior g = ior_in g (newest_view (common_of g))

-- the plain one of the member on a host
abbrev pub member_ior : ScriptGroup → ℕ → Ior
member_ior g host = plain_reference g.id (type_id g.kind) host all_ports
