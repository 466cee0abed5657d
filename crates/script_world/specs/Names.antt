-- The names of groups and of clients, in the order in which these were made.
use Rattle.std.specs.Prelude.{ℕ, List, map}
use Rattle.script_clients.specs.Clients.{Client}
use Rattle.script_groups.specs.Groups.{ScriptGroup}

abbrev pub names_of : List Client → List (List ℕ)
names_of clients = map (λ (c : Client). c.name) clients

abbrev pub group_names : List ScriptGroup → List (List ℕ)
group_names groups = map (λ (g : ScriptGroup). g.name) groups
