-- What a live run prints.
use Rattle.std.specs.Prelude.{◌≡◌, ℕ, List, ◌++◌, codes}
use Rattle.std.specs.List.{flat_map}
use Rattle.ft_base.specs.Machine.{Machine}
use Rattle.group_core.specs.Cores.{CorePicture, Stands}
use Rattle.group_looks.specs.Showing.{shown_of}
use Rattle.group_model.specs.Plain.{Group}
use Rattle.group_stands.specs.Replying.{held_reply}
use Rattle.ft_report.specs.Report.{report_text}
use Rattle.client_calls.specs.declared.answers.Told.{Told}
use Rattle.live_clients.specs.Clients.{live_key}
use Rattle.live_lines.specs.Lines.{Replied, told_lines}

-- the replies that a group holds to the calls of a run's clients
abbrev pub held_replies : Machine → Group → Replied
held_replies m g client call = held_reply m g.common (live_key client call)

-- the replies of the group for which a core stands
pub record AreHeld (machines : ℕ → Machine) (core : CorePicture) (replied : Replied) : Type 0 where
  pub group : Group
  pub stands : Stands machines core group
  pub replies : replied ≡ held_replies (machines group.common.kind) group

-- the name of a run's group
abbrev pub group_name : List ℕ
group_name = codes "bank"

-- what `show bank` prints
abbrev pub show_text : Machine → Group → List ℕ
show_text m g = flat_map report_text (shown_of group_name m g)

-- a line for each call of each client, which says so where its end isn't the group's reply; and then the group
abbrev pub live_text : Machine → Group → List Told → List ℕ
live_text m g tolds = told_lines (held_replies m g) 0 tolds ++ show_text m g
