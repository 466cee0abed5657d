use Rattle.script_groups.proofs.Shown.{shown_is}
use Rattle.script_groups.proofs.laws.shown_are_views.Goals as goal

pub returns : goal.returns
returns c = shown_is
