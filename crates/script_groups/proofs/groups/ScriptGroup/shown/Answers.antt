use Rattle.std.proofs.Common.{◌≡◌, IfOk, List, ℕ, subst, sym}
use Rattle.group_looks.specs.Looks.{AreFigures}
use Rattle.group_looks.specs.Showing.{shown_of}
use Rattle.shipped_servants.specs.Kinds.{machine_of_kind}
use Rattle.script_groups.specs.Groups.{group_of, machine_of}
use Rattle.script_groups.proofs.groups.ScriptGroup.shown.Goals as goal

pub figures_of-requires : goal.figures_of-requires
figures_of-requires c = (group_of c.args.self.now, c.core.ensures.core_stands)

pub returns : goal.returns
returns c =
    let group = c.args.self.now in
    let figures = c.in_ok-figures.ensures (group_of group) c.core.ensures.core_stands in
    let are = subst (λ (kind : ℕ). AreFigures (machine_of_kind kind) (group_of group) c.in_ok-figures.figures) c.core.ensures.kind figures in
    subst (λ (name : List ℕ). IfOk c.show_lines.result (λ report. report ≡ shown_of name (machine_of group) (group_of group))) c.name.ensures
    (c.show_lines.ensures (machine_of group) (group_of group) (sym c.style.ensures) are)
