use Rattle.std.proofs.Common.{◌++◌, ◌∙◌, Global, List, Vec, ℕ, ap, arith, sym}
use Rattle.std.specs.Prelude.{map}
use Rattle.std.specs.List.{filter, range_with_len}
use Rattle.group_looks.specs.declared.figures.Figure.{Figure}
use Rattle.group_looks.specs.Looks.{figure_of, is_former}
use Rattle.group_looks.proofs.Looking.{formers_are, formers_more, formers_same, one_more_is}
use Rattle.group_looks.proofs.figures.push_formers.Goals.{then-is_former+in_ok-figure+in_ok-push, else-is_former}
use Rattle.group_looks.proofs.figures.push_formers.Goals as goal

pub loop-host-preserved : goal.loop-host-preserved
loop-host-preserved g c = λ group stands.
    let f = figure_of (g.S.Servant.machine group.common.kind) group in
    let p = is_former group in
    let host = c.loop-host.host in
    elim c.if-is_former.branch [
      | then-is_former+in_ok-figure+in_ok-push w ↦
          one_more_is f c.args.figures.now.items c.loop-host.figures.items c.if-is_former.figures.items (filter p (range_with_len 0 host)) host w.in_ok-figure.figure
          (c.loop-host.invariant group stands) (w.in_ok-figure.ensures group stands) (ap (λ (v : Vec Figure Global). v.items) w.figures-is ∙ w.in_ok-push.ensures.items)
          ∙ ap (λ (l : List ℕ). c.args.figures.now.items ++ map f l) (sym (formers_more p host (sym (c.is_former.ensures group stands) ∙ w.if-is_former.true)))
      | else-is_former w ↦
          ap (λ (v : Vec Figure Global). v.items) w.figures-is ∙ c.loop-host.invariant group stands
          ∙ ap (λ (l : List ℕ). c.args.figures.now.items ++ map f l) (sym (formers_same p host (sym (c.is_former.ensures group stands) ∙ w.if-is_former.false)))
    ]

pub returns : goal.returns
returns g c = λ group stands.
    c.loop-host.invariant group stands
    ∙ ap (λ (l : List ℕ). c.args.figures.now.items ++ map (figure_of (g.S.Servant.machine group.common.kind) group) l)
    (formers_are group c.loop-host.host (omega (arith, c.loop-host.auto.host-end, c.loop-host-test.false)))
