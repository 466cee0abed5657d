use Rattle.std.proofs.Common.{sym, ap, ◌∙◌, [], None}
use Rattle.std.specs.List.{position}
use Rattle.script_subscribers.specs.Filing.{Filed}
use Rattle.script_subscribers.specs.Firsts.{has, first_sub}
use Rattle.script_subscribers.specs.declared.named.Named.{Named}
use Rattle.script_subscribers.proofs.Finding.{found, missing}
use Rattle.script_subscribers.proofs.named.NameFile.sub_of.Goals as goal

pub returns-in_err-place : goal.returns-in_err-place
returns-in_err-place c =
    c.from_residual.ensures
    ∙ sym (missing (λ z. z) c.args.name.now (record { name = []; sub = None }) c.args.self.now.all (sym c.in_err-place.ensures.place)).0

pub returns : goal.returns
returns c =
    let same = ap (λ (f : Filed). f.all) c.self.view_is in
    ap (λ (z : Named). z.sub) c.index.ensures
    ∙ sym (found (λ z. z) c.args.name.now c.index.result.now c.self.inside.items.items c.in_ok-place.place
    (ap (position (has c.args.name.now)) same ∙ sym c.in_ok-place.ensures.place)).0
    ∙ ap (first_sub c.args.name.now) same
