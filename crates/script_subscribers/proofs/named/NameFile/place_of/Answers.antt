use Rattle.std.proofs.Common.{◌≡◌, Some, length, refl, ap, sym, subst, ◌∙◌}
use Rattle.std.specs.List.{position}
use Rattle.std.proofs.lemmas.Option.{slice_get_read}
use Rattle.name_places.specs.Places.{first_place}
use Rattle.script_subscribers.specs.Filing.{Filed, names_of}
use Rattle.script_subscribers.specs.Firsts.{has}
use Rattle.script_subscribers.proofs.Placing.{here, nowhere, within}
use Rattle.script_subscribers.proofs.named.NameFile.place_of.Goals as goal

pub returns-in_err-first-clause-place : goal.returns-in_err-first-clause-place
returns-in_err-first-clause-place c =
    c.from_residual.ensures ∙ sym (nowhere c.args.name.now c.args.self.now.all (sym c.in_err-first.ensures.place))

pub returns-then-is_by-clause-place : goal.returns-then-is_by-clause-place
returns-then-is_by-clause-place c =
    let items = c.self.inside.items.items in
    let name = c.args.name.now in
    let first = c.in_ok-first.first in
    let placed = ap (λ (f : Filed). first_place name (names_of f.all)) c.self.view_is ∙ sym c.in_ok-first.ensures.place in
    let at = slice_get_read items (length items) first c.index.result.now refl (within name first items placed) c.index.ensures in
    subst (λ (f : Filed). Some first ≡ position (has name) f.all) c.self.view_is
    (sym (here name first items c.index.result.now placed at (sym c.is_by.ensures ∙ c.if-is_by.true)))
