use Rattle.std.proofs.Common.{sym, ap, ◌∙◌, set, [], None}
use Rattle.std.specs.List.{position}
use Rattle.name_places.specs.Places.{first_place}
use Rattle.script_subscribers.specs.Filing.{Filed, names_of}
use Rattle.script_subscribers.specs.Firsts.{has, change_first, without_sub}
use Rattle.script_subscribers.specs.declared.named.Named.{Named}
use Rattle.script_subscribers.proofs.Finding.{found, missing}
use Rattle.script_subscribers.proofs.Placing.{names_stay}
use Rattle.script_subscribers.proofs.named.NameFile.leave.Goals as goal

pub invariant_of-self : goal.invariant_of-self
invariant_of-self c =
    let items = c.self.inside.items.items in
    let left =
    ap (λ (z : Named). set items c.in-Some.place (without_sub z)) c.index_mut.ensures.value
    ∙ sym (found without_sub c.args.name.now c.index_mut.result.now items c.in-Some.place
    (ap (λ (f : Filed). position (has c.args.name.now) f.all) c.self.view_is ∙ sym c.in-Some.ensures.place)).1 in
    (λ name. c.self.invariant.0 name ∙ ap (first_place name) (sym (ap names_of left ∙ names_stay c.args.name.now items)), c.self.invariant.1)

pub returns-in-Some : goal.returns-in-Some
returns-in-Some c =
    let items = c.self.inside.items.items in
    ap (λ (z : Named). set items c.in-Some.place (without_sub z)) c.index_mut.ensures.value
    ∙ sym (found without_sub c.args.name.now c.index_mut.result.now items c.in-Some.place
    (ap (λ (f : Filed). position (has c.args.name.now) f.all) c.self.view_is ∙ sym c.in-Some.ensures.place)).1
    ∙ ap (λ (f : Filed). change_first without_sub c.args.name.now f.all) c.self.view_is

pub returns-in_default : goal.returns-in_default
returns-in_default c =
    sym (missing without_sub c.args.name.now (record { name = []; sub = None }) c.args.self.now.all (sym c.in_default.ensures.place)).1
