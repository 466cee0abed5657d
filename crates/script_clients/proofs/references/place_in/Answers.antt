use Rattle.std.proofs.Common.{Bool, ap, ◌∙◌, sym, position}
use Rattle.iogr_reference.specs.declared.references.GroupRef.{GroupRef as AReference}
use Rattle.script_clients.specs.Clients.{is_of}
use Rattle.script_clients.proofs.Parts.{at_first, at_second, at_neither}
use Rattle.script_clients.proofs.references.place_in.Goals as goal

pub returns-in-Some : goal.returns-in-Some
returns-in-Some c =
    let p : AReference → Bool = λ r. is_of c.args.group r in
    at_first p _ _ c.in-Some.place (sym c.place_of.ensures.place ∙ c.in-Some.is) ∙ ap (position p) c.as_slices.ensures.items

pub returns-in-Some-place_of : goal.returns-in-Some-place_of
returns-in-Some-place_of c =
    let p : AReference → Bool = λ r. is_of c.args.group r in
    at_second p _ _ c.in-Some-place_of.place (sym c.place_of.ensures.place ∙ c.in-None.is) (sym c.place_of-in-None.ensures.place ∙ c.in-Some-place_of.is)
    ∙ ap (position p) c.as_slices.ensures.items

pub returns-in-None-place_of : goal.returns-in-None-place_of
returns-in-None-place_of c =
    let p : AReference → Bool = λ r. is_of c.args.group r in
    at_neither p _ _ (sym c.place_of.ensures.place ∙ c.in-None.is) (sym c.place_of-in-None.ensures.place ∙ c.in-None-place_of.is)
    ∙ ap (position p) c.as_slices.ensures.items
