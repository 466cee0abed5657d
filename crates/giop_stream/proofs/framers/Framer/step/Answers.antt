use Rattle.std.proofs.Common.{◌≡◌, Option, Some, Ok, sym, subst}
use Rattle.giop_stream.specs.Parts.{Received}
use Rattle.giop_stream.specs.Steps.{Took}
use Rattle.giop_stream.proofs.FrameLaws.{stepped_joins, stepped_gives}
use Rattle.giop_stream.proofs.framers.Framer.step.Goals as goal

pub returns-in-Ok-Some : goal.returns-in-Ok-Some
returns-in-Ok-Some c =
    let P : Option Received → Type 0 = λ o. Took (Ok o) c.look.new.self c.in-Whole.head c.take.new.self in
    let given : c.in-Ok-Some.field-0 ≡ Some c.in-Ok-Some.message = cc in
    stepped_gives c.args.self.now c.look.new.self c.take.new.self c.in-Whole.head c.in-Ok-Some.message c.requires (sym c.in-Whole.ensures.value)
    c.in-Whole.ensures.looked (subst P given c.in-Ok-Some.ensures)

pub returns-in-Ok-None : goal.returns-in-Ok-None
returns-in-Ok-None c =
    let P : Option Received → Type 0 = λ o. Took (Ok o) c.look.new.self c.in-Whole.head c.take.new.self in
    stepped_joins c.args.self.now c.look.new.self c.take.new.self c.in-Whole.head c.requires (sym c.in-Whole.ensures.value)
    c.in-Whole.ensures.looked (subst P c.in-Ok-None.field-0-is c.in-Ok-None.ensures)
