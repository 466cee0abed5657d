use Rattle.std.proofs.Common.{◌≡◌, ◌+◌, ◌-◌, length, arith}
use Rattle.script_pieces.proofs.Feedings.{kept_view}
use Rattle.script_pieces.proofs.feeding.Pieces.keep.Goals as goal

pub returns-clause-kept : goal.returns-clause-kept
returns-clause-kept c =
    let full : length c.self.inside.begun.items + (4097 - c.len.result) ≡ 4097 = omega (arith, c.self.invariant.2, c.len.ensures, c.self.inside.begun.ok.0) in
    kept_view c.args.self.now c.self.inside.number c.self.inside.read (4097 - c.len.result) c.self.inside.begun.items c.extend_from_slice.new.self.items
    c.front-front.result.now c.args.text.now c.self.view_is (rw c.unwrap.ensures at c.extend_from_slice.ensures.items) c.front-front.ensures full
