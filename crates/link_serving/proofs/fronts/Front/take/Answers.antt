use Rattle.std.proofs.Common.{◌≡◌, ℕ, ◌+◌, ◌-◌, List, ◌++◌, length, take, subst, ap, ◌∙◌, arith}
use Rattle.std.specs.Prelude.{OnOk}
use Rattle.giop_messages.specs.declared.heads.TheConstants.{HEAD_LENGTH}
use Rattle.link_serving.proofs.Lists.{take_joined}
use Rattle.link_serving.proofs.fronts.Front.take.Goals as goal

pub returns : goal.returns
returns c =
    let piece : List ℕ = take c.min-count.result c.args.piece.now in
    let same : c.self.inside.bytes.items ≡ c.args.self.now = c.self.view_is in
    let grown : c.try_extend_from_slice.new.self.items ≡ c.self.inside.bytes.items ++ piece =
    subst (λ r. OnOk r (c.try_extend_from_slice.new.self.items ≡ c.self.inside.bytes.items ++ piece)) c.unwrap.ensures c.try_extend_from_slice.ensures.ok in
    let room : (12 - c.len.result) + length c.args.self.now ≡ 12 = omega (arith, c.len.ensures.value, c.len.ensures.fits, ap length same) in
    take_joined HEAD_LENGTH (12 - c.len.result) c.min-count.result c.args.self.now c.args.piece.now c.try_extend_from_slice.new.self.items c.min-count.ensures
    (grown ∙ ap (λ (l : List ℕ). l ++ piece) same) room
