use Rattle.std.proofs.Common.{◌≡◌, List, ℕ, false, arith, refl, subst, sym}
use Rattle.std.specs.Prelude.{slice_index_or}
use Rattle.ft_base.specs.Members.{is_member}
use Rattle.world_management.proofs.MakingLemmas.{fresh_at}
use Rattle.world_management.proofs.making.members_of.Goals as goal

pub join-requires-clause-new : goal.join-requires-clause-new
join-requires-clause-new c =
    let hs = c.args.numbers.now in
    let i = c.loop-number.number-index in
    subst (λ (members : List ℕ). is_member (slice_index_or hs i 0) members ≡ false) (sym c.loop-number.invariant)
    (fresh_at hs i _ c.requires.different (omega (arith, c.loop-number-test.true, c.loop-number.auto.number-index-end)) refl)
