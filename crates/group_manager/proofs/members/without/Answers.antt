use Rattle.std.proofs.Common.{length, ap, arith, sym, ◌∙◌, subst}
use Rattle.std.specs.Prelude.{nat_eq, not, slice_index_or}
use Rattle.ft_base.specs.Members.{is_member, AreDifferent}
use Rattle.group_manager.proofs.OneByOne.{few_kept, new_before}
use Rattle.group_manager.proofs.members.without.Goals as goal

pub join-requires-clause-room : goal.join-requires-clause-room
join-requires-clause-room c =
    let hosts = c.hosts-member-items.result.now in
    let few = few_kept (λ m. not (nat_eq m c.args.host.0)) hosts c.loop-member.member-index in
    let count = ap length c.loop-member.invariant in
    let all = ap length c.hosts-member-items.ensures in
    omega (arith, few, count, all, c.loop-member-test.true, c.len-count.ensures.count, c.len-count.ensures.limit)

pub join-requires-clause-new : goal.join-requires-clause-new
join-requires-clause-new c =
    let hosts = c.hosts-member-items.result.now in
    let different = subst AreDifferent (sym c.hosts-member-items.ensures) c.requires in
    ap (is_member (slice_index_or hosts c.loop-member.member-index 0)) c.loop-member.invariant
    ∙ new_before (λ m. not (nat_eq m c.args.host.0)) hosts c.loop-member.member-index different c.loop-member-test.true
