use Rattle.std.proofs.Common.{◌≡◌, false, None, ◌<◌, List, ℕ, sym, subst, ◌∙◌}
use Rattle.std.specs.List.{AllByRecursion}
use Rattle.ft_base.specs.declared.limits.TheConstants.{HOST_LIMIT}
use Rattle.property_manager.specs.declared.settings.Property.{Property}
use Rattle.property_manager.specs.Judging.{refusal}
use Rattle.world_management.proofs.CreatingLemmas.{style_taken}
use Rattle.world_management.proofs.making.group_line.Goals as goal

pub members_of-members-requires-clause-there : goal.members_of-members-requires-clause-there
members_of-members-requires-clause-there g c =
    subst (λ (hs : List ℕ). AllByRecursion (λ h. h < HOST_LIMIT) hs) (c.as_slice.ensures ∙ sym c.as_slice-2.ensures)
    (c.refuses_group.ensures.there c.in_default.is)

pub make_group-requires-clause-hosts : goal.make_group-requires-clause-hosts
make_group-requires-clause-hosts g c =
    subst (λ (hs : List ℕ). AllByRecursion (λ h. h < HOST_LIMIT) hs) (c.as_slice.ensures ∙ sym c.as_slice-2.ensures ∙ sym c.members_of-members.ensures)
    (c.refuses_group.ensures.there c.in_default.is)

pub make_group-requires-clause-taken : goal.make_group-requires-clause-taken
make_group-requires-clause-taken g c = subst (λ (ps : List Property). refusal false ps ≡ None) (sym c.in_ok-criterion.ensures) (style_taken c.args.style)
