use Rattle.std.proofs.Common.{◌∙◌}
use Rattle.std.specs.Prelude.{slice_index}
use Rattle.iogr_reference.proofs.ViewLemmas.{member_short}
use Rattle.iogr_reference.proofs.views.profile_of.Goals as goal

pub profile_with-requires-clause-content : goal.profile_with-requires-clause-content
profile_with-requires-clause-content c =
    member_short c.args.group c.args.view.now.version (slice_index c.as_slice.result.now c.args.host) c.is_led_by-is_primary.result c.as_slice-2.result.now
    (c.as_slice-2.ensures.value ∙ c.in_ok-components.ensures.components)
