-- What the calls of this crate refuse for.
use Rattle.std.specs.Prelude.{Option, Some, None}
use Rattle.cdr_codec.specs.declared.faults.FieldFault.{FieldFault}
use Rattle.cdr_codec.specs.declared.faults.FieldFault.TheVariants as fields
use Rattle.iogr_reference.specs.declared.faults.RefFault.{RefFault}
use Rattle.iogr_reference.specs.declared.faults.RefFault.TheVariants as refusals
use Rattle.iogr_reference.specs.declared.faults.TextFault.{TextFault}
use Rattle.iogr_reference.specs.declared.faults.TextFault.TheVariants as texts

abbrev pub ref_fault : FieldFault → RefFault
ref_fault (fields.Bad wrong) = refusals.Bad wrong
ref_fault fields.NoMemory = refusals.NoMemory

-- the refusal; none for want of memory
abbrev pub ref_refusal : RefFault → Option RefFault
ref_refusal (refusals.Bad wrong) = Some (refusals.Bad wrong)
ref_refusal refusals.NotAGroup = Some refusals.NotAGroup
ref_refusal (refusals.Unequal place) = Some (refusals.Unequal place)
ref_refusal refusals.TwoPrimaries = Some refusals.TwoPrimaries
ref_refusal refusals.NoMemory = None

abbrev pub text_refusal : TextFault → Option TextFault
text_refusal texts.NoPrefix = Some texts.NoPrefix
text_refusal (texts.Digits place) = Some (texts.Digits place)
text_refusal (texts.Bad wrong) = Some (texts.Bad wrong)
text_refusal texts.NoMemory = None
