-- What is written is spelled, and read again.
use Rattle.std.proofs.Common.{◌≡◌, ◌+◌, length, Result, Ok, Err, OnOk}
use Rattle.cdr_codec.specs.declared.faults.CdrWhy.{CdrWhy}
use Rattle.cdr_codec.specs.declared.faults.CdrWhy.TheVariants.{Short}
use Rattle.cdr_codec.specs.Formats.{Format}
use Rattle.cdr_codec.specs.Laws.{IsCodec}
use Rattle.cdr_codec.specs.Calls.{Writer, appended}
use Rattle.cdr_codec.proofs.CodecLaws.{reads_back}
use Rattle.iogr_reference.specs.declared.references.Ior.{Ior}
use Rattle.iogr_reference.specs.Formats.{ior, IsWritable, AreNumbered}
use Rattle.iogr_reference.specs.Laws.{Wrote}
use Rattle.iogr_reference.proofs.Codecs.{ior_codec}
use Rattle.iogr_reference.proofs.TextLaws.{reference_valid}

wrote : {X : Type 0} (f : Format CdrWhy X) → IsCodec Short f → (x : X) (old new : Writer) → f.Valid x → new ≡ appended f.written x old → Wrote f old x new
wrote f law x old new valid is = record {
  bytes = f.written old.order (old.place + length old.text) x;
  is = is;
  spelled = law.spells old.order (old.place + length old.text) x valid;
  read_back = λ more. reads_back Short f law old.order (old.place + length old.text) x more valid;
}

pub is_written : {X E : Type 0} (r : Ior) (old new : Writer) (result : Result X E) → IsWritable r → OnOk result (new ≡ appended ior.written r old)
    → OnOk result (AreNumbered r.profiles) → OnOk result (Wrote ior old r new)
is_written r old new (Ok x) w is numbered = wrote ior ior_codec r old new (reference_valid r w numbered) is
is_written r old new (Err e) w is numbered = tt

pub is_valid : {X E : Type 0} (r : Ior) (result : Result X E) → IsWritable r → OnOk result (AreNumbered r.profiles) → OnOk result (ior.Valid r)
is_valid r (Ok x) w numbered = reference_valid r w numbered
is_valid r (Err e) w numbered = tt
