use Rattle.std.proofs.Common.{◌≡◌, ◌≤◌, Bool, cond, List, ℕ, Result, Err, length, le-ltb, ap, sym, subst, ◌∙◌}
use Rattle.cdr_codec.specs.declared.orders.Order.TheVariants.{Big}
use Rattle.cdr_codec.specs.Reading.{Reader, reader_at, Fault}
use Rattle.cdr_codec.specs.Calls.{Tells}
use Rattle.giop_messages.specs.declared.forms.Form.{Form}
use Rattle.giop_messages.specs.declared.heads.TheConstants.{HEAD_LENGTH}
use Rattle.giop_messages.specs.declared.faults.Why.{Why}
use Rattle.giop_messages.specs.declared.messages.Message.{Message}
use Rattle.giop_messages.specs.Faults.{read_fault}
use Rattle.giop_messages.specs.Messages.{cut, headed, message_in}
use Rattle.giop_messages.proofs.reading.read_exactly.Goals as goal

abbrev judged_if : List ℕ → Bool → Result (Message × Form) (Fault Why)
judged_if bytes short = cond {A = Result (Message × Form) (Fault Why)} short (Err (cut bytes)) (headed bytes (reader_at Big 0 bytes))

-- the header is whole
whole : (bytes : List ℕ) (r : Reader) → HEAD_LENGTH ≤ length bytes → r ≡ reader_at Big 0 bytes → headed bytes r ≡ message_in bytes
whole bytes r long begins = ap (headed bytes) begins ∙ sym (ap (judged_if bytes) (le-ltb _ _ long))

pub returns : goal.returns
returns c = record {
  read = subst (λ (what : Result (Message × Form) (Fault Why)). Tells (λ m. m) read_fault c.read_headed.result what)
      (whole c.args.bytes.now c.new-reader.result c.if-bytes-lt-HEAD_LENGTH.false c.new-reader.ensures) c.read_headed.ensures;
}
