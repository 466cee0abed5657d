-- What is spelled by at most 1 MiB has short contexts and a short body.
use Rattle.std.proofs.Common.{◌≡◌, ℕ, ◌≤◌, ◌<◌, Bool, true, false, length, refl, arith}
use Rattle.std.specs.Prelude.{◌&&◌, nat_lt}
use Rattle.std.proofs.lemmas.Bool.{ltb-true}
use Rattle.std.proofs.lemmas.List.Elements.{All-weaker}
use Rattle.ft_contexts.specs.declared.lists.Context.{Context}
use Rattle.ft_contexts.specs.Finding.{IsShort}
use Rattle.giop_messages.specs.declared.heads.TheConstants.{MESSAGE_LIMIT}
use Rattle.giop_messages.specs.declared.messages.Message.{Message}
use Rattle.giop_messages.specs.declared.messages.Message.TheVariants as messages
use Rattle.giop_messages.specs.Laws.{MessagesAreWithin, IsWithin}
use Rattle.giop_stream.specs.Parts.{Received}
use Rattle.giop_stream.specs.Spelled.{IsSpelled}
use Rattle.link_session.specs.Calls.{IsShortMessage}

short_by : (count : ℕ) (m : Message) → count ≤ MESSAGE_LIMIT → IsWithin count m → IsShortMessage m
short_by count (messages.Request r) few within = record {
  contexts = All-weaker (λ (c : Context). length c.content ≤ count) IsShort (λ (c : Context) (h : length c.content ≤ count). omega (arith, h, few)) r.contexts within.contexts;
  body = record { aligned = omega (arith, within.body.aligned); short = omega (arith, within.body.aligned, within.body.short, few) };
}
short_by count (messages.Reply r) few within = tt
short_by count (messages.Cancel id) few within = tt
short_by count (messages.LocateRequest id key) few within = tt
short_by count (messages.LocateReply id status) few within = tt
short_by count messages.CloseConnection few within = tt
short_by count messages.MessageError few within = tt
short_by count (messages.Fragment id rest) few within = tt

pub spelled_short : MessagesAreWithin → (m : Received) → IsSpelled m → IsShortMessage m.0
spelled_short law m s = short_by (length s.bytes) m.0 s.small (law s.bytes m.1 m.0 s.spelled)

first_true : (b d : Bool) → (b && d) ≡ true → b ≡ true
first_true true d e = refl
first_true false d e = e

-- a form that there is
pub spelled_known : (m : Received) → IsSpelled m → m.1.minor < 3
spelled_known m s = ltb-true m.1.minor 3 (first_true (nat_lt m.1.minor 3) _ s.spelled.possible)
