-- A client's Request can be written, unless it is over 1 MiB.
use Rattle.std.proofs.Common.{◌≡◌, ◌<◌, ◌≤◌, ◌^◌, ℕ, ◌+◌, List, [], ◌∷◌, length, replicate, Option, Some, None, refl, arith, length-append, lit<}
use Rattle.std.specs.List.{All}
use Rattle.ft_base.specs.Canonical.{padding}
use Rattle.ft_base.specs.Text.{IsName}
use Rattle.ft_base.specs.declared.numbers.Version.{Version}
use Rattle.ft_base.specs.declared.requests.Key.{Key}
use Rattle.cdr_codec.specs.declared.orders.Order.TheVariants.{Big}
use Rattle.iogr_reference.specs.Choices.{object_key}
use Rattle.ft_contexts.specs.Finding.{IsShort}
use Rattle.ft_contexts.specs.Writing.{written_contexts}
use Rattle.giop_messages.specs.declared.heads.TheConstants.{HEAD_LENGTH, MESSAGE_LIMIT}
use Rattle.giop_messages.specs.declared.heads.Kind.TheVariants as kinds
use Rattle.giop_messages.specs.Heads.{header}
use Rattle.giop_messages.specs.Fields.{request_head}
use Rattle.giop_messages.specs.Messages.{giop}
use Rattle.giop_messages.specs.Writing.{Writable, padded_body, whole_head, written_message, written_payload}
use Rattle.script_clients.specs.declared.answers.Attempt.{Attempt}
use Rattle.message_sizes.specs.Sizes.{request_of, request_size}

few : (version : Option Version) (key : Option Key) → length (written_contexts version key) < 2 ^ 32
few None None = lit< tt
few None (Some key) = lit< tt
few (Some version) None = lit< tt
few (Some version) (Some key) = lit< tt

body_within : (pad : ℕ) (body : List ℕ) → length body ≤ length (padded_body pad body)
body_within pad [] = omega arith
body_within pad (b ∷ bs) = omega (arith, length-append (replicate pad 0) (b ∷ bs))

args_within : (a : Attempt) → length a.request.args ≤ length (written_message (request_of a) (giop 2 Big))
args_within a =
    let payload = written_payload (giop 2 Big) (request_of a) in
    let front = (request_head 2).written Big HEAD_LENGTH (record { id = a.id; flags = 3; key = object_key a.group; op = a.request.op; contexts = written_contexts a.version a.request.key }) in
    let at = padding (HEAD_LENGTH + length front) 8 in
    omega (
      arith,
      length-append (header.written Big 0 (whole_head (giop 2 Big) kinds.Request (length payload))) payload,
      length-append front (padded_body at a.request.args),
      body_within at a.request.args,
    )

pub writable : (a : Attempt) → length (written_message (request_of a) (giop 2 Big)) ≤ MESSAGE_LIMIT → IsName a.request.op → All IsShort (written_contexts a.version a.request.key)
    → length (object_key a.group) ≡ 12 → Writable (request_of a) (giop 2 Big)
writable a sized op contexts key = record {
  possible = refl;
  fields = record {
    flags = refl;
    key = omega (arith, key);
    op = record { no_zero = op.no_zero; short = omega (arith, op.short) };
    contexts = record { count = few a.version a.request.key; contents = λ k d h. omega (arith, contexts k d h) };
    body = record { ordered = refl; aligned = refl; short = omega (arith, args_within a, sized) };
  };
  sized = sized;
}

pub size_is : (a : Attempt) → request_size a ≡ length (written_message (request_of a) (giop 2 Big))
unfolding request_size
size_is a = refl
