-- How long a Request is.
use Rattle.std.proofs.Common.{◌≡◌, ℕ, ◌+◌, List, [], ◌∷◌, ◌++◌, length, replicate, refl, ap, sym, ◌∙◌, append-nil, length-append, arith}
use Rattle.std.specs.Int.{w32, cast_unsigned}
use Rattle.std.proofs.lemmas.List.{length-replicate}
use Rattle.std.specs.Prelude.{Option}
use Rattle.ft_base.specs.declared.numbers.Version.{Version}
use Rattle.ft_base.specs.declared.requests.Key.{Key}
use Rattle.ft_base.specs.Canonical.{padding}
use Rattle.cdr_codec.specs.declared.orders.Order.TheVariants.{Big}
use Rattle.cdr_codec.specs.Reading.{start}
use Rattle.cdr_codec.specs.Formats.{Writing, written_number, written_each}
use Rattle.cdr_codec.specs.Values.{text}
use Rattle.cdr_codec.specs.Encapsulations.{encapsulated}
use Rattle.cdr_codec.proofs.Lengths.{number_length}
use Rattle.ft_contexts.specs.declared.lists.TheConstants.{FT_GROUP_VERSION, FT_REQUEST}
use Rattle.ft_contexts.specs.declared.lists.Context.{Context}
use Rattle.ft_contexts.specs.Contents.{group_version, request}
use Rattle.ft_contexts.specs.Lists.{context}
use Rattle.ft_contexts.specs.Writing.{context_of, written_contexts}
use Rattle.iogr_reference.specs.Choices.{object_key}
use Rattle.giop_messages.specs.declared.heads.TheConstants.{HEAD_LENGTH}
use Rattle.giop_messages.specs.declared.heads.Kind.TheVariants as kinds
use Rattle.giop_messages.specs.declared.requests.RequestHead.{RequestHead}
use Rattle.giop_messages.specs.Heads.{header}
use Rattle.giop_messages.specs.Addresses.{address}
use Rattle.giop_messages.specs.Fields.{request_id, contexts, request_head}
use Rattle.giop_messages.specs.Messages.{giop}
use Rattle.giop_messages.specs.Writing.{padded_body, written_body, whole_head}
use Rattle.script_clients.specs.declared.answers.Attempt.{Attempt}
use Rattle.message_sizes.specs.Places.{behind, number_end, text_end}
use Rattle.message_sizes.specs.Sizes.{request_size}
use Rattle.message_sizes.proofs.Lengths.{number_ends, text_ends}

-- ---- contexts

-- behind a number of 4 bytes the next one has no padding
aligned : (place : ℕ) → padding (number_end place) 4 ≡ 0
aligned place = omega arith

context_ends : (place : ℕ) (c : Context) → behind context.written place c ≡ number_end place + 4 + length c.content
context_ends place c =
    let id = written_number 4 Big place c.id in
    let at = place + length id in
    let count = written_number 4 Big at (length c.content) in
    let id_end : at ≡ number_end place = number_ends place c.id in
    let unpadded : padding at 4 ≡ 0 = ap (λ (n : ℕ). padding n 4) id_end ∙ aligned place in
    omega (arith, id_end, unpadded, number_length 4 Big at (length c.content), length-append id (count ++ c.content), length-append count c.content)

each_of_one : {X : Type 0} (f : Writing X) (place : ℕ) (x : X) → behind f place x ≡ behind (written_each f) place (x ∷ [])
each_of_one f place x = ap (λ (l : List ℕ). place + length l) (sym (append-nil (f Big place x)))

each_of_both : {X : Type 0} (f : Writing X) (place : ℕ) (xs ys : List X)
    → behind (written_each f) place (xs ++ ys) ≡ behind (written_each f) (behind (written_each f) place xs) ys
each_of_both f place [] ys = ap (λ (n : ℕ). behind (written_each f) n ys) (omega arith)
each_of_both f place (x ∷ xs) ys =
    let first = f Big place x in
    let at = place + length first in
    let back = written_each f Big at (xs ++ ys) in
    let front = written_each f Big at xs in
    let here : place + length (first ++ back) ≡ at + length back = omega (arith, length-append first back) in
    let there : at + length front ≡ place + length (first ++ front) = omega (arith, length-append first front) in
    here ∙ each_of_both f at xs ys ∙ ap (λ (n : ℕ). behind (written_each f) n ys) there

pub none_end : (place : ℕ) → place ≡ behind (written_each context.written) place []
none_end place = omega arith

one_end : (place id : ℕ) (content : List ℕ)
    → number_end place + 4 + length content ≡ behind (written_each context.written) place (record { id = id; content = content } ∷ [])
one_end place id content =
    let c : Context = record { id = id; content = content } in
    sym (context_ends place c) ∙ each_of_one context.written place c

pub version_end : (place : ℕ) (version : Version)
    → number_end place + 4 + 8 ≡ behind (written_each context.written) place (record { id = FT_GROUP_VERSION; content = encapsulated Big group_version version } ∷ [])
version_end place version = one_end place FT_GROUP_VERSION (encapsulated Big group_version version)

pub key_end : (place : ℕ) (key : Key)
    → number_end place + 4 + length (encapsulated Big request key)
    ≡ behind (written_each context.written) place (record { id = FT_REQUEST; content = encapsulated Big request key } ∷ [])
key_end place key = one_end place FT_REQUEST (encapsulated Big request key)

pub key_content_length : (key : Key) → start 8 (number_end (text_end 1 (length key.client))) + 8 ≡ length (encapsulated Big request key)
key_content_length key =
    let client = text.written Big 1 key.client in
    let client_end : 1 + length client ≡ text_end 1 (length key.client) = text_ends 1 key.client in
    let retention = written_number 4 Big (1 + length client) (cast_unsigned w32 key.retention.0) in
    let retention_end : (1 + length client) + length retention ≡ number_end (text_end 1 (length key.client)) =
    number_ends (1 + length client) (cast_unsigned w32 key.retention.0) ∙ ap number_end client_end in
    let expiration = written_number 8 Big ((1 + length client) + length retention) key.expiration.0 in
    let all_end : ((1 + length client) + length retention) + length expiration ≡ start 8 (number_end (text_end 1 (length key.client))) + 8 =
    omega (arith, number_length 8 Big ((1 + length client) + length retention) key.expiration.0)
    ∙ ap (λ (n : ℕ). start 8 n + 8) retention_end in
    omega (arith, all_end, length-append client (retention ++ (expiration ++ [])), length-append retention (expiration ++ []), length-append expiration [])

pub contexts_end : (place : ℕ) (version : Option Version) (key : Option Key)
    → behind (written_each context.written) (behind (written_each context.written) (number_end place) (context_of group_version FT_GROUP_VERSION version)) (context_of request FT_REQUEST key)
    ≡ behind contexts.written place (written_contexts version key)
contexts_end place version key =
    let told = written_contexts version key in
    let count = written_number 4 Big place (length told) in
    let at = place + length count in
    let each = written_each context.written Big at told in
    let all : at + length each ≡ place + length (count ++ each) = omega (arith, length-append count each) in
    sym (each_of_both context.written (number_end place) (context_of group_version FT_GROUP_VERSION version) (context_of request FT_REQUEST key))
    ∙ ap (λ (n : ℕ). behind (written_each context.written) n told) (sym (number_ends place (length told)))
    ∙ all

-- ---- the body

pub no_body_end : (place : ℕ) (body : List ℕ) → body ≡ [] → place ≡ behind (written_body 2) place body
no_body_end place body e = omega (arith, ap (λ (l : List ℕ). length (padded_body (padding place 8) l)) e)

padded : (place : ℕ) (body : List ℕ) → (body ≡ [] → ⊥) → padded_body (padding place 8) body ≡ replicate (padding place 8) 0 ++ body
padded place [] some = absurd (some refl)
padded place (b ∷ bs) some = refl

pub body_end : (place : ℕ) (body : List ℕ) → (body ≡ [] → ⊥) → start 8 place + length body ≡ behind (written_body 2) place body
body_end place body some =
    omega (
      arith,
      ap (λ (l : List ℕ). length l) (padded place body some),
      length-append (replicate (padding place 8) 0) body,
      length-replicate {A = ℕ} (padding place 8) 0,
    )

-- ---- the whole

-- what stands between the header and the operation
abbrev numbers : Attempt → List ℕ
numbers a = request_id.written Big HEAD_LENGTH a.id ++ (3 ∷ 0 ∷ 0 ∷ 0 ∷ address.written Big 20 (object_key a.group))

abbrev head_of : Attempt → RequestHead
head_of a = record { id = a.id; flags = 3; key = object_key a.group; op = a.request.op; contexts = written_contexts a.version a.request.key }

-- the operation and the contexts
abbrev told_by : Attempt → List ℕ
told_by a =
    let op = text.written Big 40 a.request.op in op ++ (contexts.written Big (40 + length op) (written_contexts a.version a.request.key) ++ [])

fields_are : (a : Attempt) → (request_head 2).written Big HEAD_LENGTH (head_of a) ≡ numbers a ++ told_by a
fields_are a = refl

numbers_length : (a : Attempt) → length (numbers a) ≡ 28
numbers_length a = refl

header_length : (size : ℕ) → length (header.written Big 0 (whole_head (giop 2 Big) kinds.Request size)) ≡ HEAD_LENGTH
header_length size = refl

fields_end : (a : Attempt)
    → HEAD_LENGTH + length ((request_head 2).written Big HEAD_LENGTH (head_of a))
    ≡ behind contexts.written (text_end 40 (length a.request.op)) (written_contexts a.version a.request.key)
fields_end a =
    let told = written_contexts a.version a.request.key in
    let op = text.written Big 40 a.request.op in
    let listed = contexts.written Big (40 + length op) told in
    let all : HEAD_LENGTH + length ((request_head 2).written Big HEAD_LENGTH (head_of a)) ≡ behind contexts.written (40 + length op) told =
    omega (
      arith,
      ap (λ (l : List ℕ). length l) (fields_are a),
      length-append (numbers a) (told_by a),
      numbers_length a,
      length-append op (listed ++ []),
      length-append listed [],
    ) in
    all ∙ ap (λ (n : ℕ). behind contexts.written n told) (text_ends 40 a.request.op)

pub request_ends : (a : Attempt)
    → behind (written_body 2) (behind contexts.written (text_end 40 (length a.request.op)) (written_contexts a.version a.request.key)) a.request.args ≡ request_size a
unfolding request_size
request_ends a =
    let front = (request_head 2).written Big HEAD_LENGTH (head_of a) in
    let at = HEAD_LENGTH + length front in
    let body = padded_body (padding at 8) a.request.args in
    let size = length (front ++ body) in
    let whole : behind (written_body 2) at a.request.args ≡ length (header.written Big 0 (whole_head (giop 2 Big) kinds.Request size) ++ (front ++ body)) =
    omega (
      arith,
      length-append (header.written Big 0 (whole_head (giop 2 Big) kinds.Request size)) (front ++ body),
      header_length size,
      length-append front body,
    ) in
    ap (λ (n : ℕ). behind (written_body 2) n a.request.args) (sym (fields_end a)) ∙ whole
