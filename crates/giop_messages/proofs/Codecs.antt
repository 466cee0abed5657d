-- The fields of messages and their header are codecs: each by the codecs of its parts.
use Rattle.std.proofs.Common.{ℕ, ◌+◌, ◌==◌, Bool, true, false, List, [], Some, refl}
use Rattle.std.specs.List.{find}
use Rattle.cdr_codec.specs.declared.faults.CdrWhy.TheVariants.{Short}
use Rattle.cdr_codec.specs.Orders.{order_of}
use Rattle.cdr_codec.specs.Formats.{Format, number, octets, followed, lifted, any_octet}
use Rattle.cdr_codec.specs.Values.{boolean, text}
use Rattle.cdr_codec.specs.Laws.{IsCodec}
use Rattle.cdr_codec.specs.Structs.{struct}
use Rattle.cdr_codec.proofs.Codecs.{number_codec, octets_codec, nothing_codec, judged_at_codec, judged_codec, followed_codec, in_order_codec}
use Rattle.cdr_codec.proofs.Sequences.{lifted_codec}
use Rattle.cdr_codec.proofs.TaggedLaws.{any_octet_codec, all_tagged_codec}
use Rattle.cdr_codec.proofs.StructLaws.{struct_codec}
use Rattle.cdr_codec.proofs.ValueLaws.{boolean_codec, text_codec}
use Rattle.ft_contexts.specs.Lists.{context_with, context_parts, contexts as context_list}
use Rattle.iogr_reference.specs.Formats.{profile, ior}
use Rattle.giop_messages.specs.declared.faults.Why.TheVariants as causes
use Rattle.giop_messages.specs.declared.addresses.Target.TheVariants as targets
use Rattle.giop_messages.specs.Faults.{up}
use Rattle.giop_messages.specs.Heads.{octet, either, only, magic_byte, minor_of, version, kind_of, kind_sign, kind, size_by, head_fields, head, if_flags_fit, header}
use Rattle.giop_messages.specs.Addresses.{key_in, profile_in, reference_in, key_target, profile_target, reference_target, target_by, target, key_named, address}
use Rattle.giop_messages.specs.Fields.{request_id, reserved, contexts, status_among, response_flags, response_expected, object_key, requesting_principal, from_object_key, from_reserved, from_contexts, request_fields_1_2, request_1_0, request_1_1, request_1_2, request_head, statuses_1_0, statuses_1_2, reply_fields_1_0, reply_fields_1_2, reply_head, target_key, locate_request, locate_statuses, locate_reply}

-- ---- one format or the other

either_codec : {W X : Type 0} (short : W) (b : Bool) (f g : Format W X) → IsCodec short f → IsCodec short g → IsCodec short (either b f g)
either_codec short true f g one other = one
either_codec short false f g one other = other

-- ---- the header

octet_codec : IsCodec causes.Short octet
octet_codec = lifted_codec Short up (number 1) (number_codec 1)

unsigned_codec : IsCodec causes.Short (lifted up (number 4))
unsigned_codec = lifted_codec Short up (number 4) (number_codec 4)

magic_codec : (n : ℕ) → IsCodec causes.Short (magic_byte n)
magic_codec n = judged_codec causes.Short octet 1 causes.Magic (only n) (λ u. n) octet_codec

version_codec : IsCodec causes.Short version
version_codec =
    judged_codec causes.Short (followed octet (λ major. octet)) 1 causes.Version minor_of (λ minor. (1, minor))
    (followed_codec causes.Short octet (λ major. octet) octet_codec (λ major. octet_codec))

kind_codec : (minor : ℕ) → IsCodec causes.Short (kind minor)
kind_codec minor = judged_codec causes.Short octet 1 causes.Kind (kind_of minor) kind_sign octet_codec

size_codec : (flags : ℕ) → IsCodec causes.Short (size_by flags)
size_codec flags = in_order_codec causes.Short (order_of flags) (lifted up (number 4)) unsigned_codec

pub head_codec : IsCodec causes.Short head
head_codec =
    struct_codec causes.Short head_fields (
      magic_codec 71,
      λ g. (
        magic_codec 73,
        λ i. (
          magic_codec 79,
          λ o. (
            magic_codec 80,
            λ p. (
              version_codec,
              λ minor.
                  (octet_codec, λ flags. (kind_codec minor, λ kind. (size_codec flags, λ size. tt))),
            ),
          ),
        ),
      ),
    )

pub header_codec : IsCodec causes.Short header
header_codec = judged_at_codec causes.Short head (λ place. place + 6) causes.Flags if_flags_fit (λ h. h) head_codec

-- ---- the target

-- what references owe: profiles and references are codecs
pub record ReferenceCodecs : Type 0 where
  pub each_profile : IsCodec Short profile
  pub references : IsCodec Short ior

pub reference_codecs : IsCodec Short profile → IsCodec Short ior → ReferenceCodecs
reference_codecs each_profile references = record { each_profile = each_profile; references = references }

key_target_codec : IsCodec Short key_target
key_target_codec = judged_codec Short octets 4 Short (λ key. Some (targets.Key key)) key_in octets_codec

profile_target_codec : ReferenceCodecs → IsCodec Short profile_target
profile_target_codec laws = judged_codec Short profile 4 Short (λ p. Some (targets.Profile p)) profile_in laws.each_profile

reference_target_codec : ReferenceCodecs → IsCodec Short reference_target
reference_target_codec laws =
    judged_codec Short (followed (number 4) (λ i. ior)) 4 Short (λ x. Some (targets.Reference x.0 x.1)) reference_in
    (followed_codec Short (number 4) (λ i. ior) (number_codec 4) (λ i. laws.references))

target_by_codec : ReferenceCodecs → (n : ℕ) → IsCodec Short (target_by n)
target_by_codec laws n =
    either_codec Short (n == 0) key_target _ key_target_codec
    (either_codec Short (n == 1) profile_target _ (profile_target_codec laws)
    (either_codec Short (n == 2) reference_target _ (reference_target_codec laws) (nothing_codec Short (targets.Other n))))

target_codec : ReferenceCodecs → IsCodec Short target
target_codec laws = followed_codec Short (number 2) target_by (number_codec 2) (target_by_codec laws)

address_codec : ReferenceCodecs → IsCodec causes.Short address
address_codec laws =
    judged_codec causes.Short (lifted up target) 2 causes.Address (λ x. key_named x.1) (λ key. (0, targets.Key key))
    (lifted_codec Short up target (target_codec laws))

-- ---- the fields

pub request_id_codec : IsCodec causes.Short request_id
request_id_codec = unsigned_codec

reserved_codec : IsCodec causes.Short reserved
reserved_codec = lifted_codec Short up (any_octet 0) (any_octet_codec 0)

text_up_codec : IsCodec causes.Short (lifted up text)
text_up_codec = lifted_codec Short up text text_codec

contexts_codec : IsCodec causes.Short contexts
contexts_codec = lifted_codec Short up context_list (all_tagged_codec context_with context_parts (λ x. refl) (λ c. refl))

status_codec : (statuses : List ℕ) → IsCodec causes.Short (status_among statuses)
status_codec statuses =
    judged_codec causes.Short (lifted up (number 4)) 4 causes.Status (λ n. find (λ status. status == n) statuses) (λ status. status) unsigned_codec

response_expected_codec : IsCodec causes.Short response_expected
response_expected_codec =
    judged_codec causes.Short (lifted up boolean) 1 causes.BadBool (λ asks. Some (response_flags asks)) (λ flags. flags == 3)
    (lifted_codec Short up boolean boolean_codec)

object_key_codec : IsCodec causes.Short object_key
object_key_codec = lifted_codec Short up octets octets_codec

requesting_principal_codec : IsCodec causes.Short requesting_principal
requesting_principal_codec = judged_codec causes.Short object_key 4 causes.Short (λ xs. Some tt) (λ u. []) object_key_codec

request_1_0_codec : IsCodec causes.Short request_1_0
request_1_0_codec =
    struct_codec causes.Short (from_contexts from_object_key) (
      contexts_codec,
      λ contexts. (
        request_id_codec,
        λ id. (
          response_expected_codec,
          λ flags. (object_key_codec, λ key. (text_up_codec, λ op. (requesting_principal_codec, λ none. tt))),
        ),
      ),
    )

request_1_1_codec : IsCodec causes.Short request_1_1
request_1_1_codec =
    struct_codec causes.Short (from_contexts from_reserved) (
      contexts_codec,
      λ contexts. (
        request_id_codec,
        λ id. (
          response_expected_codec,
          λ flags. (
            reserved_codec,
            λ first. (
              reserved_codec,
              λ second. (
                reserved_codec,
                λ third. (object_key_codec, λ key. (text_up_codec, λ op. (requesting_principal_codec, λ none. tt))),
              ),
            ),
          ),
        ),
      ),
    )

request_1_2_codec : ReferenceCodecs → IsCodec causes.Short request_1_2
request_1_2_codec laws =
    struct_codec causes.Short request_fields_1_2 (
      request_id_codec,
      λ id. (
        octet_codec,
        λ flags. (
          reserved_codec,
          λ first. (
            reserved_codec,
            λ second. (
              reserved_codec,
              λ third.
                  (address_codec laws, λ key. (text_up_codec, λ op. (contexts_codec, λ contexts. tt))),
            ),
          ),
        ),
      ),
    )

pub request_head_codec : ReferenceCodecs → (minor : ℕ) → IsCodec causes.Short (request_head minor)
request_head_codec laws minor =
    either_codec causes.Short (minor == 2) request_1_2 (either (minor == 1) request_1_1 request_1_0) (request_1_2_codec laws)
    (either_codec causes.Short (minor == 1) request_1_1 request_1_0 request_1_1_codec request_1_0_codec)

reply_1_0_codec : IsCodec causes.Short (struct reply_fields_1_0)
reply_1_0_codec =
    struct_codec causes.Short reply_fields_1_0 (contexts_codec, λ contexts. (request_id_codec, λ id. (status_codec statuses_1_0, λ status. tt)))

reply_1_2_codec : IsCodec causes.Short (struct reply_fields_1_2)
reply_1_2_codec =
    struct_codec causes.Short reply_fields_1_2 (request_id_codec, λ id. (status_codec statuses_1_2, λ status. (contexts_codec, λ contexts. tt)))

pub reply_head_codec : (minor : ℕ) → IsCodec causes.Short (reply_head minor)
reply_head_codec minor = either_codec causes.Short (minor == 2) (struct reply_fields_1_2) (struct reply_fields_1_0) reply_1_2_codec reply_1_0_codec

target_key_codec : ReferenceCodecs → (minor : ℕ) → IsCodec causes.Short (target_key minor)
target_key_codec laws minor = either_codec causes.Short (minor == 2) address object_key (address_codec laws) object_key_codec

pub locate_request_codec : ReferenceCodecs → (minor : ℕ) → IsCodec causes.Short (locate_request minor)
locate_request_codec laws minor =
    followed_codec causes.Short request_id (λ id. target_key minor) request_id_codec (λ id. target_key_codec laws minor)

pub locate_reply_codec : IsCodec causes.Short locate_reply
locate_reply_codec =
    followed_codec causes.Short request_id (λ id. status_among locate_statuses) request_id_codec (λ id. status_codec locate_statuses)
