-- The contents of the two contexts are codecs.
use Rattle.std.proofs.Common.{refl}
use Rattle.std.specs.Int.{w32}
use Rattle.ft_base.specs.Text.{name_of}
use Rattle.cdr_codec.specs.declared.faults.CdrWhy.TheVariants.{Short, BadString}
use Rattle.cdr_codec.specs.Formats.{number}
use Rattle.cdr_codec.specs.Values.{text}
use Rattle.cdr_codec.specs.Laws.{IsCodec}
use Rattle.cdr_codec.proofs.Codecs.{number_codec, judged_codec, shaped_codec}
use Rattle.cdr_codec.proofs.StructLaws.{struct_codec}
use Rattle.cdr_codec.proofs.ValueLaws.{text_codec, signed_codec}
use Rattle.ft_contexts.specs.Contents.{group_version, client_id, request_fields, request}

pub group_version_codec : IsCodec Short group_version
group_version_codec = shaped_codec Short (number 4) _ _ (λ n. refl) (λ v. refl) (number_codec 4)

pub client_id_codec : IsCodec Short client_id
client_id_codec = judged_codec Short text 4 BadString name_of (λ name. name) text_codec

pub request_codec : IsCodec Short request
request_codec = struct_codec Short request_fields (client_id_codec, λ client. (signed_codec w32, λ retention. (number_codec 8, λ expiration. tt)))
