-- What the two contexts hold, behind the byte order of their encapsulation.
use Rattle.std.specs.Prelude.{ℕ, List}
use Rattle.std.specs.Int.{w32}
use Rattle.ft_base.specs.Text.{name_of}
use Rattle.ft_base.specs.declared.numbers.Version.{Version}
use Rattle.ft_base.specs.declared.requests.Key.{Key}
use Rattle.cdr_codec.specs.declared.faults.CdrWhy.{CdrWhy}
use Rattle.cdr_codec.specs.declared.faults.CdrWhy.TheVariants.{BadString}
use Rattle.cdr_codec.specs.Formats.{Format, number, judged, shaped}
use Rattle.cdr_codec.specs.Structs.{Fields, field, whole, struct}
use Rattle.cdr_codec.specs.Values.{text, signed}

-- FT_GROUP_VERSION: an unsigned long
abbrev pub group_version : Format CdrWhy Version
group_version = shaped (number 4) (λ n. record { 0 = n }) (λ version. version.0)

-- a client's id: a string of 1 to 255 bytes
abbrev pub client_id : Format CdrWhy (List ℕ)
client_id = judged text 4 BadString name_of (λ name. name)

-- FT_REQUEST: the client's id, the retention id as a long, the expiration as an unsigned long long
abbrev pub request_fields : Fields CdrWhy Key
request_fields =
    field client_id (λ key. key.client) (λ client.
    field (signed w32) (λ key. key.retention.0) (λ retention.
    field (number 8) (λ key. key.expiration.0) (λ expiration.
    whole (record { client = client; retention = record { 0 = retention }; expiration = record { 0 = expiration } }))))

abbrev pub request : Format CdrWhy Key
request = struct request_fields
