-- What is written is found again.
use Rattle.std.proofs.Common.{◌≡◌, ℕ, ◌+◌, ◌<◌, ◌≤◌, ◌^◌, Bool, false, cond, eqb, ltb, List, [], ◌∷◌, ◌++◌, length, Option, Some, None, Result, Ok, Err, refl, sym, ap, subst, ◌∙◌, arith, le-ltb, length-append, lit<, SFits}
use Rattle.std.specs.Int.{w32, cast_unsigned}
use Rattle.ft_base.specs.declared.requests.Key.{Key}
use Rattle.cdr_codec.specs.Formats.{written_number}
use Rattle.cdr_codec.specs.Calls.{Writer, appended}
use Rattle.cdr_codec.specs.Structs.{appended_fields}
use Rattle.cdr_codec.specs.Encapsulations.{encapsulated}
use Rattle.cdr_codec.proofs.StructLaws.{struct_written}
use Rattle.std.specs.Prelude.{◌-◌, ◌%◌, IfOk, IfSome, option_map, replicate}
use Rattle.std.specs.List.{All}
use Rattle.std.proofs.lemmas.List.{length-replicate}
use Rattle.std.proofs.lemmas.List.Elements.{All-nil, All-cons, All-append}
use Rattle.std.proofs.lemmas.Bool.{ne_eqb}
use Rattle.std.proofs.Math.Nat.{mod-lt}
use Rattle.byteorder.specs.Endian.{big_bytes}
use Rattle.byteorder.specs.Numbers.{length-bytes_high_first}
use Rattle.ft_base.specs.Canonical.{padding}
use Rattle.std.proofs.Math.Facts.{Fits-of_z, Fits-lt-pow}
use Rattle.ft_base.specs.Text.{unless_refused, name_of, IsName}
use Rattle.ft_base.specs.declared.memory.NoMemory.{NoMemory}
use Rattle.ft_base.specs.declared.numbers.Version.{Version}
use Rattle.ft_base.specs.declared.text.NameFault.{NameFault}
use Rattle.ft_base.specs.declared.text.NameFault.TheVariants.{Zero}
use Rattle.cdr_codec.specs.declared.orders.Order.TheVariants.{Big}
use Rattle.cdr_codec.specs.Values.{text}
use Rattle.cdr_codec.proofs.ValueLaws.{text_valid, signed_valid}
use Rattle.cdr_codec.proofs.EncapsulationLaws.{inside_written}
use Rattle.ft_contexts.specs.declared.lists.TheConstants.{FT_GROUP_VERSION, FT_REQUEST}
use Rattle.ft_contexts.specs.declared.lists.Context.{Context}
use Rattle.ft_contexts.specs.Contents.{group_version, client_id, request_fields, request}
use Rattle.ft_contexts.specs.Finding.{IsShort, contexts_of, AreFound}
use Rattle.ft_contexts.specs.Writing.{context_of, written_contexts, told, IsWritable}
use Rattle.ft_contexts.proofs.ContentLaws.{group_version_codec, request_codec}
use Rattle.ft_contexts.proofs.FindingLaws.{found_are}

-- a key is its client, its retention id, and then the expiration
pub request_written : (key : Key) (w : Writer) → appended request.written key w ≡ appended_fields request_fields key w
request_written key w = struct_written request_fields key w

-- ---- what has a spelling

unrefused : (b c : Bool) (x y : Option NameFault) (o : Option NameFault) → b ≡ false → c ≡ false → o ≡ None → cond b x (cond c y o) ≡ None
unrefused b c x y o e d h = rw (e, d) h

name_is : (t : List ℕ) → IsName t → name_of t ≡ Some t
name_is t h =
    ap (unless_refused t)
    (unrefused (eqb (length t) 0) (ltb 255 (length t)) _ _ _ (ne_eqb (length t) 0 (λ e. omega (arith, e, h.filled))) (le-ltb _ _ (omega (arith, h.short))) (ap (option_map Zero) h.no_zero))

pub request_valid : (key : Key) → IsName key.client → SFits w32 key.retention.0 → key.expiration.0 < 2 ^ 64 → request.Valid key
request_valid key name fits small =
    let text : text.Valid key.client = text_valid key.client name.no_zero (omega (arith, name.short)) in
    ((text, name_is key.client name), (signed_valid w32 key.retention.0 fits (Fits-lt-pow (Fits-of_z fits)), (small, refl)))

-- ---- what is written is found

pub written_found : (version : Option Version) (key : Option Key) → IfSome version group_version.Valid → IfSome key IsWritable
    → AreFound (written_contexts version key) (told version key)
written_found None None v k = record { one_version = refl; one_key = refl; version = tt; key = tt }
written_found (Some version) None v k =
    record { one_version = refl; one_key = refl; version = inside_written group_version group_version_codec Big version v; key = tt }
written_found None (Some key) v k =
    record { one_version = refl; one_key = refl; version = tt; key = inside_written request request_codec Big key k.valid }
written_found (Some version) (Some key) v k =
    record {
      one_version = refl;
      one_key = refl;
      version = inside_written group_version group_version_codec Big version v;
      key = inside_written request request_codec Big key k.valid;
    }

pub is_found_again : (version : Option Version) (key : Option Key) (result : Result (List Context) NoMemory)
    → IfOk result (λ contexts. contexts ≡ written_contexts version key) → IfOk result (λ contexts. IfSome version group_version.Valid)
    → IfOk result (λ contexts. IfSome key IsWritable) → IfOk result (λ contexts. contexts_of contexts ≡ Ok (told version key))
is_found_again version key (Ok contexts) is v k = ap contexts_of is ∙ found_are (written_contexts version key) (told version key) (written_found version key v k)
is_found_again version key (Err e) is v k = tt

-- ---- how long it is

length_number : (size place n : ℕ) → length (written_number size Big place n) ≡ padding place size + size
length_number size place n =
    omega (arith, length-append (replicate (padding place size) 0) (big_bytes size n), length-replicate {A = ℕ} (padding place size) 0, length-bytes_high_first size n)

short_number : (size place n : ℕ) → 0 < size → length (written_number size Big place n) < size + size
short_number size place n h = omega (arith, length_number size place n, mod-lt (size - place % size) h)

short_client : (place : ℕ) (t : List ℕ) → length t ≤ 255 → length (client_id.written Big place t) < 265
short_client place t h =
    omega (arith, h, length-append (written_number 4 Big place (length (t ++ 0 ∷ []))) (t ++ 0 ∷ []), length-append t (0 ∷ []), short_number 4 place (length (t ++ 0 ∷ [])) (lit< tt))

short_version : (version : Version) → length (encapsulated Big group_version version) + 8 < 2 ^ 32
short_version version = omega (arith, short_number 4 1 version.0 (lit< tt))

short_key : (key : Key) → length key.client ≤ 255 → length (encapsulated Big request key) + 8 < 2 ^ 32
short_key key h =
    let at = 1 + length (client_id.written Big 1 key.client) in
    let n = cast_unsigned w32 key.retention.0 in
    let after = at + length (written_number 4 Big at n) in
    let last : List ℕ = written_number 8 Big after key.expiration.0 in
    omega (
      arith,
      length-append (client_id.written Big 1 key.client) (written_number 4 Big at n ++ (last ++ [])),
      length-append (written_number 4 Big at n) (last ++ []),
      length-append last [],
      short_client 1 key.client h,
      short_number 4 at n (lit< tt),
      short_number 8 after key.expiration.0 (lit< tt),
    )

short_one : (id : ℕ) (content : List ℕ) → length content + 8 < 2 ^ 32 → All IsShort (record { id = id; content = content } ∷ [])
short_one id content h = All-cons IsShort (record { id = id; content = content }) [] h (All-nil IsShort)

short_versions : (version : Option Version) → All IsShort (context_of group_version FT_GROUP_VERSION version)
short_versions None = All-nil IsShort
short_versions (Some version) = short_one FT_GROUP_VERSION (encapsulated Big group_version version) (short_version version)

short_keys : (key : Option Key) → IfSome key IsWritable → All IsShort (context_of request FT_REQUEST key)
short_keys None k = All-nil IsShort
short_keys (Some key) k = short_one FT_REQUEST (encapsulated Big request key) (short_key key k.name.short)

short_contexts : (version : Option Version) (key : Option Key) → IfSome key IsWritable → All IsShort (written_contexts version key)
short_contexts version key k = All-append IsShort (context_of group_version FT_GROUP_VERSION version) (context_of request FT_REQUEST key) (short_versions version) (short_keys key k)

pub are_short : (version : Option Version) (key : Option Key) (result : Result (List Context) NoMemory)
    → IfOk result (λ contexts. contexts ≡ written_contexts version key) → IfOk result (λ contexts. IfSome key IsWritable)
    → IfOk result (λ contexts. All IsShort contexts)
are_short version key (Ok contexts) is k = subst (λ (xs : List Context). All IsShort xs) (sym is) (short_contexts version key k)
are_short version key (Err e) is k = tt
