-- The store: values by their keys, in ascending order of the keys' bytes, and what the operations make of them.
use Rattle.std.specs.Prelude.{◌≡◌, ℕ, zero, suc, ◌+◌, ◌-◌, ◌≤◌, ◌&&◌, Bool, true, false, not, nat_lt, nat_le, if◌then◌else◌, List, [], ◌∷◌, ◌++◌, length, take, drop, slice_index, Option, Some, None, option_map, is_some, codes, map}
use Rattle.std.specs.Cmp.Lexicographic.{slice_cmp}
use Rattle.std.specs.FinMap.{find, put, is_sorted}
use Rattle.std.specs.List.{filter, flat_map, list_all}
use Rattle.std.specs.declared.cmp.Ordering.{Ordering}
use Rattle.std.specs.Ordering.{eq_by_cmp, is_lt, nat_cmp}
use Rattle.std.specs.Str.{bytes_eq}
use Rattle.byteorder.specs.Endian.{big_bytes, big_number}
use Rattle.ft_base.specs.Canonical.{number_at, octets_at, padding}
use Rattle.ft_base.specs.Coding.{Coding, machine_of, said}
use Rattle.ft_base.specs.Machine.{Machine}
use Rattle.ft_base.specs.Text.{zero_place}
use Rattle.ft_base.specs.declared.requests.Outcome.{Outcome}
use Rattle.ft_base.specs.declared.requests.Outcome.TheVariants.{Value, User}
use Rattle.servant_store.specs.Operations.{operation_of, signature_of}
use Rattle.servant_store.specs.declared.operations.Operation.{Operation}
use Rattle.servant_store.specs.declared.operations.Operation.TheVariants.{Put, Get, Remove, Size}

abbrev pub Pairs : Type 0
Pairs = List (List ℕ × List ℕ)

-- keys are in the order of their bytes, and a key comes before a longer one that it begins
abbrev pub order : List ℕ → List ℕ → Ordering
order one other = slice_cmp nat_cmp one other

-- a key has 1 to 64 bytes, and as a text none of them is 0
abbrev pub is_key : List ℕ → Bool
is_key key = nat_lt 0 (length key) && (nat_le (length key) 64 && not (is_some (zero_place key)))

-- a value has at most 256 bytes
abbrev pub is_value : List ℕ → Bool
is_value value = nat_le (length value) 256

abbrev pub is_pair : List ℕ × List ℕ → Bool
is_pair pair = is_key pair.0 && is_value pair.1

-- at most 256 keys, in ascending order
abbrev pub is_store : Pairs → Bool
is_store pairs = is_sorted order pairs && (nat_le (length pairs) 256 && list_all is_pair pairs)

-- the same by its parts
pub record IsStore (pairs : Pairs) : Type 0 where
  pub ordered : is_sorted order pairs ≡ true
  pub few : length pairs ≤ 256
  pub sound : list_all is_pair pairs ≡ true

-- ---- bytes: a key's length in one, a value's in two, the number of pairs in four

abbrev pub spelled_key : List ℕ → List ℕ
spelled_key key = big_bytes 1 (length key) ++ key

abbrev pub spelled_pair : List ℕ × List ℕ → List ℕ
spelled_pair pair = spelled_key pair.0 ++ (big_bytes 2 (length pair.1) ++ pair.1)

abbrev pub spelled : Pairs → List ℕ
spelled pairs = big_bytes 4 (length pairs) ++ flat_map spelled_pair pairs

-- the key at the front of bytes, and what is behind it; likewise a value
abbrev pub key_in : List ℕ → List ℕ
key_in bytes = take (slice_index bytes 0) (drop 1 bytes)

abbrev pub behind_key : List ℕ → List ℕ
behind_key bytes = drop (slice_index bytes 0) (drop 1 bytes)

abbrev pub value_in : List ℕ → List ℕ
value_in bytes = take (big_number 2 bytes) (drop 2 bytes)

abbrev pub behind_value : List ℕ → List ℕ
behind_value bytes = drop (big_number 2 bytes) (drop 2 bytes)

-- this many pairs, one behind the other, and what is behind them; likewise keys
unfoldable pub pairs_in : ℕ → List ℕ → Pairs × List ℕ
pairs_in zero bytes = ([], bytes)
pairs_in (suc n) bytes =
    let rest = pairs_in n (behind_value (behind_key bytes)) in ((key_in bytes, value_in (behind_key bytes)) ∷ rest.0, rest.1)

unfoldable pub keys_in : ℕ → List ℕ → List (List ℕ) × List ℕ
keys_in zero bytes = ([], bytes)
keys_in (suc n) bytes = let rest = keys_in n (behind_key bytes) in (key_in bytes ∷ rest.0, rest.1)

abbrev pub read : List ℕ → Option Pairs
read bytes = Some (pairs_in (big_number 4 bytes) (drop 4 bytes)).0

-- what bytes spell
unfoldable pub pairs_said : List ℕ → Option Pairs
pairs_said bytes = said is_store spelled read bytes

-- ---- operations

-- the key that arguments say, between its count and its NUL; and the octets behind it, whose count stands at a
-- multiple of four
abbrev pub key_of : List ℕ → List ℕ
key_of args = take (big_number 4 args - 1) (drop 4 args)

abbrev pub value_of : List ℕ → List ℕ
value_of args = let place = 4 + big_number 4 args in drop (place + padding place 4 + 4) args

abbrev pub told : Bool → Outcome
told flag = Value ((if flag then 1 else 0) ∷ [])

-- a key gets a value, and whether it is new is told; refused where it is no key, where the value is too long,
-- and where the key is new beside 256
abbrev pub was_put : Pairs → List ℕ → List ℕ → Bool → Pairs × Outcome
was_put pairs key value known =
    if not known && nat_le 256 (length pairs) then (pairs, User (codes "StoreFull"))
    else (put order key value pairs, told (not known))

abbrev pub putting : Pairs → List ℕ → List ℕ → Pairs × Outcome
putting pairs key value =
    if not (is_key key) then (pairs, User (codes "BadKey"))
    else (if not (is_value value) then (pairs, User (codes "BadValue"))
    else was_put pairs key value (is_some (find order key pairs)))

-- a key's value is told; refused where it is no key, and where it isn't there
abbrev pub found : Option (List ℕ) → Outcome
found None = User (codes "NoKey")
found (Some value) = Value (octets_at 0 value)

abbrev pub getting : Pairs → List ℕ → Outcome
getting pairs key = if not (is_key key) then User (codes "BadKey") else found (find order key pairs)

-- a key leaves, with its value; refused likewise
abbrev pub without_key : List ℕ → Pairs → Pairs
without_key key pairs = filter (λ pair. not (eq_by_cmp order key pair.0)) pairs

abbrev pub removing : Pairs → List ℕ → Pairs × Outcome
removing pairs key =
    if not (is_key key) then (pairs, User (codes "BadKey"))
    else (if is_some (find order key pairs) then (without_key key pairs, Value []) else (pairs, User (codes "NoKey")))

abbrev pub ran : Option Operation → Pairs → List ℕ → Pairs × Outcome
ran None pairs args = (pairs, Value [])
ran (Some Put) pairs args = putting pairs (key_of args) (value_of args)
ran (Some Get) pairs args = (pairs, getting pairs (key_of args))
ran (Some Remove) pairs args = removing pairs (key_of args)
ran (Some Size) pairs args = (pairs, Value (number_at 4 0 (length pairs)))

-- ---- updates: the keys that are gone, and the pairs that are new or changed, both ascending

pub record Change : Type 0 where
  pub gone : List (List ℕ)
  pub set : Pairs

-- keys in ascending order, behind another one
abbrev pub rises_from : List ℕ → List (List ℕ) → Bool
rises_from key [] = true
rises_from key (next ∷ keys) = is_lt (order key next) && rises_from next keys

abbrev pub rises : List (List ℕ) → Bool
rises [] = true
rises (key ∷ keys) = rises_from key keys

-- at most 256 of each, and no key in both
abbrev pub is_change : Change → Bool
is_change c =
    (rises c.gone && (nat_le (length c.gone) 256 && list_all is_key c.gone))
    && (is_store c.set && list_all (λ key. not (is_some (find order key c.set))) c.gone)

-- the same by its parts
pub record IsChange (c : Change) : Type 0 where
  pub rising : rises c.gone ≡ true
  pub few : length c.gone ≤ 256
  pub keys : list_all is_key c.gone ≡ true
  pub set : IsStore c.set
  pub apart : list_all (λ key. not (is_some (find order key c.set))) c.gone ≡ true

abbrev pub spelled_change : Change → List ℕ
spelled_change c =
    (big_bytes 2 (length c.gone) ++ flat_map spelled_key c.gone) ++ (big_bytes 2 (length c.set) ++ flat_map spelled_pair c.set)

abbrev pub read_change : List ℕ → Option Change
read_change bytes =
    let gone = keys_in (big_number 2 bytes) (drop 2 bytes) in
    Some (record { gone = gone.0; set = (pairs_in (big_number 2 gone.1) (drop 2 gone.1)).0 })

unfoldable pub change_said : List ℕ → Option Change
change_said bytes = said is_change spelled_change read_change bytes

-- whether a key has this value
abbrev pub is_same : List ℕ → Option (List ℕ) → Bool
is_same value None = false
is_same value (Some other) = bytes_eq other value

abbrev pub since : Pairs → Pairs → Change
since base later = record {
  gone = map (λ pair. pair.0) (filter (λ pair. not (is_some (find order pair.0 later))) base);
  set = filter (λ pair. not (is_same pair.1 (find order pair.0 base))) later;
}

-- pairs without some keys, and with some others
abbrev pub without : List (List ℕ) → Pairs → Pairs
without [] pairs = pairs
without (key ∷ keys) pairs = without_key key (without keys pairs)

abbrev pub with_pairs : Pairs → Pairs → Pairs
with_pairs [] pairs = pairs
with_pairs (pair ∷ more) pairs = put order pair.0 pair.1 (with_pairs more pairs)

-- the pairs after a change; none where a key that is gone isn't there, and where there would be too many
abbrev pub changed : Pairs → Change → Pairs
changed base c = with_pairs c.set (without c.gone base)

abbrev pub advanced : Pairs → Option Change → Option Pairs
advanced base None = None
advanced base (Some c) =
    if not (list_all (λ key. is_some (find order key base)) c.gone) then None
    else (if nat_lt 256 (length (changed base c)) then None else Some (changed base c))

-- ---- the store as a servant

unfoldable pub store : Coding Pairs
store = record {
  signature = λ op. option_map signature_of (operation_of op);
  opening = [];
  valid = is_store;
  spelled = spelled;
  read = read;
  step = λ pairs request. ran (operation_of request.op) pairs request.args;
  delta = λ base later. spelled_change (since base later);
  applied = λ base update. advanced base (change_said update);
}

-- the same over state bytes
abbrev pub store_machine : Machine
store_machine = machine_of store
