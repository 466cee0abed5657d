-- The object keys of groups, repository ids and ports, as this product chose them.
use Rattle.std.specs.Prelude.{◌≡◌, ◌≢◌, ℕ, ◌+◌, ◌==◌, ◌&&◌, ◌<◌, ◌^◌, if◌then◌else◌, List, ◌++◌, length, take, drop, Option, Some, None}
use Rattle.std.specs.Str.{bytes_eq}
use Rattle.byteorder.specs.Endian.{big_bytes, big_number}
use Rattle.ft_base.specs.Text.{IsName}
use Rattle.ft_base.specs.declared.numbers.GroupId.{GroupId}
use Rattle.iogr_reference.specs.Octets.{AreBytes}
use Rattle.iogr_reference.specs.declared.choices.TheConstants.{KEY_SIGN, KEY_LENGTH, FIRST_PORT, ID_FRONT, ID_BACK}

-- the object key of a group is the sign, and the group's number in 8 bytes, the highest first
abbrev pub object_key : GroupId → List ℕ
object_key group = KEY_SIGN ++ big_bytes 8 group.0

-- the group whose object key this is
abbrev pub group_of_key : List ℕ → Option GroupId
group_of_key key =
    if length key == KEY_LENGTH && bytes_eq (take 4 key) KEY_SIGN then Some (record { 0 = big_number 8 (drop 4 key) }) else None

pub record KeysNameGroups : Type 0 where
  -- each number is read from its key
  pub read : (group : GroupId) → group.0 < 2 ^ 64 → group_of_key (object_key group) ≡ Some group
  -- and no other key reads as a number
  pub only : (key : List ℕ) (group : GroupId) → AreBytes key → group_of_key key ≡ Some group → key ≡ object_key group

-- the repository id of a type or of a user exception, by its name
abbrev pub repository_id : List ℕ → List ℕ
repository_id name = ID_FRONT ++ name ++ ID_BACK

-- the name of which these bytes are the repository id; none where they are no name's
abbrev pub IsNameOf : List ℕ → Option (List ℕ) → Type 0
IsNameOf id (Some name) = IsName name × (id ≡ repository_id name)
IsNameOf id None = (name : List ℕ) → IsName name → id ≢ repository_id name

-- each name is the one that its id has
abbrev pub IdsNameNames : Type 0
IdsNameNames = (name : List ℕ) (found : Option (List ℕ)) → IsName name → IsNameOf (repository_id name) found → found ≡ Some name

-- the port at which a host listens
abbrev pub port_of : ℕ → ℕ
port_of host = FIRST_PORT + host
