-- How the table files its entries: by the bytes of the retention id and of the client's id.
use Rattle.std.specs.Prelude.{◌≡◌, ◌<◌, ◌≤◌, ◌^◌, ℕ, vec_len, vec_capacity, slice_get, List, ◌++◌, Option, Some, None}
use Rattle.std.specs.Int.{w32, to_be_bytes, cast_unsigned, cast_signed}
use Rattle.std.specs.List.{AllByRecursion}
use Rattle.std.specs.declared.vec.Vec.{Vec}
use Rattle.indexmap.specs.Layout.{set_value_at}
use Rattle.ft_base.specs.declared.requests.Key.{Key}
use Rattle.ft_base.specs.declared.requests.Outcome.{Outcome}
use Rattle.reply_table.specs.Entries.{replied}
use Rattle.reply_table.specs.declared.entries.Retained.{Retained}

unfoldable pub id_of : Key → List ℕ
id_of key = to_be_bytes w32 (cast_unsigned w32 key.retention.0) ++ key.client

pub record IsFiledBy (id : List ℕ) (key : Key) : Type 0 where
  pub is : id ≡ id_of key
  -- the retention id is a number of 32 bits
  pub fits : cast_unsigned w32 key.retention.0 < 2 ^ 32
  pub back : cast_signed w32 (cast_unsigned w32 key.retention.0) ≡ key.retention.0

abbrev pub IsFiledAs : List ℕ → Option Key → Type 0
IsFiledAs id None = ⊥
IsFiledAs id (Some key) = IsFiledBy id key

-- each entry has a key, and is filed by it
abbrev pub AreFiled : {A : Type 0} → List (Vec ℕ A × Retained) → Type 0
AreFiled entries = AllByRecursion (λ e. IsFiledAs e.0.items e.1.request.key) entries

-- where there is memory for the next entry's id, the map has room for the entry
abbrev pub HasRoom : {A : Type 0} → Option (Vec ℕ A) → ℕ → Type 0
HasRoom None room = Unit {0}
HasRoom (Some id) room = (vec_len id ≡ 0) × (259 ≤ vec_capacity id) × (0 < room)

-- the entry at an index was given a reply, where it had none
pub record IsAnsweredAt {A : Type 0} (old new : List (Vec ℕ A × Retained)) (index : ℕ) (outcome : Outcome) : Type 0 where
  pub entry : Vec ℕ A × Retained
  pub at : slice_get old index ≡ Some entry
  pub is : new ≡ set_value_at old index (replied outcome entry.1)
