-- What ties a format's reading and writing to its spellings. Each format of this crate and of the
-- crates above is such a codec.
use Rattle.std.specs.Prelude.{◌≡◌, ◌↔◌, ℕ, ◌+◌, List, ◌++◌, length, Ok, Err, IsErr}
use Rattle.cdr_codec.specs.declared.orders.Order.{Order}
use Rattle.cdr_codec.specs.Reading.{Reader, reader_at, longer, Fault}
use Rattle.cdr_codec.specs.Formats.{Spelling, Format}

-- the reader went over these bytes
pub record Moved (r : Reader) (bytes : List ℕ) (after : Reader) : Type 0 where
  pub is : r.rest ≡ bytes ++ after.rest
  pub at_end : after ≡ reader_at r.order (r.place + length bytes) after.rest

-- the reader went over a spelling of the value
pub record Took {X : Type 0} (spells : Spelling X) (r : Reader) (y : X × Reader) : Type 0 where
  pub bytes : List ℕ
  pub moved : Moved r bytes y.1
  pub spelled : spells r.order r.place y.0 bytes

-- no bytes at the front of the rest spell a value
abbrev pub IsNowhere : {X : Type 0} → Spelling X → Reader → Type 0
IsNowhere {X} spells r = (x : X) (bytes after : List ℕ) → r.rest ≡ bytes ++ after → spells r.order r.place x bytes → ⊥

-- `short` is the cause where the text ends inside a value
pub record IsCodec {W X : Type 0} (short : W) (f : Format W X) : Type 0 where
  -- what is read is spelled there
  pub found : (r : Reader) (y : X × Reader) → f.read r ≡ Ok y → Took f.Spelled r y
  -- what is spelled is read, whatever follows
  pub again : (order : Order) (place : ℕ) (x : X) (bytes rest : List ℕ) → f.Spelled order place x bytes
      → f.read (reader_at order place (bytes ++ rest)) ≡ Ok (x, reader_at order (place + length bytes) rest)
  -- the spelling with padding of zeros is one
  pub spells : (order : Order) (place : ℕ) (x : X) → f.Valid x → f.Spelled order place x (f.written order place x)
  -- a fault that isn't `short` stands however the text goes on, so `short` comes before all others
  pub stands : (r : Reader) (e : Fault W) (more : List ℕ) → f.read r ≡ Err e → (e.why ≡ short → ⊥) → f.read (longer r more) ≡ Err e

-- a read is refused exactly where no bytes at the front of the rest spell a value
abbrev pub RefusesExactly : {W X : Type 0} → Format W X → Type 0
RefusesExactly f = (r : Reader) → IsErr (f.read r) ↔ IsNowhere f.Spelled r

-- what is written is read again, whatever follows
abbrev pub ReadsBack : {W X : Type 0} → Format W X → Type 0
ReadsBack {X = X} f = (order : Order) (place : ℕ) (x : X) (more : List ℕ) → f.Valid x
    → f.read (reader_at order place (f.written order place x ++ more)) ≡ Ok (x, reader_at order (place + length (f.written order place x)) more)
