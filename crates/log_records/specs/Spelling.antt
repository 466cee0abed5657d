-- Which record a piece of bytes spells: in big endian order the octet of its form and its fields, in any of
-- their spellings, and nothing behind them.
use Rattle.std.specs.Prelude.{◌≡◌, ℕ, ◌+◌, ◌<◌, List, ◌∷◌, length, Option, Some, None}
use Rattle.cdr_codec.specs.declared.orders.Order.TheVariants.{Big}
use Rattle.log_records.specs.Records.{formed, entry, view, checkpoint}
use Rattle.log_records.specs.declared.records.Record.{Record}
use Rattle.log_records.specs.declared.records.Record.TheVariants as records

abbrev pub SpellsForm : Record → List ℕ → Type 0
SpellsForm (records.Entry e) bytes = (formed 1 entry).Spelled Big 1 e bytes
SpellsForm (records.View v) bytes = (formed 2 view).Spelled Big 1 v bytes
SpellsForm (records.Checkpoint k) bytes = (formed 3 checkpoint).Spelled Big 1 k bytes

pub record SpellsRecord (piece : List ℕ) (told : Record) : Type 0 where
  pub bytes : List ℕ
  -- the octet of big endian order comes first
  pub is : piece ≡ 0 ∷ bytes
  pub spelled : SpellsForm told bytes
  -- the places of a record are unsigned longs
  pub short : length piece + 8 < 4294967296

-- a piece is this record, or it spells none
abbrev pub IsSpelledAs : List ℕ → Option Record → Type 0
IsSpelledAs piece (Some told) = SpellsRecord piece told
IsSpelledAs piece None = (told : Record) → SpellsRecord piece told → ⊥
