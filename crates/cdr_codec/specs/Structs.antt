-- A struct is its fields, one behind the other. Each is read from the struct by its name, and the
-- format of those behind it may depend on its value.
use Rattle.std.specs.Prelude.{◌≡◌, ℕ, ◌+◌, List, ◌++◌, length}
use Rattle.cdr_codec.specs.declared.orders.Order.{Order}
use Rattle.cdr_codec.specs.Reading.{◌>>=◌}
use Rattle.cdr_codec.specs.Formats.{Spelling, Format, nothing}
use Rattle.cdr_codec.specs.Calls.{Writer, appended}

pub data Fields (W S : Type 0) : Type 1 where
  -- the format of a field, the field of a struct, and the fields behind one of this value
  field : {A : Type 0} → Format W A → (S → A) → (A → Fields W S) → Fields W S
  -- all fields are known, and this is the struct
  whole : S → Fields W S

pub record SpellsField {A S : Type 0} (f : Spelling A) (rest : A → Spelling S) (order : Order) (place : ℕ) (x : S) (bytes : List ℕ) : Type 0 where
  pub value : A
  pub front : List ℕ
  pub back : List ℕ
  pub is : bytes ≡ front ++ back
  pub first : f order place value front
  pub others : rest value order (place + length front) x back

abbrev pub struct : {W S : Type 0} → Fields W S → Format W S
struct (whole x) = nothing x
struct (field f name rest) = record {
  Valid = λ x. f.Valid (name x) × (struct (rest (name x))).Valid x;
  Spelled = SpellsField f.Spelled (λ a. (struct (rest a)).Spelled);
  written = λ order place x.
      let front = f.written order place (name x) in front ++ (struct (rest (name x))).written order (place + length front) x;
  read = λ r. f.read r >>= λ a. (struct (rest a.0)).read a.1;
}

-- the writer behind the fields of a struct
abbrev pub appended_fields : {W S : Type 0} → Fields W S → S → Writer → Writer
appended_fields (whole x) s w = w
appended_fields (field f name rest) s w = appended_fields (rest (name s)) s (appended f.written (name s) w)
