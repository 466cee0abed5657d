-- Formats: what has a spelling, the spellings of a value (padding may be anything), the one spelling
-- with padding of zeros, and reading. Small formats are joined to larger ones, so that the format of
-- a struct is one line. (GIOP chapter, CDR transfer syntax.)
use Rattle.std.specs.Prelude.{◌≡◌, ℕ, zero, suc, ◌+◌, ◌^◌, ◌<◌, List, [], ◌∷◌, ◌++◌, length, replicate, Option, Some, None, Ok, Err}
use Rattle.std.specs.List.{AllByRecursion}
use Rattle.ft_base.specs.Canonical.{padding}
use Rattle.cdr_codec.specs.declared.orders.Order.{Order}
use Rattle.cdr_codec.specs.declared.faults.CdrWhy.{CdrWhy}
use Rattle.cdr_codec.specs.declared.faults.CdrWhy.TheVariants.{Short}
use Rattle.cdr_codec.specs.Reading.{Reader, reader_at, Fault, fault_at, Read, ◌>>=◌, start, taken, number_in, digits_in, digits_at}

-- the bytes, beginning at a place, spell the value
abbrev pub Spelling : Type 0 → Type 1
Spelling X = Order → ℕ → X → List ℕ → Type 0

abbrev pub Writing : Type 0 → Type 0
Writing X = Order → ℕ → X → List ℕ

-- W is what can be wrong, X the values
pub record Format (W X : Type 0) : Type 1 where
  pub Valid : X → Type 0
  pub Spelled : Spelling X
  pub written : Writing X
  pub read : Reader → Read W X

-- ---- an unsigned number of 1, 2, 4 or 8 bytes stands at a multiple of its size

pub record SpellsNumber (size : ℕ) (order : Order) (place n : ℕ) (bytes : List ℕ) : Type 0 where
  pub pad : List ℕ
  pub digits : List ℕ
  pub is : bytes ≡ pad ++ digits
  pub aligned : length pad ≡ padding place size
  pub sized : length digits ≡ size
  pub value : n ≡ number_in order size digits

abbrev pub written_number : ℕ → Writing ℕ
written_number size order place n = replicate (padding place size) 0 ++ digits_in order size n

abbrev pub number : ℕ → Format CdrWhy ℕ
number size = record {
  Valid = λ n. n < 256 ^ size;
  Spelled = SpellsNumber size;
  written = written_number size;
  read = λ r. digits_at size r >>= λ d. Ok (number_in r.order size d.0, d.1);
}

-- ---- a sequence of octets is its length, and that many bytes

pub record SpellsOctets (order : Order) (place : ℕ) (octets bytes : List ℕ) : Type 0 where
  pub front : List ℕ
  pub is : bytes ≡ front ++ octets
  pub counted : SpellsNumber 4 order place (length octets) front

abbrev pub octets : Format CdrWhy (List ℕ)
octets = record {
  Valid = λ xs. length xs < 2 ^ 32;
  Spelled = SpellsOctets;
  written = λ order place xs. written_number 4 order place (length xs) ++ xs;
  read = λ r. (number 4).read r >>= λ n. taken 0 n.0 (start 4 r.place) n.1;
}

-- ---- bytes with no count, at a multiple of a number

abbrev pub written_piece : ℕ → Writing (List ℕ)
written_piece align order place piece = replicate (padding place align) 0 ++ piece

-- ---- nothing at all, which stands for one value

abbrev pub nothing : {W X : Type 0} → X → Format W X
nothing x = record {
  Valid = λ y. y ≡ x;
  Spelled = λ order place y bytes. (y ≡ x) × (bytes ≡ []);
  written = λ order place y. [];
  read = λ r. Ok (x, r);
}

-- ---- a value, and behind it one whose format depends on the first

pub record SpellsPair {X Y : Type 0} (f : Spelling X) (g : X → Spelling Y) (order : Order) (place : ℕ) (x : X × Y) (bytes : List ℕ) : Type 0 where
  pub front : List ℕ
  pub back : List ℕ
  pub is : bytes ≡ front ++ back
  pub first : f order place x.0 front
  pub second : g x.0 order (place + length front) x.1 back

abbrev pub written_pair : {X Y : Type 0} → Writing X → (X → Writing Y) → Writing (X × Y)
written_pair f g order place x = f order place x.0 ++ g x.0 order (place + length (f order place x.0)) x.1

abbrev pub followed : {W X Y : Type 0} → Format W X → (X → Format W Y) → Format W (X × Y)
followed f g = record {
  Valid = λ x. f.Valid x.0 × (g x.0).Valid x.1;
  Spelled = SpellsPair f.Spelled (λ a. (g a).Spelled);
  written = written_pair f.written (λ a. (g a).written);
  read = λ r. f.read r >>= λ a. (g a.0).read a.1 >>= λ b. Ok ((a.0, b.0), b.1);
}

-- ---- a value that means another, or is refused at a place that its own place gives

pub record SpellsJudged {X Y : Type 0} (f : Spelling X) (meaning : X → Option Y) (order : Order) (place : ℕ) (y : Y) (bytes : List ℕ) : Type 0 where
  pub sign : X
  pub spelled : f order place sign bytes
  pub means : meaning sign ≡ Some y

abbrev pub judge : {W Y : Type 0} → Option Y → Reader → Fault W → Read W Y
judge None after wrong = Err wrong
judge (Some y) after wrong = Ok (y, after)

abbrev pub judged_at : {W X Y : Type 0} → Format W X → (ℕ → ℕ) → W → (X → Option Y) → (Y → X) → Format W Y
judged_at f place_of why meaning sign = record {
  Valid = λ y. f.Valid (sign y) × (meaning (sign y) ≡ Some y);
  Spelled = SpellsJudged f.Spelled meaning;
  written = λ order place y. f.written order place (sign y);
  read = λ r. f.read r >>= λ x. judge (meaning x.0) x.1 (fault_at why (place_of r.place));
}

-- refused at the place where the value begins, behind its padding
abbrev pub judged : {W X Y : Type 0} → Format W X → ℕ → W → (X → Option Y) → (Y → X) → Format W Y
judged f size why meaning sign = judged_at f (start size) why meaning sign

-- ---- a value in another form: a pair as a record

abbrev pub shaped : {W X Y : Type 0} → Format W X → (X → Y) → (Y → X) → Format W Y
shaped f to from = record {
  Valid = λ y. f.Valid (from y);
  Spelled = λ order place y bytes. f.Spelled order place (from y) bytes;
  written = λ order place y. f.written order place (from y);
  read = λ r. f.read r >>= λ x. Ok (to x.0, x.1);
}

-- ---- a sequence is its count, and that many elements

abbrev pub SpellsEach : {X : Type 0} → Spelling X → Spelling (List X)
SpellsEach f order place [] bytes = bytes ≡ []
SpellsEach f order place (x ∷ xs) bytes =
    (front : List ℕ) × (back : List ℕ) × (bytes ≡ front ++ back) × f order place x front
    × SpellsEach f order (place + length front) xs back

pub record SpellsSequence {X : Type 0} (f : Spelling X) (order : Order) (place : ℕ) (xs : List X) (bytes : List ℕ) : Type 0 where
  pub front : List ℕ
  pub back : List ℕ
  pub is : bytes ≡ front ++ back
  pub counted : SpellsNumber 4 order place (length xs) front
  pub each : SpellsEach f order (place + length front) xs back

abbrev pub written_each : {X : Type 0} → Writing X → Writing (List X)
written_each f order place [] = []
written_each f order place (x ∷ xs) = f order place x ++ written_each f order (place + length (f order place x)) xs

abbrev pub written_sequence : {X : Type 0} → Writing X → Writing (List X)
written_sequence f order place xs =
    let front = written_number 4 order place (length xs) in front ++ written_each f order (place + length front) xs

-- this many elements, one behind the other
unfoldable pub read_each : {W X : Type 0} → (Reader → Read W X) → ℕ → Reader → Read W (List X)
read_each read zero r = Ok ([], r)
read_each read (suc n) r = read r >>= λ x. read_each read n x.1 >>= λ xs. Ok (x.0 ∷ xs.0, xs.1)

abbrev pub sequence : {X : Type 0} → Format CdrWhy X → Format CdrWhy (List X)
sequence f = record {
  Valid = λ xs. (length xs < 2 ^ 32) × AllByRecursion f.Valid xs;
  Spelled = SpellsSequence f.Spelled;
  written = written_sequence f.written;
  read = λ r. (number 4).read r >>= λ n. read_each f.read n.0 n.1;
}

-- ---- the same values where more can be wrong

abbrev pub lift : {V W X : Type 0} → (V → W) → Read V X → Read W X
lift up (Ok x) = Ok x
lift up (Err e) = Err (fault_at (up e.why) e.place)

abbrev pub lifted : {V W X : Type 0} → (V → W) → Format V X → Format W X
lifted up f = record { Valid = f.Valid; Spelled = f.Spelled; written = f.written; read = λ r. lift up (f.read r) }

-- ---- the same values, always in this byte order

abbrev pub in_order : {W X : Type 0} → Order → Format W X → Format W X
in_order order f = record {
  Valid = f.Valid;
  Spelled = λ other place x bytes. f.Spelled order place x bytes;
  written = λ other place x. f.written order place x;
  read = λ r. f.read (reader_at order r.place r.rest) >>= λ x. Ok (x.0, reader_at r.order x.1.place x.1.rest);
}

-- ---- an octet that may be anything, and is written as this one

abbrev pub any_octet : ℕ → Format CdrWhy (Unit {0})
any_octet n = judged (number 1) 1 Short (λ octet. Some tt) (λ u. n)

-- ---- octets behind a number that says what they are: a profile, a component, a service context

abbrev pub tagged : {X : Type 0} → (ℕ × List ℕ → X) → (X → ℕ × List ℕ) → Format CdrWhy X
tagged to from = shaped (followed (number 4) (λ tag. octets)) to from

abbrev pub all_tagged : {X : Type 0} → (ℕ × List ℕ → X) → (X → ℕ × List ℕ) → Format CdrWhy (List X)
all_tagged to from = sequence (tagged to from)
