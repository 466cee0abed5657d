-- The values that are numbers.
use Rattle.std.specs.Prelude.{ℕ, ◌+◌, ◌^◌, ◌==◌, Bool, nat_le, if◌then◌else◌, List, take, drop, position, Option, Some, None}
use Rattle.decimal_numbers.specs.Numbers.{number}
use Rattle.property_manager.specs.declared.numbers.IntervalAndTimeout.{IntervalAndTimeout}

abbrev pub at_most : ℕ → Option ℕ → Option ℕ
at_most limit None = None
at_most limit (Some n) = if nat_le n limit then Some n else None

-- the number that a text is, if that is at most the limit
unfoldable pub bounded : ℕ → List ℕ → Option ℕ
bounded limit text = at_most limit (number text)

-- 0 to 16 replicas
abbrev pub replicas : List ℕ → Option ℕ
replicas text = bounded 16 text

-- 0 to 2^62 ticks
abbrev pub ticks : List ℕ → Option ℕ
ticks text = bounded 4611686018427387904 text

-- the numbers of hosts
abbrev pub host : List ℕ → Option ℕ
host text = bounded 63 text

abbrev pub is_slash : ℕ → Bool
is_slash byte = byte == 47

abbrev pub both : Option ℕ → Option ℕ → Option IntervalAndTimeout
both None timeout = None
both (Some interval) None = None
both (Some interval) (Some timeout) = Some (record { interval = record { 0 = interval }; timeout = record { 0 = timeout } })

abbrev pub around : List ℕ → Option ℕ → Option IntervalAndTimeout
around text None = None
around text (Some place) = both (ticks (take place text)) (ticks (drop (place + 1) text))

-- ticks on both sides of the first slash
abbrev pub interval_and_timeout : List ℕ → Option IntervalAndTimeout
interval_and_timeout text = around text (position is_slash text)
