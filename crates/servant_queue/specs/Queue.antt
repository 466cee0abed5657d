-- The queue: items of 16 bytes, of which the oldest is popped first, and what the operations make of them.
use Rattle.std.specs.Prelude.{◌≡◌, ℕ, zero, suc, ◌+◌, ◌-◌, ◌^◌, ◌≤◌, ◌==◌, ◌&&◌, Bool, true, not, nat_lt, nat_le, if◌then◌else◌, List, [], ◌∷◌, ◌++◌, length, take, drop, Option, Some, None, option_map, codes}
use Rattle.std.specs.List.{concat, list_all}
use Rattle.byteorder.specs.Endian.{big_bytes, big_number}
use Rattle.ft_base.specs.Canonical.{number_at, octets_at}
use Rattle.ft_base.specs.Coding.{Coding, machine_of, said}
use Rattle.ft_base.specs.Machine.{Machine}
use Rattle.ft_base.specs.declared.requests.Outcome.{Outcome}
use Rattle.ft_base.specs.declared.requests.Outcome.TheVariants.{Value, User}
use Rattle.servant_queue.specs.Operations.{operation_of, signature_of}
use Rattle.servant_queue.specs.declared.operations.Operation.{Operation}
use Rattle.servant_queue.specs.declared.operations.Operation.TheVariants.{Push, Pop, Length}

-- how many items were popped since the queue opened, and the items that are there, the oldest first
pub record Contents : Type 0 where
  pub popped : ℕ
  pub items : List (List ℕ)

abbrev pub is_item : List ℕ → Bool
is_item item = length item == 16

-- at most 2^63 items were popped, and at most 4,096 are there
abbrev pub is_contents : Contents → Bool
is_contents q = nat_le q.popped (2 ^ 63) && (nat_le (length q.items) 4096 && list_all is_item q.items)

-- the same by its parts
pub record IsContents (q : Contents) : Type 0 where
  pub popped : q.popped ≤ 2 ^ 63
  pub few : length q.items ≤ 4096
  pub sized : list_all is_item q.items ≡ true

-- ---- bytes: the number popped in eight, the number of items in two, and the items

abbrev pub spelled : Contents → List ℕ
spelled q = big_bytes 8 q.popped ++ (big_bytes 2 (length q.items) ++ concat q.items)

-- this many items, one behind the other
unfoldable pub items_in : ℕ → List ℕ → List (List ℕ)
items_in zero bytes = []
items_in (suc n) bytes = take 16 bytes ∷ items_in n (drop 16 bytes)

abbrev pub read : List ℕ → Option Contents
read bytes = Some (record { popped = big_number 8 bytes; items = items_in (big_number 2 (drop 8 bytes)) (drop 10 bytes) })

-- what bytes spell
unfoldable pub contents_in : List ℕ → Option Contents
contents_in bytes = said is_contents spelled read bytes

-- ---- operations

-- a number as an operation gives it
abbrev pub told : ℕ → Outcome
told n = Value (number_at 4 0 n)

-- the octets that arguments say: they stand behind their count
abbrev pub item_of : List ℕ → List ℕ
item_of args = drop 4 args

-- an item joins at the end, and the new length is told; refused where it hasn't 16 bytes, and where the
-- queue is full
abbrev pub pushed : Contents → List ℕ → Contents × Outcome
pushed q item =
    if not (is_item item) then (q, User (codes "BadItem"))
    else (if nat_le 4096 (length q.items) then (q, User (codes "QueueFull"))
    else (record q { items = q.items ++ item ∷ [] }, told (length q.items + 1)))

-- the oldest item leaves, and is told; refused where there is none, and where 2^63 were popped
abbrev pub popped_from : Contents → List (List ℕ) → Contents × Outcome
popped_from q [] = (q, User (codes "QueueEmpty"))
popped_from q (item ∷ rest) =
    if nat_le (2 ^ 63) q.popped then (q, User (codes "QueueSpent"))
    else (record { popped = q.popped + 1; items = rest }, Value (octets_at 0 item))

-- the contents after an operation, and its outcome; an operation that there is not gives nothing
abbrev pub ran : Option Operation → Contents → List ℕ → Contents × Outcome
ran None q args = (q, Value [])
ran (Some Push) q args = pushed q (item_of args)
ran (Some Pop) q args = popped_from q q.items
ran (Some Length) q args = (q, told (length q.items))

-- ---- updates: the number popped by now, and the items that were pushed since and are still there

-- how many of the base's items are still there
abbrev pub kept : Contents → ℕ → ℕ
kept base popped = length base.items - (popped - base.popped)

abbrev pub since : Contents → Contents → Contents
since base later = record later { items = drop (kept base later.popped) later.items }

-- the base without the items that were popped since, and then the new ones; none where fewer were popped, or
-- where there would be too many
abbrev pub joined : Contents → Contents → Contents
joined base new = record new { items = drop (new.popped - base.popped) base.items ++ new.items }

abbrev pub advanced : Contents → Option Contents → Option Contents
advanced base None = None
advanced base (Some new) =
    if nat_lt new.popped base.popped then None
    else (if nat_lt 4096 (length (joined base new).items) then None else Some (joined base new))

-- ---- the queue as a servant

unfoldable pub queue : Coding Contents
queue = record {
  signature = λ op. option_map signature_of (operation_of op);
  opening = record { popped = 0; items = [] };
  valid = is_contents;
  spelled = spelled;
  read = read;
  step = λ q request. ran (operation_of request.op) q request.args;
  delta = λ base later. spelled (since base later);
  applied = λ base update. advanced base (contents_in update);
}

-- the same over state bytes
abbrev pub queue_machine : Machine
queue_machine = machine_of queue
