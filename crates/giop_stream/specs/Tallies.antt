-- How many bytes belong to no whole message, counted over the headers of the bytes that wait, and the ids of
-- their parts.
use Rattle.std.specs.Prelude.{◌≡◌, ℕ, ◌+◌, ◌==◌, nat_lt, if◌then◌else◌, Bool, List, [], ◌∷◌, ◌++◌, length, map, drop, remove, position, slice_get, slice_set, sum_by, Option, Some, None, Result, Ok, Err}
use Rattle.giop_messages.specs.declared.heads.Head.{Head}
use Rattle.giop_messages.specs.Heads.{more_in}
use Rattle.cdr_codec.specs.Orders.{order_of}
use Rattle.giop_stream.specs.declared.begun.TheConstants.{FRAGMENT_HEAD}
use Rattle.giop_stream.specs.declared.faults.StreamFault.{StreamFault}
use Rattle.giop_stream.specs.declared.tallies.Brief.{Brief}
use Rattle.giop_stream.specs.Parts.{Begun, begun_limit, capped, id_in, is_fragment}
use Rattle.giop_stream.specs.Streams.{Rest, stream_on}

-- of a begun message, what the count needs
abbrev pub brief : Begun → Brief
brief o = record { id = o.id; spent = o.spent }

abbrev pub briefs : List Begun → List Brief
briefs os = map brief os

abbrev pub brief_place : ℕ → List Brief → Option ℕ
brief_place id bs = position (λ (b : Brief). b.id == id) bs

abbrev pub spent_by : List Brief → ℕ
spent_by bs = sum_by (λ (b : Brief). b.spent) bs

-- with one more fragment
abbrev pub counted : Brief → List ℕ → Brief
counted b part = record { id = b.id; spent = capped (b.spent + (FRAGMENT_HEAD + length (drop FRAGMENT_HEAD part))) }

abbrev pub tally_at : List Brief → ℕ → Bool → List ℕ → Option Brief → List Brief
tally_at bs at more part None = bs
tally_at bs at more part (Some b) = if more then slice_set bs at (counted b part) else remove bs at

abbrev pub tally_placed : List Brief → Bool → List ℕ → Option ℕ → List Brief
tally_placed bs more part None = bs
tally_placed bs more part (Some at) = tally_at bs at more part (slice_get bs at)

abbrev pub tally_fragment : List Brief → Bool → List ℕ → Result ℕ StreamFault → List Brief
tally_fragment bs more part (Ok id) = tally_placed bs more part (brief_place id bs)
tally_fragment bs more part (Err fault) = bs

abbrev pub tally_first : List Brief → List ℕ → Result ℕ StreamFault → List Brief
tally_first bs part (Ok id) = if nat_lt (length bs) begun_limit then bs ++ record { id = id; spent = length part } ∷ [] else bs
tally_first bs part (Err fault) = bs

-- the begun messages after a whole message or part that is at no fault
unfoldable pub tally : List Brief → Head → List ℕ → List Brief
tally bs h part =
    if is_fragment h.kind then tally_fragment bs (more_in h) part (id_in (order_of h.flags) part)
    else (if more_in h then tally_first bs part (id_in (order_of h.flags) part) else bs)

-- these bytes, where such messages are begun, leave so many that belong to no whole message
pub record Left (bs : List Brief) (bytes : List ℕ) (n : ℕ) : Type 0 where
  pub begun : List Begun
  pub is : briefs begun ≡ bs
  pub ends : (stream_on begun bytes).end ≡ Rest n
