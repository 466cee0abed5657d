-- What stands at the front of the bytes of a link: the header of a message or a part is judged as soon as
-- its twelve bytes are there. (GIOP chapter, "GIOP Message Header" and "Fragment Message".)
use Rattle.std.specs.Prelude.{◌≡◌, ◌≤◌, ℕ, ◌+◌, ◌%◌, ◌==◌, ◌&&◌, not, nat_lt, if◌then◌else◌, List, length, take, Option, Some, None, Result, Ok, Err}
use Rattle.giop_messages.specs.declared.faults.Why.TheVariants as causes
use Rattle.giop_messages.specs.declared.heads.Head.{Head}
use Rattle.giop_messages.specs.Heads.{head_in, more_in, flags_fit}
use Rattle.giop_messages.specs.declared.heads.TheConstants.{HEAD_LENGTH, MESSAGE_LIMIT}
use Rattle.giop_stream.specs.declared.faults.StreamFault.{StreamFault}
use Rattle.giop_stream.specs.declared.faults.StreamFault.TheVariants as faults
use Rattle.giop_stream.specs.declared.fronts.Front.{Front}
use Rattle.giop_stream.specs.declared.fronts.Front.TheVariants.{Partly, Wrong, Whole}
use Rattle.giop_stream.specs.Faults.{told}

-- the number of bytes of a message or part, with its header
abbrev pub total : Head → ℕ
total h = HEAD_LENGTH + h.size

-- how many bytes are needed at the front: a header's, or, where it was judged, those that it says
abbrev pub needed : Option Head → ℕ
needed None = HEAD_LENGTH
needed (Some h) = total h

-- The header of a message of at most 1 MiB, whose flags fit its type; each part but the last of a message
-- has a length that is a multiple of 8.
abbrev pub framed : Head → Result Head StreamFault
framed h =
    if nat_lt MESSAGE_LIMIT (total h) then Err (faults.TooLarge (total h))
    else (if not (flags_fit h) then Err (faults.Malformed causes.Flags 6)
    else (if more_in h && not (total h % 8 == 0) then Err (faults.Malformed causes.Length 8)
    else Ok h))

abbrev pub framed_by : Result Head StreamFault → Result Head StreamFault
framed_by (Ok h) = framed h
framed_by (Err fault) = Err fault

-- the header in these twelve bytes, or what is wrong with it
unfoldable pub head_at : List ℕ → Result Head StreamFault
head_at bytes = framed_by (told (head_in bytes))

abbrev pub if_read : Result Head StreamFault → Result (Option Head) StreamFault
if_read (Ok h) = Ok (Some h)
if_read (Err fault) = Err fault

-- the header at the front of these bytes, if its twelve bytes are there
abbrev pub header_at_front : List ℕ → Result (Option Head) StreamFault
header_at_front bytes = if nat_lt (length bytes) HEAD_LENGTH then Ok None else if_read (head_at (take HEAD_LENGTH bytes))

abbrev pub read_of : Result (Option Head) StreamFault → Option Head
read_of (Ok head) = head
read_of (Err fault) = None

-- the header at the front that was judged, if one is there and nothing is wrong with it
abbrev pub judged_front : List ℕ → Option Head
judged_front bytes = read_of (header_at_front bytes)

-- this header was judged at the front of these bytes
abbrev pub IsJudgedAt : Option Head → List ℕ → Type 0
IsJudgedAt None bytes = Unit {0}
IsJudgedAt (Some h) bytes = (HEAD_LENGTH ≤ length bytes) × (head_at (take HEAD_LENGTH bytes) ≡ Ok h) × (total h ≤ MESSAGE_LIMIT)

abbrev pub IsJudgedHead : Result (Option Head) StreamFault → List ℕ → Type 0
IsJudgedHead (Ok head) bytes = IsJudgedAt head bytes
IsJudgedHead (Err fault) bytes = Unit {0}

-- no header was judged before, where none is answered
abbrev pub IsUnjudged : Result (Option Head) StreamFault → Option Head → Type 0
IsUnjudged (Ok None) head = head ≡ None
IsUnjudged (Ok (Some h)) head = Unit {0}
IsUnjudged (Err fault) head = head ≡ None

abbrev pub fronted : List ℕ → Result Head StreamFault → Front
fronted bytes (Err fault) = Wrong fault
fronted bytes (Ok h) = if nat_lt (length bytes) (total h) then Partly else Whole h

-- what stands at the front: part of a message or less, a wrong header, or a whole message or part
abbrev pub front : List ℕ → Front
front bytes = if nat_lt (length bytes) HEAD_LENGTH then Partly else fronted bytes (head_at (take HEAD_LENGTH bytes))

-- a whole message or part has at most 1 MiB, and all its bytes are there
abbrev pub IsWithin : Front → List ℕ → Type 0
IsWithin Partly bytes = Unit {0}
IsWithin (Wrong fault) bytes = Unit {0}
IsWithin (Whole h) bytes = (total h ≤ MESSAGE_LIMIT) × (total h ≤ length bytes)
