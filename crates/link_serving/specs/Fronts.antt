-- The first header of a link.
use Rattle.std.specs.Prelude.{ℕ, Bool, true, false, if◌then◌else◌, nat_lt, List, length, take, Result, Ok, Err}
use Rattle.cdr_codec.specs.Reading.{Fault}
use Rattle.giop_messages.specs.declared.faults.Why.{Why}
use Rattle.giop_messages.specs.declared.heads.Head.{Head}
use Rattle.giop_messages.specs.declared.heads.Kind.{Kind}
use Rattle.giop_messages.specs.declared.heads.Kind.TheVariants as kinds
use Rattle.giop_messages.specs.declared.heads.TheConstants.{HEAD_LENGTH}
use Rattle.giop_messages.specs.Heads.{head_in}

abbrev pub is_close : Kind → Bool
is_close kinds.Request = false
is_close kinds.Reply = false
is_close kinds.CancelRequest = false
is_close kinds.LocateRequest = false
is_close kinds.LocateReply = false
is_close kinds.CloseConnection = true
is_close kinds.MessageError = false
is_close kinds.Fragment = false

abbrev pub says_close : Result Head (Fault Why) → Bool
says_close (Ok head) = is_close head.kind
says_close (Err fault) = false

-- these bytes are a header, that of a CloseConnection
abbrev pub is_close_in : List ℕ → Bool
is_close_in front = if nat_lt (length front) HEAD_LENGTH then false else says_close (head_in front)

-- the first message of a link with these bytes is a CloseConnection
abbrev pub is_closed_first : List ℕ → Bool
is_closed_first bytes = is_close_in (take HEAD_LENGTH bytes)
