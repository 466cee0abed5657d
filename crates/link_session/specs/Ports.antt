-- What a host makes of a link's messages: to each what is answered, and how the link ends. (GIOP chapter, "GIOP
-- Message Transfer".)
use Rattle.std.specs.Prelude.{ℕ, ◌%◌, ◌==◌, Bool, if◌then◌else◌, List, [], ◌∷◌, Option, Some, None}
use Rattle.cdr_codec.specs.declared.orders.Order.TheVariants.{Big}
use Rattle.giop_messages.specs.declared.faults.Why.{Why}
use Rattle.giop_messages.specs.declared.faults.Why.TheVariants as causes
use Rattle.giop_messages.specs.declared.forms.Form.{Form}
use Rattle.giop_messages.specs.declared.messages.Message.{Message}
use Rattle.giop_messages.specs.declared.messages.Message.TheVariants.{MessageError}
use Rattle.giop_messages.specs.Messages.{giop}
use Rattle.giop_messages.specs.Writing.{written_message}
use Rattle.giop_stream.specs.declared.sessions.StreamEnd.{StreamEnd}
use Rattle.giop_stream.specs.declared.sessions.StreamEnd.TheVariants.{Closed, Malformed, TooLarge}
use Rattle.giop_stream.specs.Parts.{Received}
use Rattle.giop_stream.specs.Sessions.{Session, session}
use Rattle.group_model.specs.declared.asking.Asked.{Asked}
use Rattle.host_server.specs.declared.answers.PortAnswer.{PortAnswer}
use Rattle.host_server.specs.Replies.{reply_to, locate_reply_to}
use Rattle.link_session.specs.declared.calls.Calling.{Calling}
use Rattle.link_session.specs.declared.calls.Calling.TheVariants.{Ask, Locate, Nothing}
use Rattle.link_session.specs.Calls.{calling_of}

-- how an answer is written, if it is
abbrev pub Replying : Type 0
Replying = PortAnswer → Option (List ℕ)

-- a host, as the functions of its owner's state that a link to it uses
pub record Port (P : Type 0) : Type 0 where
  -- a request with this object key comes, and its answer is written so: the state after it
  pub ask : P → List ℕ → Asked → Replying → P
  -- whether the object with this key is at the host
  pub here : P → List ℕ → Bool
  -- what becomes of bytes that the host writes on the link
  pub write : P → List ℕ → P

-- ---- what is written

-- a request asks for a reply by bit 0 of its flags
abbrev pub reply_of : ℕ → ℕ → Form → PortAnswer → Option (List ℕ)
reply_of id flags form answer = if flags % 2 == 1 then Some (written_message (reply_to id form answer) form) else None

abbrev pub locate_reply_of : ℕ → Form → Bool → List ℕ
locate_reply_of id form here = written_message (locate_reply_to id here) form

abbrev pub message_error : List ℕ
message_error = written_message MessageError (giop 2 Big)

-- a malformed link is answered by a MessageError, but for one that is cut off
abbrev pub malformed_error : Why → Option (List ℕ)
malformed_error causes.Magic = Some message_error
malformed_error causes.Version = Some message_error
malformed_error causes.Flags = Some message_error
malformed_error causes.Kind = Some message_error
malformed_error causes.Length = Some message_error
malformed_error causes.Open = Some message_error
malformed_error causes.Cut = None
malformed_error causes.Short = Some message_error
malformed_error causes.BadBool = Some message_error
malformed_error causes.BadString = Some message_error
malformed_error causes.BadOrder = Some message_error
malformed_error causes.Address = Some message_error
malformed_error causes.Status = Some message_error

abbrev pub end_error : StreamEnd → Option (List ℕ)
end_error Closed = None
end_error (Malformed why place) = malformed_error why
end_error (TooLarge size) = Some message_error

-- ---- what becomes of the host's owner

abbrev pub written_by : {P : Type 0} → (P → List ℕ → P) → P → Option (List ℕ) → P
written_by write p None = p
written_by write p (Some bytes) = write p bytes

abbrev pub writes : {P : Type 0} → Port P → P → Option (List ℕ) → P
writes port p bytes = written_by port.write p bytes

abbrev pub called : {P : Type 0} → Port P → P → Form → Calling → P
called port p form (Ask id flags key asked) = port.ask p key asked (reply_of id flags form)
called port p form (Locate id key) = port.write p (locate_reply_of id form (port.here p key))
called port p form Nothing = p

-- a message in this form comes to the host
abbrev pub step : {P : Type 0} → Port P → P → Message → Form → P
step port p message form = called port p form (calling_of message)

-- the messages of a session, one after another
unfoldable pub served : {P : Type 0} → Port P → P → List Received → P
served port p [] = p
served port p (m ∷ ms) = served port (step port p m.0 m.1) ms

abbrev pub ended : {P : Type 0} → Port P → P → StreamEnd → P
ended port p end = writes port p (end_error end)

abbrev pub session_served : {P : Type 0} → Port P → P → Session → P
session_served port p s = ended port (served port p s.messages) s.end

-- what becomes of a link with these bytes: its session is served, and then its end answered
abbrev pub linked : {P : Type 0} → Port P → P → List ℕ → P
linked port p bytes = session_served port p (session bytes)
