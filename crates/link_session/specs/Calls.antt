-- What a message to a server calls for. (GIOP chapter, "GIOP Message Formats".)
use Rattle.std.specs.List.{All}
use Rattle.ft_contexts.specs.Finding.{IsShort}
use Rattle.giop_messages.specs.declared.messages.Message.{Message}
use Rattle.giop_messages.specs.declared.messages.Message.TheVariants as messages
use Rattle.giop_messages.specs.declared.messages.RequestMsg.{RequestMsg}
use Rattle.group_model.specs.Agreeing.{IsShortAsked}
use Rattle.link_session.specs.declared.calls.Calling.{Calling}
use Rattle.link_session.specs.declared.calls.Calling.TheVariants.{Ask, Locate, Nothing}
use Rattle.link_session.specs.Asked.{asked_of, IsShortBody}

abbrev pub request_of : RequestMsg → Calling
request_of r = Ask r.id r.flags r.key (asked_of r.contexts r.op r.body)

-- a request is asked, and a LocateRequest answered; nothing else that comes to a server calls for anything
abbrev pub calling_of : Message → Calling
calling_of (messages.Request r) = request_of r
calling_of (messages.Reply r) = Nothing
calling_of (messages.Cancel id) = Nothing
calling_of (messages.LocateRequest id key) = Locate id key
calling_of (messages.LocateReply id status) = Nothing
calling_of messages.CloseConnection = Nothing
calling_of messages.MessageError = Nothing
calling_of (messages.Fragment id rest) = Nothing

-- ---- how long a message's parts are

-- the places inside a request's contexts and body fit an unsigned long
pub record IsShortRequest (r : RequestMsg) : Type 0 where
  pub contexts : All IsShort r.contexts
  pub body : IsShortBody r.body

abbrev pub IsShortMessage : Message → Type 0
IsShortMessage (messages.Request r) = IsShortRequest r
IsShortMessage (messages.Reply r) = Unit {0}
IsShortMessage (messages.Cancel id) = Unit {0}
IsShortMessage (messages.LocateRequest id key) = Unit {0}
IsShortMessage (messages.LocateReply id status) = Unit {0}
IsShortMessage messages.CloseConnection = Unit {0}
IsShortMessage messages.MessageError = Unit {0}
IsShortMessage (messages.Fragment id rest) = Unit {0}

abbrev pub IsShortCalling : Calling → Type 0
IsShortCalling (Ask id flags key asked) = IsShortAsked asked
IsShortCalling (Locate id key) = Unit {0}
IsShortCalling Nothing = Unit {0}
