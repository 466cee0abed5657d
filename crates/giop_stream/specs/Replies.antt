-- What a client reads of a link: the Replies before the first message that ends the link, and how the link ends. Other
-- messages say nothing to it. (GIOP chapter, "GIOP Message Transfer": CloseConnection and MessageError end a connection.)
use Rattle.std.specs.Prelude.{◌≡◌, ◌<◌, ◌≤◌, ℕ, List, [], ◌∷◌, ◌++◌, length, Option, Some, None, Result, Ok, Err}
use Rattle.ft_base.specs.declared.memory.NoMemory.{NoMemory}
use Rattle.giop_messages.specs.declared.forms.Form.{Form}
use Rattle.giop_messages.specs.declared.messages.Message.{Message}
use Rattle.giop_messages.specs.declared.messages.Message.TheVariants as messages
use Rattle.giop_messages.specs.declared.messages.ReplyMsg.{ReplyMsg}
use Rattle.giop_stream.specs.declared.faults.StreamFault.{StreamFault}
use Rattle.giop_stream.specs.declared.sessions.StreamEnd.{StreamEnd}
use Rattle.giop_stream.specs.declared.sessions.StreamEnd.TheVariants.{Closed}
use Rattle.giop_stream.specs.declared.replies.ReplyStep.{ReplyStep}
use Rattle.giop_stream.specs.declared.replies.ReplyStep.TheVariants as steps
use Rattle.giop_stream.specs.Parts.{Received}
use Rattle.giop_stream.specs.Streams.{Rest, Streamed, stream}
use Rattle.giop_stream.specs.Frames.{Frames, Stands, resume}
use Rattle.giop_stream.specs.Sessions.{IsOfLink, Serving, fault_end, rest_end, stream_end}
use Rattle.giop_stream.specs.Spelled.{IsSpelled}

-- the Replies, in order, and the end of the link
pub record Replies : Type 0 where
  pub replies : List ReplyMsg
  pub end : StreamEnd

abbrev pub no_replies : StreamEnd → Replies
no_replies end = record { replies = []; end = end }

-- these Replies before others
abbrev pub replies_before : List ReplyMsg → Replies → Replies
replies_before rs l = record { replies = rs ++ l.replies; end = l.end }

-- a message, and what is read of the link behind it
abbrev pub message_before : Message → Replies → Replies
message_before (messages.Request r) l = l
message_before (messages.Reply r) l = replies_before (r ∷ []) l
message_before (messages.Cancel id) l = l
message_before (messages.LocateRequest id key) l = l
message_before (messages.LocateReply id status) l = l
message_before messages.CloseConnection l = no_replies Closed
message_before messages.MessageError l = no_replies Closed
message_before (messages.Fragment id rest) l = l

-- the Replies before the first message that ends the link; the end where none of them does
unfoldable pub replies_among : List Received → StreamEnd → Replies
replies_among [] end = no_replies end
replies_among (m ∷ ms) end = message_before m.0 (replies_among ms end)

abbrev pub stream_replies : Streamed → Replies
stream_replies s = replies_among s.messages (stream_end s.end)

-- what a client reads of a link with these bytes
abbrev pub link_replies : List ℕ → Replies
link_replies bytes = stream_replies (stream bytes)

-- ---- replies that are read step by step

abbrev pub replies_on : Serving → List ℕ → Option StreamEnd → Replies
replies_on s more (Some end) = no_replies end
replies_on s more None = stream_replies (resume s.frames more)

-- before the end its framer stands for the same bytes, and for some messages
abbrev pub StandsUnlessOver : Option StreamEnd → Frames → List ℕ → Type 0
StandsUnlessOver None f fed = (ms : List Received) × Stands f fed ms
StandsUnlessOver (Some end) f fed = Unit {0}

-- These bytes were fed and these Replies read: whatever follows, all Replies are those that were read and those that
-- still come.
pub record Listens (s : Serving) (fed : List ℕ) (given : List ReplyMsg) : Type 0 where
  pub on : (more : List ℕ) → link_replies (fed ++ more) ≡ replies_before given (replies_on s more s.ended)
  pub stands : StandsUnlessOver s.ended s.frames fed

-- whatever follows, the link ends so, behind these Replies
abbrev pub IsReplyEnd : List ℕ → List ReplyMsg → StreamEnd → Type 0
IsReplyEnd fed given end = (more : List ℕ) → link_replies (fed ++ more) ≡ record { replies = given; end = end }

-- these are all Replies that are whole in these bytes, of which so many belong to no whole message
abbrev pub AreAllReplies : List ℕ → List ReplyMsg → Type 0
AreAllReplies fed given =
    (ms : List Received) × (n : ℕ) × (stream fed ≡ record { messages = ms; end = Rest n }) × (link_replies fed ≡ record { replies = given; end = rest_end n })

-- What the next step answered, where these bytes were fed and these Replies read before. After want of memory too it
-- stands for the same bytes and Replies.
abbrev pub Reads : Result ReplyStep NoMemory → List ℕ → List ReplyMsg → Serving → Type 0
Reads (Ok (steps.Reply r)) fed given new = Listens new fed (given ++ r ∷ [])
Reads (Ok steps.Wait) fed given new = Listens new fed given × AreAllReplies fed given
Reads (Ok (steps.End end)) fed given new = Listens new fed given × IsReplyEnd fed given end
Reads (Err e) fed given new = Listens new fed given

-- the same of a step that may pass over a message
abbrev pub ReadsOrPasses : Result (Option ReplyStep) NoMemory → List ℕ → List ReplyMsg → Serving → Type 0
ReadsOrPasses (Ok (Some step)) fed given new = Reads (Ok step) fed given new
ReadsOrPasses (Ok None) fed given new = Listens new fed given
ReadsOrPasses (Err e) fed given new = Listens new fed given

-- a message is a Reply, ends the link, or is passed over
abbrev pub TakesReply : Option ReplyStep → Message → Serving → Serving → Type 0
TakesReply (Some (steps.Reply r)) m old new = (m ≡ messages.Reply r) × (new ≡ old)
TakesReply (Some steps.Wait) m old new = ⊥
TakesReply (Some (steps.End end)) m old new = ((l : Replies) → message_before m l ≡ no_replies end) × (new ≡ record old { ended = Some end })
TakesReply None m old new = ((l : Replies) → message_before m l ≡ l) × (new ≡ old)

-- a fault ends the link; want of memory does not
abbrev pub StopsReplies : Result (Option ReplyStep) NoMemory → StreamFault → Serving → Serving → Type 0
StopsReplies (Ok (Some (steps.Reply r))) fault old new = ⊥
StopsReplies (Ok (Some steps.Wait)) fault old new = ⊥
StopsReplies (Ok (Some (steps.End end))) fault old new = IsOfLink fault × (end ≡ fault_end fault) × (new ≡ record old { ended = Some end })
StopsReplies (Ok None) fault old new = ⊥
StopsReplies (Err e) fault old new = new ≡ old

-- with a Reply, fewer bytes are left
abbrev pub HasFewer : Result ReplyStep NoMemory → Serving → Serving → Type 0
HasFewer (Ok (steps.Reply r)) old new = length new.frames.rest < length old.frames.rest
HasFewer (Ok steps.Wait) old new = Unit {0}
HasFewer (Ok (steps.End end)) old new = Unit {0}
HasFewer (Err e) old new = Unit {0}

-- with a message, whether or not it is passed over
abbrev pub HasFewerOrPasses : Result (Option ReplyStep) NoMemory → Serving → Serving → Type 0
HasFewerOrPasses (Ok (Some step)) old new = HasFewer (Ok step) old new
HasFewerOrPasses (Ok None) old new = length new.frames.rest < length old.frames.rest
HasFewerOrPasses (Err e) old new = Unit {0}

-- the end stays
abbrev pub StaysOver : Result ReplyStep NoMemory → Serving → Type 0
StaysOver (Ok (steps.Reply r)) new = new.ended ≡ None
StaysOver (Ok steps.Wait) new = new.ended ≡ None
StaysOver (Ok (steps.End end)) new = new.ended ≡ Some end
StaysOver (Err e) new = new.ended ≡ None

abbrev pub StaysOverOrPasses : Result (Option ReplyStep) NoMemory → Serving → Type 0
StaysOverOrPasses (Ok (Some step)) new = StaysOver (Ok step) new
StaysOverOrPasses (Ok None) new = new.ended ≡ None
StaysOverOrPasses (Err e) new = new.ended ≡ None

-- some bytes spell the Reply in some form
abbrev pub IsSpelledReply : ReplyMsg → Type 0
IsSpelledReply r = (form : Form) × IsSpelled (messages.Reply r, form)

-- of a Reply that was read, a fact
abbrev pub OnReply : Result ReplyStep NoMemory → (ReplyMsg → Type 0) → Type 0
OnReply (Ok (steps.Reply r)) P = P r
OnReply (Ok steps.Wait) P = Unit {0}
OnReply (Ok (steps.End end)) P = Unit {0}
OnReply (Err e) P = Unit {0}

abbrev pub OnReplyOrPasses : Result (Option ReplyStep) NoMemory → (ReplyMsg → Type 0) → Type 0
OnReplyOrPasses (Ok (Some step)) P = OnReply (Ok step) P
OnReplyOrPasses (Ok None) P = Unit {0}
OnReplyOrPasses (Err e) P = Unit {0}

-- Only messages that are passed over lie between: what stood for bytes and Replies does still.
pub record IsPast (old new : Serving) : Type 0 where
  pub on : (fed : List ℕ) (given : List ReplyMsg) → Listens old fed given → Listens new fed given
  pub going : new.ended ≡ None
  pub fewer : length new.frames.rest ≤ length old.frames.rest
