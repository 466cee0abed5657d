-- What ties reading and writing of messages to their spellings.
use Rattle.std.specs.Prelude.{◌≡◌, ◌≤◌, ◌<◌, ◌↔◌, ◌^◌, ℕ, true, List, ◌++◌, length, drop, Ok}
use Rattle.std.specs.List.{All}
use Rattle.cdr_codec.specs.declared.orders.Order.TheVariants.{Big}
use Rattle.cdr_codec.specs.declared.bodies.Raw.{Raw}
use Rattle.ft_contexts.specs.declared.lists.Context.{Context}
use Rattle.giop_messages.specs.declared.forms.Form.{Form}
use Rattle.giop_messages.specs.declared.heads.Head.{Head}
use Rattle.giop_messages.specs.declared.messages.Message.{Message}
use Rattle.giop_messages.specs.declared.heads.TheConstants.{HEAD_LENGTH}
use Rattle.giop_messages.specs.declared.messages.Message.TheVariants as messages
use Rattle.giop_messages.specs.Heads.{head, header, head_in, flags_fit, has_kind}
use Rattle.giop_messages.specs.Messages.{Spells, fields_in, message_in}
use Rattle.giop_messages.specs.Writing.{written_message, Writable, IsNumbered}

-- at the front of the bytes stands a header, whatever its flags
pub record SpellsHead (bytes : List ℕ) (h : Head) : Type 0 where
  pub front : List ℕ
  pub more : List ℕ
  pub is : bytes ≡ front ++ more
  pub spelled : head.Spelled Big 0 h front

-- the header that is read of bytes is the one that they spell
abbrev pub HeadsAreReadExactly : Type 0
HeadsAreReadExactly = (bytes : List ℕ) (h : Head) → (head_in bytes ≡ Ok h) ↔ SpellsHead bytes h

-- what is read of bytes is what they spell
abbrev pub MessagesAreReadExactly : Type 0
MessagesAreReadExactly = (bytes : List ℕ) (message : Message) (form : Form) → (message_in bytes ≡ Ok (message, form)) ↔ Spells bytes form message

-- bytes spell one message at most
abbrev pub MessagesAreSpelledOnce : Type 0
MessagesAreSpelledOnce = (bytes : List ℕ) (message other : Message) (form another : Form)
    → Spells bytes form message → Spells bytes another other → (message ≡ other) × (form ≡ another)

-- the written bytes spell the message
abbrev pub MessagesAreSpelled : Type 0
MessagesAreSpelled = (message : Message) (form : Form) → IsNumbered message → Writable message form → Spells (written_message message form) form message

-- what is written is read again
abbrev pub MessagesAreReadBack : Type 0
MessagesAreReadBack = (message : Message) (form : Form) → IsNumbered message → Writable message form → message_in (written_message message form) ≡ Ok (message, form)

-- a header that is written is read again, whatever follows
abbrev pub HeadersAreReadBack : Type 0
HeadersAreReadBack = (h : Head) (more : List ℕ) → has_kind h.minor h.kind ≡ true → h.flags < 256 → h.size < 2 ^ 32 → head_in (header.written Big 0 h ++ more) ≡ Ok h

-- a message is its header, and the fields behind it
abbrev pub MessagesAreFieldsBehindHeaders : Type 0
MessagesAreFieldsBehindHeaders = (bytes payload : List ℕ) (h : Head) → head_in bytes ≡ Ok h → flags_fit h ≡ true → drop HEAD_LENGTH bytes ≡ payload
    → h.size ≡ length payload → HEAD_LENGTH ≤ length bytes → message_in bytes ≡ fields_in h payload

-- ---- no context, body or rest is longer than the bytes of its message

abbrev pub AreWithin : ℕ → List Context → Type 0
AreWithin count contexts = All (λ (c : Context). length c.content ≤ count) contexts

-- a body's place is known modulo 8
pub record IsBodyWithin (count : ℕ) (body : Raw) : Type 0 where
  pub aligned : body.align < 8
  pub short : length body.bytes ≤ count

pub record ArePartsWithin (count : ℕ) (list : List Context) (raw : Raw) : Type 0 where
  pub contexts : AreWithin count list
  pub body : IsBodyWithin count raw

abbrev pub IsWithin : ℕ → Message → Type 0
IsWithin count (messages.Request r) = ArePartsWithin count r.contexts r.body
IsWithin count (messages.Reply r) = ArePartsWithin count r.contexts r.body
IsWithin count (messages.Cancel id) = Unit {0}
IsWithin count (messages.LocateRequest id key) = Unit {0}
IsWithin count (messages.LocateReply id status) = Unit {0}
IsWithin count messages.CloseConnection = Unit {0}
IsWithin count messages.MessageError = Unit {0}
IsWithin count (messages.Fragment id rest) = length rest ≤ count

abbrev pub MessagesAreWithin : Type 0
MessagesAreWithin = (bytes : List ℕ) (form : Form) (message : Message) → Spells bytes form message → IsWithin (length bytes) message
