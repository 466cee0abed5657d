-- Messages of GIOP 1.2 that are short enough to be written, whatever they say.
use Rattle.std.specs.Prelude.{◌≡◌, ◌≤◌, ℕ, List, [], ◌∷◌, length, None}
use Rattle.ft_base.specs.Text.{zero_place}
use Rattle.cdr_codec.specs.declared.orders.Order.{Order}
use Rattle.cdr_codec.specs.declared.bodies.Raw.{Raw}
use Rattle.ft_contexts.specs.declared.lists.Context.{Context}
use Rattle.giop_messages.specs.declared.messages.RequestMsg.{RequestMsg}
use Rattle.giop_messages.specs.declared.messages.ReplyMsg.{ReplyMsg}
use Rattle.giop_messages.specs.Fields.{statuses_1_2}
use Rattle.giop_messages.specs.Writing.{IsAmong}

-- a part of a message
abbrev pub IsPart : List ℕ → Type 0
IsPart bytes = length bytes ≤ 65536

-- at most one context
abbrev pub AreFew : List Context → Type 0
AreFew [] = Unit {0}
AreFew (c ∷ []) = IsPart c.content
AreFew (c ∷ d ∷ more) = ⊥

pub record IsShortBody (order : Order) (body : Raw) : Type 0 where
  pub ordered : body.order ≡ order
  pub aligned : body.align ≡ 0
  pub short : IsPart body.bytes

pub record IsShortRequest (order : Order) (r : RequestMsg) : Type 0 where
  pub key : IsPart r.key
  pub op : IsPart r.op
  pub no_zero : zero_place r.op ≡ None
  pub contexts : AreFew r.contexts
  pub body : IsShortBody order r.body

pub record IsShortReply (order : Order) (r : ReplyMsg) : Type 0 where
  pub status : IsAmong statuses_1_2 r.status
  pub contexts : AreFew r.contexts
  pub body : IsShortBody order r.body
