-- What a client hears on a link, by the bytes that the link had when it was dialled. (GIOP chapter, "Connection
-- Management", "GIOP Message Transfer".)
use Rattle.std.specs.Prelude.{◌≡◌, ℕ, List, [], ◌∷◌, ◌++◌, Option, Some, None, option_map}
use Rattle.ft_outside.specs.Outside.{next_count}
use Rattle.giop_messages.specs.declared.messages.ReplyMsg.{ReplyMsg}
use Rattle.giop_stream.specs.Sessions.{Serving}
use Rattle.giop_stream.specs.Replies.{Listens, link_replies}
use Rattle.client_talk.specs.declared.items.Item.{Item}
use Rattle.client_talk.specs.declared.items.Item.TheVariants as items
use Rattle.client_talk.specs.declared.listening.Came.{Came}
use Rattle.client_talk.specs.declared.listening.Came.TheVariants as comes

-- where a link's bytes are told, these are the first Replies in them
abbrev pub AreFirst : Option (List ℕ) → List ReplyMsg → Type 0
AreFirst None given = Unit {0}
AreFirst (Some bytes) given = (more : List ReplyMsg) × ((link_replies bytes).replies ≡ given ++ more)

-- these are all of them
abbrev pub AreAll : Option (List ℕ) → List ReplyMsg → Type 0
AreAll None given = Unit {0}
AreAll (Some bytes) given = (link_replies bytes).replies ≡ given

-- of a Reply that was heard, a fact
abbrev pub OnHeard : Item → (ReplyMsg → Type 0) → Type 0
OnHeard (items.Reply m) P = P m
OnHeard items.Dial P = Unit {0}
OnHeard items.Failed P = Unit {0}
OnHeard items.Ended P = Unit {0}

-- ---- on the way

-- Of the bytes that a link had, where they are told, some were read, and the session gave these Replies of them.
abbrev pub IsRead : Option (List ℕ) → List ReplyMsg → Option (List ℕ) → Serving → Type 0
IsRead whole given left s = (fed : List ℕ) × (whole ≡ option_map (λ rest. fed ++ rest) left) × Listens s fed given

-- what was heard next, and what was read then
abbrev pub Hears : Option (List ℕ) → List ReplyMsg → Option (List ℕ) → Serving → Item → Type 0
Hears whole given left s (items.Reply m) = IsRead whole (given ++ m ∷ []) left s × AreFirst whole (given ++ m ∷ [])
Hears whole given left s items.Dial = ⊥
Hears whole given left s items.Failed = IsRead whole given left s
Hears whole given left s items.Ended = IsRead whole given left s × AreAll whole given

-- a failed call is one fault of its link
abbrev pub counted : Item → ℕ → ℕ
counted (items.Reply m) faults = faults
counted items.Dial faults = faults
counted items.Failed faults = next_count faults
counted items.Ended faults = faults

-- what came of a link, to a session
abbrev pub HasCame : Option (List ℕ) → Option (List ℕ) → ℕ → ℕ → Serving → Serving → Came → Type 0
HasCame before left count now s t comes.Some =
    (piece : List ℕ) × (before ≡ option_map (λ rest. piece ++ rest) left) × ((fed : List ℕ) (given : List ReplyMsg) → Listens s fed given → Listens t (fed ++ piece) given)
    × (now ≡ count)
HasCame before left count now s t comes.End = (t ≡ s) × (left ≡ before) × (before ≡ option_map (λ _. []) before) × (now ≡ count)
HasCame before left count now s t comes.Failed = (t ≡ s) × (left ≡ before) × (now ≡ next_count count)
HasCame before left count now s t comes.NoMemory = Unit {0}
