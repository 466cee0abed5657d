-- What was heard on a link, by the bytes that it had.
use Rattle.std.proofs.Common.{◌≡◌, ℕ, List, [], ◌++◌, Option, Some, None, refl, sym, subst, ap, ◌∙◌, append_assoc, append-nil, arith}
use Rattle.std.specs.Prelude.{option_map}
use Rattle.giop_messages.specs.declared.messages.ReplyMsg.{ReplyMsg}
use Rattle.giop_messages.specs.declared.messages.Message.TheVariants as messages
use Rattle.giop_messages.specs.Laws.{MessagesAreWithin}
use Rattle.client_replies.specs.Heards.{IsReadable}
use Rattle.giop_stream.specs.declared.sessions.StreamEnd.{StreamEnd}
use Rattle.giop_stream.specs.Sessions.{Serving}
use Rattle.giop_stream.specs.Replies.{IsReplyEnd, IsSpelledReply, Listens, Replies, link_replies}
use Rattle.client_talk.specs.Hearing.{AreAll, AreFirst, IsRead}

left_both : (o : Option (List ℕ)) (x y : List ℕ) → option_map (λ left. x ++ left) (option_map (λ left. y ++ left) o) ≡ option_map (λ left. (x ++ y) ++ left) o
left_both None x y = refl
left_both (Some left) x y = ap (λ (l : List ℕ). Some l) (sym (append_assoc x y left))

none_fed : (o : Option (List ℕ)) → o ≡ option_map (λ rest. [] ++ rest) o
none_fed None = refl
none_fed (Some rest) = refl

-- nothing was read of a link that was just dialled
pub nothing_read : (left : Option (List ℕ)) (s : Serving) → Listens s [] [] → IsRead left [] left s
nothing_read left s listens = ([], none_fed left, listens)

-- more was read, and its session was fed that
pub more_read : (whole : Option (List ℕ)) (given : List ReplyMsg) (left left' : Option (List ℕ)) (s t : Serving) (piece : List ℕ)
    → left ≡ option_map (λ rest. piece ++ rest) left' → ((fed : List ℕ) (ms : List ReplyMsg) → Listens s fed ms → Listens t (fed ++ piece) ms)
    → IsRead whole given left s → IsRead whole given left' t
more_read whole given left left' s t piece lost feeds o =
    (o.0 ++ piece, o.1 ∙ ap (λ (x : Option (List ℕ)). option_map (λ rest. o.0 ++ rest) x) lost ∙ left_both left' o.0 piece, feeds o.0 given o.2)

-- neither the link nor the session moved
pub still_read : (whole : Option (List ℕ)) (given : List ReplyMsg) (left left' : Option (List ℕ)) (s t : Serving) → t ≡ s → left' ≡ left
    → IsRead whole given left s → IsRead whole given left' t
still_read whole given left left' s t same stay o =
    (o.0, o.1 ∙ ap (λ (x : Option (List ℕ)). option_map (λ rest. o.0 ++ rest) x) (sym stay), subst (λ (x : Serving). Listens x o.0 given) (sym same) o.2)

-- the places of a Reply's body fit an unsigned long
pub readable : MessagesAreWithin → (r : ReplyMsg) → IsSpelledReply r → IsReadable r.body
readable within r h =
    let parts = within h.1.bytes h.0 (messages.Reply r) h.1.spelled in
    omega (arith, parts.body.aligned, parts.body.short, h.1.small)

-- what the session gave stands first in the bytes that the link had
pub first_of : (whole left : Option (List ℕ)) (fed : List ℕ) (given : List ReplyMsg) (s : Serving) → whole ≡ option_map (λ rest. fed ++ rest) left
    → Listens s fed given → AreFirst whole given
first_of whole None fed given s is listens = subst (λ (w : Option (List ℕ)). AreFirst w given) (sym is) tt
first_of whole (Some rest) fed given s is listens =
    subst (λ (w : Option (List ℕ)). AreFirst w given) (sym is) (_, ap (λ (l : Replies). l.replies) (listens.on rest))

-- the session has ended
pub all_of : (whole left : Option (List ℕ)) (fed : List ℕ) (given : List ReplyMsg) (end : StreamEnd) → whole ≡ option_map (λ rest. fed ++ rest) left
    → IsReplyEnd fed given end → AreAll whole given
all_of whole None fed given end is over = subst (λ (w : Option (List ℕ)). AreAll w given) (sym is) tt
all_of whole (Some rest) fed given end is over =
    subst (λ (w : Option (List ℕ)). AreAll w given) (sym is) (ap (λ (l : Replies). l.replies) (over rest))

none_left : (whole left : Option (List ℕ)) (fed : List ℕ) (given : List ReplyMsg) (end : StreamEnd) → whole ≡ option_map (λ rest. fed ++ rest) (option_map (λ _. []) left)
    → link_replies fed ≡ record { replies = given; end = end } → AreAll whole given
none_left whole None fed given end is over = subst (λ (w : Option (List ℕ)). AreAll w given) (sym is) tt
none_left whole (Some rest) fed given end is over =
    subst (λ (w : Option (List ℕ)). AreAll w given) (sym is) (ap (λ (l : List ℕ). (link_replies l).replies) (append-nil fed) ∙ ap (λ (l : Replies). l.replies) over)

-- no byte is left
pub all_at_end : (whole left : Option (List ℕ)) (fed : List ℕ) (given : List ReplyMsg) (end : StreamEnd) → whole ≡ option_map (λ rest. fed ++ rest) left
    → left ≡ option_map (λ _. []) left → link_replies fed ≡ record { replies = given; end = end } → AreAll whole given
all_at_end whole left fed given end is empty over =
    none_left whole left fed given end (is ∙ ap (λ (x : Option (List ℕ)). option_map (λ rest. fed ++ rest) x) empty) over
