-- A client's links: the one that is open, and what its dialer tells of the others. (GIOP chapter, "Connection
-- Management".)
use Rattle.std.specs.Prelude.{◌≡◌, ◌≢◌, ℕ, ◌+◌, ◌≤◌, List, [], ◌∷◌, ◌++◌, length, take, Option, Some, None, option_map}
use Rattle.ft_outside.specs.Outside.{added, next_count}
use Rattle.giop_messages.specs.declared.messages.ReplyMsg.{ReplyMsg}
use Rattle.outside_links.specs.Lending.{IsFirst, Target}
use Rattle.client_talk.specs.declared.items.Item.{Item}
use Rattle.client_talk.specs.declared.items.Item.TheVariants as items
use Rattle.client_talk.specs.declared.lines.Line.{Line}
use Rattle.client_talk.specs.Hearing.{AreAll, AreFirst, IsRead}

-- a link that is open
pub record Talk : Type 0 where
  pub to : Target
  -- the bytes that it had when it was dialled, where that is told
  pub whole : Option (List ℕ)
  -- the Replies that were heard on it
  pub given : List ReplyMsg
  -- what was written to it
  pub written : List ℕ
  pub faults : ℕ

-- a link that was just dialled
abbrev pub begun : Target → Option (List ℕ) → Talk
begun to whole = record { to = to; whole = whole; given = []; written = []; faults = 0 }

-- What a dialer tells: what its next links have left, where those that it gave lead, and what those that came back held,
-- each where it tells that; and its count of faults.
pub record Dialing : Type 0 where
  pub links : Option (List (List ℕ))
  pub targets : Option (List Target)
  pub sent : Option (List (List ℕ))
  pub faults : ℕ

abbrev pub dialing : Option (List (List ℕ)) → Option (List Target) → Option (List (List ℕ)) → ℕ → Dialing
dialing links targets sent faults = record { links = links; targets = targets; sent = sent; faults = faults }

-- the open link went back, if there was one: what was written to it is sent, and its faults count
abbrev pub hung_up : Option Talk → Dialing → Dialing
hung_up None d = d
hung_up (Some talk) d = record d { sent = option_map (λ sent. sent ++ talk.written ∷ []) d.sent; faults = added d.faults talk.faults }

-- a dial was refused, which is a fault
abbrev pub refused : Dialing → Dialing
refused d = record d { faults = next_count d.faults }

-- a link was dialled: the first of the next ones, which had these bytes
abbrev pub Dialled : Target → Option (List ℕ) → Dialing → Dialing → Type 0
Dialled to whole d e = IsFirst d.links e.links whole × (e ≡ record d { links = e.links; targets = option_map (λ targets. targets ++ to ∷ []) d.targets })

-- ---- an attempt

-- no link is open to the target
abbrev pub Apart : Target → Option Talk → Type 0
Apart to None = Unit {0}
Apart to (Some talk) = talk.to ≢ to

-- the link to a target: the one that is open, or else a new one, and the other goes back
pub data Reaches (to : Target) (before : Option Talk) (d : Dialing) (talk : Talk) (e : Dialing) : Type 0 where
  stays : before ≡ Some talk → talk.to ≡ to → e ≡ d → Reaches to before d talk e
  begins : (whole : Option (List ℕ)) → Apart to before → talk ≡ begun to whole → Dialled to whole (hung_up before d) e → Reaches to before d talk e

-- A request was written to a link, and this was heard next. Where a call failed a front of the request was written; the
-- link has ended where no further Reply comes.
abbrev pub Exchanges : List ℕ → Item → Talk → Talk → Type 0
Exchanges request (items.Reply m) old new =
    (new ≡ record old { given = old.given ++ m ∷ []; written = old.written ++ request }) × AreFirst old.whole (old.given ++ m ∷ [])
Exchanges request items.Dial old new = ⊥
Exchanges request items.Failed old new =
    (k : ℕ) × (k ≤ length request) × (new ≡ record old { written = old.written ++ take k request; faults = next_count old.faults })
Exchanges request items.Ended old new = (new ≡ record old { written = old.written ++ request }) × AreAll old.whole old.given

-- a link stays open exactly where a Reply was heard, and else goes back
abbrev pub stays_open : Item → Talk → Option Talk
stays_open (items.Reply m) talk = Some talk
stays_open items.Dial talk = None
stays_open items.Failed talk = None
stays_open items.Ended talk = None

abbrev pub goes_back : Item → Talk → Option Talk
goes_back (items.Reply m) talk = None
goes_back items.Dial talk = Some talk
goes_back items.Failed talk = Some talk
goes_back items.Ended talk = Some talk

-- the target was reached, and this was heard there
pub record Talks (to : Target) (request : List ℕ) (item : Item) (before : Option Talk) (d : Dialing) (next : Option Talk) (e : Dialing) : Type 0 where
  pub talk : Talk
  pub at : Dialing
  pub reached : Reaches to before d talk at
  pub after : Talk
  pub exchanged : Exchanges request item talk after
  pub then_open : next ≡ stays_open item after
  pub then_back : e ≡ hung_up (goes_back item after) at

-- What an attempt at a target hears, and how the client's link and its dialer are before and after.
abbrev pub Attempts : Target → List ℕ → Item → Option Talk → Dialing → Option Talk → Dialing → Type 0
Attempts to request (items.Reply m) before d next e = Talks to request (items.Reply m) before d next e
Attempts to request items.Dial before d next e = Apart to before × (next ≡ None) × (e ≡ refused (hung_up before d))
Attempts to request items.Failed before d next e = Talks to request items.Failed before d next e
Attempts to request items.Ended before d next e = Talks to request items.Ended before d next e

-- ---- what the code has of a link

module _ {K : Type 0} (left holds : K → Option (List ℕ)) (faults : K → ℕ) where
  pub record IsTalk (talk : Talk) (line : Line K) : Type 0 where
    pub there : talk.to ≡ line.to
    pub read : IsRead talk.whole talk.given (left line.link) line.session
    pub wrote : holds line.link ≡ option_map (λ _. talk.written) (holds line.link)
    pub calm : faults line.link ≡ talk.faults

  abbrev pub AreTalks : Option Talk → Option (Line K) → Type 0
  AreTalks None None = Unit {0}
  AreTalks None (Some line) = ⊥
  AreTalks (Some talk) None = ⊥
  AreTalks (Some talk) (Some line) = IsTalk talk line

-- so many of a dialer's links are out, where it tells that: the others, and the one that is open
abbrev pub AreOut : {X : Type 0} → Option ℕ → Option X → Option ℕ → Type 0
AreOut others None lent = lent ≡ others
AreOut others (Some line) lent = lent ≡ option_map (λ n. n + 1) others
