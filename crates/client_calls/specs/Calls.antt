-- The calls of a client over its links: what it hears, what it does then, and how each call ends.
use Rattle.std.specs.Prelude.{◌≡◌, ℕ, ◌+◌, ◌≤◌, ◌⊎◌, List, [], ◌∷◌, length, Option, Some, None}
use Rattle.ft_base.specs.declared.numbers.Tick.{Tick}
use Rattle.ft_base.specs.declared.requests.Request.{Request}
use Rattle.iogr_reference.specs.declared.references.GroupRef.{GroupRef}
use Rattle.client_retry.specs.declared.answers.Act.{Act}
use Rattle.client_retry.specs.declared.answers.Act.TheVariants as acts
use Rattle.client_retry.specs.Invocations.{News, Reply, Silence}
use Rattle.client_retry.specs.Clients.{Client, Turn, hearing, new_client, setting_down, starting}
use Rattle.client_retry.specs.Counters.{Picture, StandsFor, kept}
use Rattle.client_replies.specs.Heards.{heard_of}
use Rattle.client_talk.specs.declared.items.Item.{Item}
use Rattle.client_talk.specs.declared.items.Item.TheVariants as items
use Rattle.client_talk.specs.declared.lines.Line.{Line}
use Rattle.client_talk.specs.Talking.{AreTalks, Attempts, Dialing, Talk, hung_up}
use Rattle.client_calls.specs.declared.requests.TheConstants.{NEVER}
use Rattle.client_calls.specs.declared.answers.Hearing.{Hearing}
use Rattle.client_calls.specs.declared.answers.Hearing.TheVariants as hearings
use Rattle.client_calls.specs.declared.answers.ToldCall.{ToldCall}
use Rattle.client_calls.specs.Aims.{Aim}
use Rattle.client_calls.specs.Requests.{IsAimed, deposit_of}

-- what is told of what came on a link: of a Reply its id, and what it says
abbrev pub says : Item → Hearing
says (items.Reply m) = hearings.Reply m.id (heard_of m)
says items.Dial = hearings.Dial
says items.Failed = hearings.Failed
says items.Ended = hearings.Ended

-- a live client counts no time
abbrev pub moment : Tick
moment = record { 0 = 0 }

-- what it is to the client: a Reply, or that its attempt gets none
abbrev pub news_of : Hearing → News
news_of (hearings.Reply id heard) = Reply id heard moment
news_of hearings.Dial = Silence moment
news_of hearings.Failed = Silence moment
news_of hearings.Ended = Silence moment

-- this is told of an item, and a client who hears it does this
abbrev pub Turns : Picture → Picture → Item → Hearing → Act → Type 0
Turns before after item told act =
    (told ≡ says item)
    × ((client : Client) → StandsFor client before → (act ≡ (hearing client (news_of told)).act) × StandsFor (hearing client (news_of told)).client after)

-- ---- a call

-- a client in a call: what it does next, where its last attempt was sent, the link that it has open, and what its dialer
-- tells
pub record Calling : Type 0 where
  pub client : Client
  pub act : Act
  pub last : Option Aim
  pub talk : Option Talk
  pub dialing : Dialing

-- the client does this next
abbrev pub doing : Turn → Option Aim → Option Talk → Dialing → Calling
doing turn last talk dialing = record { client = turn.client; act = turn.act; last = last; talk = talk; dialing = dialing }

-- It makes the attempt that it is to make, hears this, and does what that calls for.
pub record Hears (request : Request) (h : Hearing) (s t : Calling) : Type 0 where
  pub aim : Aim
  pub aimed : IsAimed request (kept s.client).reference s.act s.last aim
  pub item : Item
  pub attempted : Attempts aim.to aim.text item s.talk s.dialing t.talk t.dialing
  pub said : h ≡ says item
  pub then_is : t ≡ doing (hearing s.client (news_of h)) (Some aim) t.talk t.dialing

-- it hears these, one after another
abbrev pub Hearings : Request → List Hearing → Calling → Calling → Type 0
Hearings request [] s t = t ≡ s
Hearings request (h ∷ hs) s t = (mid : Calling) × Hears request h s mid × Hearings request hs mid t

-- ---- calls, one after another

-- between two calls: the reference with which the next begins
pub record Resting : Type 0 where
  pub client : Client
  pub reference : GroupRef
  pub talk : Option Talk
  pub dialing : Dialing

-- a call begins, with no attempt before
abbrev pub beginning : Resting → Calling
beginning s = doing (starting s.client s.reference NEVER) None s.talk s.dialing

-- A call: all that it heard, up to the act that ends it. The client gives its reference away, for the next call.
pub record IsCalled (request : Request) (call : ToldCall) (s t : Resting) : Type 0 where
  pub last : Calling
  pub heard : Hearings request call.heard.items (beginning s) last
  pub ended : last.act ≡ acts.Done call.end
  pub held : (kept last.client).reference ≡ Some t.reference
  pub client : t.client ≡ setting_down last.client
  pub talk : t.talk ≡ last.talk
  pub dialing : t.dialing ≡ last.dialing

-- calls of a live client, of which the first has this number
abbrev pub AreCalled : List ℕ → ℕ → List ToldCall → Resting → Resting → Type 0
AreCalled name number [] s t = t ≡ s
AreCalled name number (call ∷ calls) s t = (mid : Resting) × IsCalled (deposit_of name number) call s mid × AreCalled name (number + 1) calls mid t

-- ---- what the code has

module _ {K : Type 0} (left holds : K → Option (List ℕ)) (faults : K → ℕ) where
  -- a client between two calls
  pub record IsResting (core : Picture) (line : Option (Line K)) (dialing : Dialing) (s : Resting) : Type 0 where
    pub stands : StandsFor s.client core
    pub talks : AreTalks left holds faults s.talk line
    pub dials : s.dialing ≡ dialing

-- ---- faults

abbrev pub fault_of : Hearing → ℕ
fault_of (hearings.Reply id heard) = 0
fault_of hearings.Dial = 1
fault_of hearings.Failed = 1
fault_of hearings.Ended = 0

-- refused dials and failed calls
abbrev pub faults_in : List Hearing → ℕ
faults_in [] = 0
faults_in (h ∷ hs) = fault_of h + faults_in hs

abbrev pub faults_of : List ToldCall → ℕ
faults_of [] = 0
faults_of (call ∷ calls) = faults_in call.heard.items + faults_of calls

-- a count rose by so many, as far as its end
abbrev pub HasRisen : ℕ → ℕ → ℕ → Type 0
HasRisen by before now = (now ≡ before + by) ⊎ (18446744073709551615 ≤ now)

-- ---- what a client is told

-- So many calls of a new client with this name, over this reference first, and with no link open; after the last its link
-- went back. The dialer counted as many faults as are told.
pub record IsTold (name : List ℕ) (reference : GroupRef) (count : ℕ) (before after : Dialing) (calls : List ToldCall) : Type 0 where
  pub many : length calls ≡ count
  pub last : Resting
  pub called : AreCalled name 1 calls (record { client = new_client; reference = reference; talk = None; dialing = before }) last
  pub back : after ≡ hung_up last.talk last.dialing
  pub counted : HasRisen (faults_of calls) before.faults after.faults
