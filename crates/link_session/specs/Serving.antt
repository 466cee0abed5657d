-- What a link to a host is answered, by what was exchanged for its messages.
use Rattle.std.proofs.Common.{◌≡◌, ℕ, Bool, List, [], ◌∷◌, ◌++◌, drop, Option, Some, None, refl, sym, ap, subst, ◌∙◌, append_assoc, append-nil}
use Rattle.std.specs.Prelude.{◌⊎◌, Result, Ok, Err}
use Rattle.ft_base.specs.declared.memory.NoMemory.{NoMemory}
use Rattle.giop_messages.specs.declared.forms.Form.{Form}
use Rattle.giop_stream.specs.Parts.{Received}
use Rattle.group_model.specs.declared.asking.Asked.{Asked}
use Rattle.host_server.specs.declared.answers.PortAnswer.{PortAnswer}
use Rattle.host_server.specs.declared.answers.PortAnswer.TheVariants as answers
use Rattle.host_server.specs.Replies.{IsReply}
use Rattle.link_session.specs.declared.calls.Calling.{Calling}
use Rattle.link_session.specs.declared.calls.Calling.TheVariants.{Ask, Locate, Nothing}
use Rattle.link_session.specs.declared.ports.Stepped.{Stepped}
use Rattle.link_session.specs.declared.ports.Stepped.TheVariants.{Write, Silent, Down}
use Rattle.link_session.specs.Calls.{calling_of}
use Rattle.link_session.specs.Exchanges.{Exchange, Exchanging, Leads, Request, Look, leads_join, leads_none, leads_one}
use Rattle.link_session.specs.Ports.{locate_reply_of, reply_of}

abbrev pub bytes_of : Option (List ℕ) → List ℕ
bytes_of None = []
bytes_of (Some bytes) = bytes

-- ---- the bytes that answer a link

-- the Reply with the answer of the first of these turns
abbrev pub reply_by : ℕ → ℕ → Form → List Exchange → Option (List ℕ)
reply_by id flags form [] = None
reply_by id flags form (Request host key asked answer ∷ turns) = reply_of id flags form answer
reply_by id flags form (Look host key here ∷ turns) = None

-- the LocateReply with what the first of these turns found
abbrev pub location_by : ℕ → Form → List Exchange → Option (List ℕ)
location_by id form [] = None
location_by id form (Request host key asked answer ∷ turns) = None
location_by id form (Look host key here ∷ turns) = Some (locate_reply_of id form here)

-- a Request is answered by its turn where it wants a Reply, and a LocateRequest by its look
abbrev pub answer_by : Form → Calling → List Exchange → Option (List ℕ)
answer_by form (Ask id flags key asked) turns = reply_by id flags form turns
answer_by form (Locate id key) turns = location_by id form turns
answer_by form Nothing turns = None

-- the turns behind that of a message
abbrev pub turns_behind : Calling → List Exchange → List Exchange
turns_behind (Ask id flags key asked) turns = drop 1 turns
turns_behind (Locate id key) turns = drop 1 turns
turns_behind Nothing turns = turns

-- the bytes that answer these messages, by these turns
unfoldable pub served : List Received → List Exchange → List ℕ
served [] turns = []
served (m ∷ ms) turns = bytes_of (answer_by m.1 (calling_of m.0) turns) ++ served ms (turns_behind (calling_of m.0) turns)

-- ---- the turns that messages take

-- a Request one in which it is asked, a LocateRequest one look, and nothing else any
abbrev pub Takes : ℕ → Calling → List Exchange → Type 0
Takes host (Ask id flags key asked) turns = (answer : PortAnswer) × IsReply answer × (turns ≡ Request host key asked answer ∷ [])
Takes host (Locate id key) turns = (here : Bool) × (turns ≡ Look host key here ∷ [])
Takes host Nothing turns = turns ≡ []

-- at this host these messages take these turns, in order
unfoldable pub AreTurns : ℕ → List Received → List Exchange → Type 0
AreTurns host [] turns = turns ≡ []
AreTurns host (m ∷ ms) turns =
    (mine rest : List Exchange) × Takes host (calling_of m.0) mine × (turns ≡ mine ++ rest) × AreTurns host ms rest

-- ---- laws of both

pub served_none : (turns : List Exchange) → served [] turns ≡ []
unfolding served
served_none turns = refl

-- by cases of what the message calls for
answer_more : (host : ℕ) (form : Form) (c : Calling) (mine more : List Exchange) → Takes host c mine → answer_by form c (mine ++ more) ≡ answer_by form c mine
answer_more host form (Ask id flags key asked) mine more t =
    subst (λ (ts : List Exchange). reply_by id flags form (ts ++ more) ≡ reply_by id flags form ts) (sym t.2) refl
answer_more host form (Locate id key) mine more t =
    subst (λ (ts : List Exchange). location_by id form (ts ++ more) ≡ location_by id form ts) (sym t.1) refl
answer_more host form Nothing mine more t = refl

behind_more : (host : ℕ) (c : Calling) (mine more : List Exchange) → Takes host c mine → turns_behind c (mine ++ more) ≡ more
behind_more host (Ask id flags key asked) mine more t = subst (λ (ts : List Exchange). drop 1 (ts ++ more) ≡ more) (sym t.2) refl
behind_more host (Locate id key) mine more t = subst (λ (ts : List Exchange). drop 1 (ts ++ more) ≡ more) (sym t.1) refl
behind_more host Nothing mine more t = subst (λ (ts : List Exchange). ts ++ more ≡ more) (sym t) refl

-- a message by its own turns, and the others by theirs
pub served_first : (host : ℕ) (m : Received) (ms : List Received) (mine more : List Exchange) → Takes host (calling_of m.0) mine →
    served (m ∷ ms) (mine ++ more) ≡ bytes_of (answer_by m.1 (calling_of m.0) mine) ++ served ms more
unfolding served
served_first host m ms mine more t =
    ap (λ (o : Option (List ℕ)). bytes_of o ++ served ms (turns_behind (calling_of m.0) (mine ++ more))) (answer_more host m.1 (calling_of m.0) mine more t)
    ∙ ap (λ (ts : List Exchange). bytes_of (answer_by m.1 (calling_of m.0) mine) ++ served ms ts) (behind_more host (calling_of m.0) mine more t)

pub served_one : (host : ℕ) (m : Received) (mine : List Exchange) → Takes host (calling_of m.0) mine →
    served (m ∷ []) mine ≡ bytes_of (answer_by m.1 (calling_of m.0) mine)
served_one host m mine t =
    ap (λ (ts : List Exchange). served (m ∷ []) ts) (sym (append-nil mine))
    ∙ served_first host m [] mine [] t
    ∙ ap (λ (l : List ℕ). bytes_of (answer_by m.1 (calling_of m.0) mine) ++ l) (served_none [])
    ∙ append-nil (bytes_of (answer_by m.1 (calling_of m.0) mine))

pub turns_one : (host : ℕ) (m : Received) (mine : List Exchange) → Takes host (calling_of m.0) mine → AreTurns host (m ∷ []) mine
unfolding AreTurns
turns_one host m mine t = (mine, [], t, sym (append-nil mine), refl)

pub turns_on : (host : ℕ) (ms more : List Received) (turns rest : List Exchange) → AreTurns host ms turns → AreTurns host more rest →
    AreTurns host (ms ++ more) (turns ++ rest)
unfolding AreTurns
turns_on host [] more turns rest a b = subst (λ (ts : List Exchange). AreTurns host more (ts ++ rest)) (sym a) b
turns_on host (m ∷ ms) more turns rest a b = (
  a.0,
  a.1 ++ rest,
  a.2,
  ap (λ (ts : List Exchange). ts ++ rest) a.3 ∙ append_assoc a.0 a.1 rest,
  turns_on host ms more a.1 rest a.4 b,
)

-- the messages of a link in two parts
pub served_on : (host : ℕ) (ms more : List Received) (turns rest : List Exchange) → AreTurns host ms turns →
    served (ms ++ more) (turns ++ rest) ≡ served ms turns ++ served more rest
unfolding AreTurns
served_on host [] more turns rest a =
    ap (λ (ts : List Exchange). served more (ts ++ rest)) a ∙ ap (λ (l : List ℕ). l ++ served more rest) (sym (served_none turns))
served_on host (m ∷ ms) more turns rest a =
    let b : List ℕ = bytes_of (answer_by m.1 (calling_of m.0) a.0) in
    ap (λ (ts : List Exchange). served (m ∷ (ms ++ more)) ts) (ap (λ (ts : List Exchange). ts ++ rest) a.3 ∙ append_assoc a.0 a.1 rest)
    ∙ served_first host m (ms ++ more) a.0 (a.1 ++ rest) a.2
    ∙ ap (λ (l : List ℕ). b ++ l) (served_on host ms more a.1 rest a.4)
    ∙ sym (append_assoc b (served ms a.1) (served more rest))
    ∙ ap (λ (l : List ℕ). l ++ served more rest) (sym (served_first host m ms a.0 a.1 a.2))
    ∙ ap (λ (ts : List Exchange). served (m ∷ ms) ts ++ served more rest) (sym a.3)

-- ---- a message at a host

-- what is to be written, if anything
abbrev pub written : Option (List ℕ) → Stepped
written None = Silent
written (Some bytes) = Write bytes

-- an answer is a Reply, and this is to be written; or the host is down; or memory was wanted
abbrev pub Replies : ℕ → ℕ → Form → PortAnswer → Result Stepped NoMemory → Type 0
Replies id flags form answer (Ok (Write bytes)) = IsReply answer × (Some bytes ≡ reply_of id flags form answer)
Replies id flags form answer (Ok Silent) = IsReply answer × (None ≡ reply_of id flags form answer)
Replies id flags form answer (Ok Down) = answer ≡ answers.Down
Replies id flags form answer (Err why) = answer ≡ answers.Down → ⊥

module _ {P : Type 0} (exchanges : Exchanging P) (host : ℕ) where
  -- a request was asked, and these bytes are its Reply, where it wants one
  pub record IsReplied (id flags : ℕ) (form : Form) (key : List ℕ) (asked : Asked) (old new : P) (bytes : Option (List ℕ)) : Type 0 where
    pub answer : PortAnswer
    pub replies : IsReply answer
    pub so : exchanges old (Request host key asked answer) new
    pub written : bytes ≡ reply_of id flags form answer

  -- it was looked where an object is, and these bytes tell it
  pub record IsLocated (id : ℕ) (form : Form) (key : List ℕ) (old new : P) (bytes : Option (List ℕ)) : Type 0 where
    pub here : Bool
    pub so : exchanges old (Look host key here) new
    pub written : bytes ≡ Some (locate_reply_of id form here)

  -- what is called for was done, and these bytes are to be written, if any
  abbrev pub IsAnswered : Form → Calling → P → P → Option (List ℕ) → Type 0
  IsAnswered form (Ask id flags key asked) old new bytes = IsReplied id flags form key asked old new bytes
  IsAnswered form (Locate id key) old new bytes = IsLocated id form key old new bytes
  IsAnswered form Nothing old new bytes = (new ≡ old) × (bytes ≡ None)

  -- a request was asked, and the host was down
  abbrev pub IsDown : Calling → P → P → Type 0
  IsDown (Ask id flags key asked) old new = exchanges old (Request host key asked answers.Down) new
  IsDown (Locate id key) old new = ⊥
  IsDown Nothing old new = ⊥

  abbrev pub IsStepped : Form → Calling → Stepped → P → P → Type 0
  IsStepped form calling (Write bytes) old new = IsAnswered form calling old new (Some bytes)
  IsStepped form calling Silent old new = IsAnswered form calling old new None
  IsStepped form calling Down old new = IsDown calling old new

  -- What want of memory leaves: nothing is done, or the one turn that is called for. It didn't find the host down.
  abbrev pub IsShort : Calling → P → P → Type 0
  IsShort (Ask id flags key asked) old new =
      (new ≡ old) ⊎ ((answer : PortAnswer) × (answer ≡ answers.Down → ⊥) × exchanges old (Request host key asked answer) new)
  IsShort (Locate id key) old new = (new ≡ old) ⊎ ((here : Bool) × exchanges old (Look host key here) new)
  IsShort Nothing old new = new ≡ old

  -- ---- a link at a host

  -- These messages took these turns, which led from one pass to another, and these bytes answer them.
  pub record IsServed (ms : List Received) (old new : P) (bytes : List ℕ) : Type 0 where
    pub turns : List Exchange
    pub leads : Leads exchanges old turns new
    pub take : AreTurns host ms turns
    pub written : bytes ≡ served ms turns

  pub nothing_served : (p : P) → IsServed [] p p []
  unfolding AreTurns
  nothing_served p = record { turns = []; leads = leads_none exchanges p; take = refl; written = sym (served_none []) }

  -- what was done for a message are its turns
  pub record HasTurns (form : Form) (c : Calling) (old new : P) (bytes : Option (List ℕ)) : Type 0 where
    pub turns : List Exchange
    pub leads : Leads exchanges old turns new
    pub takes : Takes host c turns
    pub written : bytes ≡ answer_by form c turns

  answered_turns : (form : Form) (c : Calling) (old new : P) (bytes : Option (List ℕ)) → IsAnswered form c old new bytes → HasTurns form c old new bytes
  answered_turns form (Ask id flags key asked) old new bytes a = record {
    turns = Request host key asked a.answer ∷ [];
    leads = leads_one exchanges old new (Request host key asked a.answer) a.so;
    takes = (a.answer, a.replies, refl);
    written = a.written;
  }
  answered_turns form (Locate id key) old new bytes a = record {
    turns = Look host key a.here ∷ [];
    leads = leads_one exchanges old new (Look host key a.here) a.so;
    takes = (a.here, refl);
    written = a.written;
  }
  answered_turns form Nothing old new bytes a = record {
    turns = [];
    leads = subst (λ (x : P). Leads exchanges old [] x) (sym a.0) (leads_none exchanges old);
    takes = refl;
    written = a.1;
  }

  -- a message alone
  pub one_served : (m : Received) (old new : P) (bytes : Option (List ℕ)) → IsAnswered m.1 (calling_of m.0) old new bytes →
      IsServed (m ∷ []) old new (bytes_of bytes)
  one_served m old new bytes a =
      let t = answered_turns m.1 (calling_of m.0) old new bytes a in
      record {
        turns = t.turns;
        leads = t.leads;
        take = turns_one host m t.turns t.takes;
        written = ap bytes_of t.written ∙ sym (served_one host m t.turns t.takes);
      }

  -- one part of a link and then another
  pub both_served : (ms more : List Received) (old mid new : P) (bytes rest : List ℕ) → IsServed ms old mid bytes → IsServed more mid new rest →
      IsServed (ms ++ more) old new (bytes ++ rest)
  both_served ms more old mid new bytes rest a b = record {
    turns = a.turns ++ b.turns;
    leads = leads_join exchanges old mid new a.turns b.turns a.leads b.leads;
    take = turns_on host ms more a.turns b.turns a.take b.take;
    written = ap (λ (l : List ℕ). l ++ rest) a.written ∙ ap (λ (l : List ℕ). served ms a.turns ++ l) b.written
        ∙ sym (served_on host ms more a.turns b.turns a.take);
  }

  -- one message more
  pub more_served : (ms : List Received) (m : Received) (old mid new : P) (bytes : List ℕ) (last : Option (List ℕ)) → IsServed ms old mid bytes →
      IsAnswered m.1 (calling_of m.0) mid new last → IsServed (ms ++ m ∷ []) old new (bytes ++ bytes_of last)
  more_served ms m old mid new bytes last a answered =
      both_served ms (m ∷ []) old mid new bytes (bytes_of last) a (one_served m mid new last answered)

  -- ---- a message with the bytes so far

  -- a message of a link comes to the host, and what answers it stands behind what was written
  abbrev pub Meets : P × List ℕ → Received → P × List ℕ → Type 0
  Meets old m new = (bytes : Option (List ℕ)) × IsAnswered m.1 (calling_of m.0) old.0 new.0 bytes × (new.1 ≡ old.1 ++ bytes_of bytes)

  -- what was served so is what the messages take
  pub meets_served : (old new : P × List ℕ) (ms : List Received) → Leads Meets old ms new →
      (bytes : List ℕ) × (new.1 ≡ old.1 ++ bytes) × IsServed ms old.0 new.0 bytes
  unfolding Leads
  meets_served old new [] a = (
    [],
    ap (λ (x : P × List ℕ). x.1) a ∙ sym (append-nil old.1),
    subst (λ (x : P × List ℕ). IsServed [] old.0 x.0 []) (sym a) (nothing_served old.0),
  )
  meets_served old new (m ∷ ms) a =
      let r = meets_served a.0 new ms a.2 in
      let b : List ℕ = bytes_of a.1.0 in (
        b ++ r.0,
        r.1 ∙ ap (λ (l : List ℕ). l ++ r.0) a.1.2 ∙ append_assoc old.1 b r.0,
        both_served (m ∷ []) ms old.0 a.0.0 new.0 b r.0 (one_served m old.0 a.0.0 a.1.0 a.1.1) r.2,
      )
