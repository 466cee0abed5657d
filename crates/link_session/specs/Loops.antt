-- In the midst of a link: what its messages came to so far, one after another. The laws here are what a loop over a
-- session rests on, whatever a message comes to.
use Rattle.std.proofs.Common.{◌≡◌, ℕ, List, [], ◌∷◌, ◌++◌, Ok, sym, ap, subst, ◌∙◌, append-nil}
use Rattle.giop_stream.specs.declared.sessions.SessionStep.{SessionStep}
use Rattle.giop_stream.specs.declared.sessions.SessionStep.TheVariants as steps
use Rattle.giop_stream.specs.declared.sessions.StreamEnd.{StreamEnd}
use Rattle.giop_stream.specs.Parts.{Received}
use Rattle.giop_stream.specs.Sessions.{AreAll, Goes, Serves, Serving, session}
use Rattle.link_session.specs.Exchanges.{Leads, leads_none, leads_on}

-- what a step of the session leaves
abbrev pub Steps : SessionStep → List ℕ → Serving → Serving → Type 0
Steps o fed s t = (given : List Received) → Serves s fed given → Goes (Ok o) fed given t

module _ {P : Type 0} (meets : P → Received → P → Type 0) where
  -- These bytes of the link were fed, and the messages that the session gave were met; that led to where it stands now.
  pub record IsAmid (p : P) (fed : List ℕ) (s : Serving) (now : P) : Type 0 where
    pub given : List Received
    pub serves : Serves s fed given
    pub so : Leads meets p given now

  -- the session was made, and fed these bytes
  pub begins : (p : P) (fed : List ℕ) (s : Serving) → Serves s fed [] → IsAmid p fed s p
  begins p fed s serves = record { given = []; serves = serves; so = leads_none meets p }

  -- it gave a message, which was met
  pub goes_on : (p : P) (fed : List ℕ) (s t : Serving) (now next : P) (o : SessionStep) (m : Received) → IsAmid p fed s now → o ≡ steps.Serve m →
      Steps o fed s t → meets now m next → IsAmid p fed t next
  goes_on p fed s t now next o m a is goes met = record {
    given = a.given ++ m ∷ [];
    serves = subst (λ (x : SessionStep). Goes (Ok x) fed a.given t) is (goes a.given a.serves);
    so = leads_on meets p now next a.given m a.so met;
  }

  -- whatever else was done with it, the messages so far were met; more bytes may have been fed
  pub stays : (p : P) (fed more : List ℕ) (s t : Serving) (now : P) → IsAmid p fed s now →
      ((given : List Received) → Serves s fed given → Serves t more given) → IsAmid p more t now
  stays p fed more s t now a serves = record { given = a.given; serves = serves a.given a.serves; so = a.so }

  -- ---- the end

  -- all that a server serves of a link with these bytes was met, and the link ends so
  pub record IsOver (p : P) (fed : List ℕ) (end : StreamEnd) (now : P) : Type 0 where
    pub given : List Received
    pub is : session fed ≡ record { messages = given; end = end }
    pub so : Leads meets p given now

  -- the session told its end
  pub ends : (p : P) (fed : List ℕ) (s t : Serving) (now : P) (o : SessionStep) (end : StreamEnd) → IsAmid p fed s now → o ≡ steps.End end →
      Steps o fed s t → IsOver p fed end now
  ends p fed s t now o end a is goes =
      let over = (subst (λ (x : SessionStep). Goes (Ok x) fed a.given t) is (goes a.given a.serves)).1 in
      record { given = a.given; is = ap session (sym (append-nil fed)) ∙ over []; so = a.so }

  -- it waits for more bytes, and none come
  pub ends_waiting : (p : P) (fed : List ℕ) (s t : Serving) (now : P) (o : SessionStep) (end : StreamEnd) → IsAmid p fed s now → o ≡ steps.Wait →
      Steps o fed s t → ((given : List Received) → Serves t fed given → AreAll fed given → session fed ≡ record { messages = given; end = end }) →
      IsOver p fed end now
  ends_waiting p fed s t now o end a is goes at_end =
      let waits = subst (λ (x : SessionStep). Goes (Ok x) fed a.given t) is (goes a.given a.serves) in
      record { given = a.given; is = at_end a.given waits.0 waits.1; so = a.so }
