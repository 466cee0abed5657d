-- In the midst of a link where a message's work is a function of the host's owner: the laws of loops, as equations.
use Rattle.std.proofs.Common.{◌≡◌, ℕ, List, [], ◌∷◌, ◌++◌, Option, Some, None, refl, sym, ap, subst, ◌∙◌, append-nil}
use Rattle.giop_messages.specs.declared.forms.Form.{Form}
use Rattle.giop_messages.specs.declared.messages.Message.{Message}
use Rattle.giop_stream.specs.declared.sessions.SessionStep.{SessionStep}
use Rattle.giop_stream.specs.declared.sessions.SessionStep.TheVariants as steps
use Rattle.giop_stream.specs.declared.sessions.StreamEnd.{StreamEnd}
use Rattle.giop_stream.specs.Parts.{Received}
use Rattle.giop_stream.specs.Sessions.{AreAll, Serves, Serving, Session, served_before, served_on, session}
use Rattle.group_model.specs.declared.asking.Asked.{Asked}
use Rattle.link_session.specs.declared.calls.Calling.{Calling}
use Rattle.link_session.specs.declared.calls.Calling.TheVariants.{Ask, Locate, Nothing}
use Rattle.link_session.specs.Calls.{calling_of}
use Rattle.link_session.specs.Exchanges.{Leads}
use Rattle.link_session.specs.Loops as loops
use Rattle.link_session.specs.Ports.{Port, Replying, called, end_error, ended, linked, locate_reply_of, reply_of, served, session_served, step, writes}

module _ {P : Type 0} (port : Port P) where
  -- ---- messages served one after another

  pub served_none : (p : P) → served port p [] ≡ p
  unfolding served
  served_none p = refl

  pub served_one : (p : P) (m : Received) → served port p (m ∷ []) ≡ step port p m.0 m.1
  unfolding served
  served_one p m = refl

  pub served_join : (p : P) (ms more : List Received) → served port p (ms ++ more) ≡ served port (served port p ms) more
  unfolding served
  served_join p [] more = refl
  served_join p (m ∷ ms) more = served_join (step port p m.0 m.1) ms more

  -- one more message
  pub served_last : (p : P) (ms : List Received) (m : Received) → served port p (ms ++ m ∷ []) ≡ step port (served port p ms) m.0 m.1
  served_last p ms m = served_join p ms (m ∷ []) ∙ served_one (served port p ms) m

  -- ---- in the midst of a link

  abbrev pub StepsTo : P → Received → P → Type 0
  StepsTo old m new = new ≡ step port old m.0 m.1

  -- what these messages lead to is what is served of them
  pub leads_served : (p now : P) (ms : List Received) → Leads StepsTo p ms now → served port p ms ≡ now
  unfolding Leads served
  leads_served p now [] a = sym a
  leads_served p now (m ∷ ms) a = ap (λ (q : P). served port q ms) (sym a.1) ∙ leads_served a.0 now ms a.2

  -- These bytes of the link were fed, and the messages that the session gave were served; now the host's owner
  -- stands so.
  abbrev pub IsAmid : P → List ℕ → Serving → P → Type 0
  IsAmid p fed s now = loops.IsAmid StepsTo p fed s now

  abbrev pub Steps : SessionStep → List ℕ → Serving → Serving → Type 0
  Steps o fed s t = loops.Steps o fed s t

  -- the session was made, and fed the link
  pub begins : (p now : P) (fed : List ℕ) (s : Serving) → now ≡ p → Serves s fed [] → IsAmid p fed s now
  begins p now fed s is serves = subst (λ (q : P). IsAmid p fed s q) (sym is) (loops.begins StepsTo p fed s serves)

  -- it gave a message, which was served
  pub goes_on : (p : P) (fed : List ℕ) (s t : Serving) (now next : P) (o : SessionStep) (m : Received) → IsAmid p fed s now → o ≡ steps.Serve m →
      Steps o fed s t → next ≡ step port now m.0 m.1 → IsAmid p fed t next
  goes_on p fed s t now next o m a is goes served_so = loops.goes_on StepsTo p fed s t now next o m a is goes served_so

  -- ---- the end

  over : (p : P) (fed : List ℕ) (now : P) (end : StreamEnd) → loops.IsOver StepsTo p fed end now → linked port p fed ≡ ended port now end
  over p fed now end o =
      ap (λ (s : Session). session_served port p s) o.is ∙ ap (λ (q : P). ended port q end) (leads_served p now o.given o.so)

  -- the session told its end
  pub ends : (p : P) (fed : List ℕ) (s t : Serving) (now : P) (o : SessionStep) (end : StreamEnd) → IsAmid p fed s now → o ≡ steps.End end → Steps o fed s t →
      linked port p fed ≡ ended port now end
  ends p fed s t now o end a is goes = over p fed now end (loops.ends StepsTo p fed s t now o end a is goes)

  -- it waits for more bytes, and none come
  pub ends_waiting : (p : P) (fed : List ℕ) (s t : Serving) (now : P) (o : SessionStep) (end : StreamEnd) → IsAmid p fed s now → o ≡ steps.Wait → Steps o fed s t →
      ((given : List Received) → Serves t fed given → AreAll fed given → session fed ≡ record { messages = given; end = end }) →
      linked port p fed ≡ ended port now end
  ends_waiting p fed s t now o end a is goes at_end = over p fed now end (loops.ends_waiting StepsTo p fed s t now o end a is goes at_end)

  -- ---- what never falls along a link

  -- a relation between states that is kept along whatever a link does
  pub record Grows (R : P → P → Type 0) : Type 0 where
    pub same : (p : P) → R p p
    pub next : (p q r : P) → R p q → R q r → R p r
    pub asks : (p : P) (key : List ℕ) (asked : Asked) (reply : Replying) → R p (port.ask p key asked reply)
    pub writes : (p : P) (bytes : List ℕ) → R p (port.write p bytes)

  module _ (R : P → P → Type 0) (g : Grows R) where
    pub writes_grow : (p : P) (bytes : Option (List ℕ)) → R p (writes port p bytes)
    writes_grow p None = g.same p
    writes_grow p (Some bytes) = g.writes p bytes

    called_grows : (p : P) (form : Form) (c : Calling) → R p (called port p form c)
    called_grows p form (Ask id flags key asked) = g.asks p key asked (reply_of id flags form)
    called_grows p form (Locate id key) = g.writes p (locate_reply_of id form (port.here p key))
    called_grows p form Nothing = g.same p

    pub step_grows : (p : P) (message : Message) (form : Form) → R p (step port p message form)
    step_grows p message form = called_grows p form (calling_of message)

    pub served_grows : (p : P) (ms : List Received) → R p (served port p ms)
    unfolding served
    served_grows p [] = g.same p
    served_grows p (m ∷ ms) =
        let q : P = step port p m.0 m.1 in g.next p q (served port q ms) (step_grows p m.0 m.1) (served_grows q ms)

    pub session_grows : (p : P) (s : Session) → R p (session_served port p s)
    session_grows p s =
        let q : P = served port p s.messages in g.next p q (ended port q s.end) (served_grows p s.messages) (writes_grow q (end_error s.end))

    -- from any place in the midst of a link to its end
    pub amid_grows : (p : P) (fed : List ℕ) (s : Serving) (now : P) → IsAmid p fed s now → R now (linked port p fed)
    amid_grows p fed s now a =
        let rest : Session = served_on s [] s.ended in
        let is : session fed ≡ served_before a.given rest = ap session (sym (append-nil fed)) ∙ a.serves.on [] in
        let on : linked port p fed ≡ session_served port now rest =
        ap (λ (t : Session). session_served port p t) is
        ∙ ap (λ (q : P). ended port q rest.end) (served_join p a.given rest.messages)
        ∙ ap (λ (q : P). session_served port q rest) (leads_served p now a.given a.so) in
        subst (λ (q : P). R now q) (sym on) (session_grows now rest)
