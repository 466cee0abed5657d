-- A session that is served message by message, against the session as a whole.
use Rattle.std.proofs.Common.{◌≡◌, ℕ, List, [], ◌∷◌, ◌++◌, Option, Some, None, Result, Ok, Err, refl, sym, ap, ◌∙◌, subst, append_assoc}
use Rattle.std.specs.Prelude.{OnOk}
use Rattle.std.proofs.lemmas.List.{append-nil}
use Rattle.ft_base.specs.declared.memory.NoMemory.{NoMemory}
use Rattle.giop_stream.specs.declared.faults.StreamFault.{StreamFault}
use Rattle.giop_stream.specs.declared.faults.StreamFault.TheVariants as faults
use Rattle.giop_stream.specs.declared.sessions.StreamEnd.{StreamEnd}
use Rattle.giop_stream.specs.declared.sessions.SessionStep.{SessionStep}
use Rattle.giop_stream.specs.declared.sessions.SessionStep.TheVariants as steps
use Rattle.cdr_codec.specs.Calls.{OnFault}
use Rattle.giop_stream.specs.Faults.{link_fault}
use Rattle.giop_stream.specs.Parts.{Received}
use Rattle.giop_stream.specs.Streams.{End, Rest, Stops, Streamed, behind, stops, stream}
use Rattle.giop_stream.specs.Frames.{EndsWith, Frames, HasNext, Stands, resume}
use Rattle.giop_stream.specs.Sessions.{Goes, IsOfLink, IsOver, Serves, Serving, Session, StandsUnlessEnded, StopsBy, Takes, end_by, ends_now, fault_end, rest_end, served, served_before, served_on, session, session_of, stream_end, unless_ended}
use Rattle.giop_stream.proofs.FrameLaws.{ended}

-- the two laws of a session
served_none : (end : StreamEnd) → served [] end ≡ ends_now end
unfolding served
served_none end = refl

served_more : (m : Received) (ms : List Received) (end : StreamEnd) → served (m ∷ ms) end ≡ unless_ended m (end_by m.0) (served ms end)
unfolding served
served_more m ms end = refl

-- ---- two ways to say what still comes of a stream

cancel : (xs ys zs : List Received) → xs ++ ys ≡ xs ++ zs → ys ≡ zs
cancel [] ys zs e = e
cancel (x ∷ xs) ys zs e = cancel xs ys zs cc

same_streamed : (s t : Streamed) → s.messages ≡ t.messages → s.end ≡ t.end → s ≡ t
same_streamed s t m e =
    ap (λ (ms : List Received). record { messages = ms; end = s.end }) m ∙ ap (λ (end : End). record { messages = t.messages; end = end }) e

cancel_behind : (given : List Received) (s t : Streamed) → behind given s ≡ behind given t → s ≡ t
cancel_behind given s t e =
    same_streamed s t (cancel given s.messages t.messages (ap (λ (x : Streamed). x.messages) e)) (ap (λ (x : Streamed). x.end) e)

pub same_rest : (f g : Frames) (fed : List ℕ) (given : List Received) → Stands f fed given → Stands g fed given → (more : List ℕ) → resume f more ≡ resume g more
same_rest f g fed given s t more = cancel_behind given (resume f more) (resume g more) (sym (s.on more) ∙ t.on more)

pub one_more : (f g : Frames) (fed : List ℕ) (given : List Received) (m : Received) → Stands f fed given → Stands g fed (given ++ m ∷ []) → (more : List ℕ)
    → resume f more ≡ behind (m ∷ []) (resume g more)
one_more f g fed given m s t more =
    let rest = resume g more in
    cancel_behind given (resume f more) (behind (m ∷ []) rest)
    (sym (s.on more) ∙ t.on more ∙ ap (λ (all : List Received). record { messages = all; end = rest.end }) (append_assoc given (m ∷ []) rest.messages))

-- after a piece, what still comes is what comes of the piece and of what follows it
pub resumed_fed : (f g : Frames) (fed piece : List ℕ) (given : List Received) → Stands f fed given → Stands g (fed ++ piece) given → (more : List ℕ)
    → resume f (piece ++ more) ≡ resume g more
resumed_fed f g fed piece given s t more =
    cancel_behind given (resume f (piece ++ more)) (resume g more) (sym (s.on (piece ++ more)) ∙ ap stream (sym (append_assoc fed piece more)) ∙ t.on more)

pub all_stops : (f : Frames) (fed : List ℕ) (given : List Received) (fault : StreamFault) → Stands f fed given → EndsWith fed given fault → (more : List ℕ)
    → resume f more ≡ stops fault
all_stops f fed given fault s e more = cancel_behind given (resume f more) (stops fault) (sym (s.on more) ∙ e more ∙ sym (ended given (Stops fault)))

pub none_left : (f : Frames) (fed : List ℕ) (given : List Received) (n : ℕ) → Stands f fed given → stream fed ≡ record { messages = given; end = Rest n }
    → resume f [] ≡ record { messages = []; end = Rest n }
none_left f fed given n s e =
    cancel_behind given (resume f []) (record { messages = []; end = Rest n })
    (sym (s.on []) ∙ ap stream (append-nil fed) ∙ e ∙ sym (ended given (Rest n)))

-- ---- what still comes of a session

before_end : (given : List Received) (end : StreamEnd) → served_before given (ends_now end) ≡ record { messages = given; end = end }
before_end given end = ap (λ (all : List Received). record { messages = all; end = end }) (append-nil given)

before_both : (given : List Received) (m : Received) (s : Session) → served_before given (served_before (m ∷ []) s) ≡ served_before (given ++ m ∷ []) s
before_both given m s = ap (λ (all : List Received). record { messages = all; end = s.end }) (sym (append_assoc given (m ∷ []) s.messages))

onward : (s : Serving) (fed : List ℕ) (given : List Received) (more : List ℕ) → s.ended ≡ None → Serves s fed given
    → session (fed ++ more) ≡ served_before given (session_of (resume s.frames more))
onward s fed given more e h = h.on more ∙ ap (λ (o : Option StreamEnd). served_before given (served_on s more o)) e

pub stands_of : (s : Serving) (fed : List ℕ) (given : List Received) → s.ended ≡ None → Serves s fed given → Stands s.frames fed given
stands_of s fed given e h = subst (λ (o : Option StreamEnd). StandsUnlessEnded o s.frames fed given) e h.stands

serves_by : (t : Serving) (fed : List ℕ) (given : List Received) → t.ended ≡ None
    → ((more : List ℕ) → session (fed ++ more) ≡ served_before given (session_of (resume t.frames more))) → Stands t.frames fed given → Serves t fed given
serves_by t fed given e on stands = record {
  on = λ more. on more ∙ ap (λ (o : Option StreamEnd). served_before given (served_on t more o)) (sym e);
  stands = subst (λ (o : Option StreamEnd). StandsUnlessEnded o t.frames fed given) (sym e) stands;
}

ends_by : (t : Serving) (fed : List ℕ) (given : List Received) (end : StreamEnd) → t.ended ≡ Some end
    → ((more : List ℕ) → session (fed ++ more) ≡ served_before given (ends_now end)) → Serves t fed given × IsOver fed given end
ends_by t fed given end e on = (
  record {
    on = λ more. on more ∙ ap (λ (o : Option StreamEnd). served_before given (served_on t more o)) (sym e);
    stands = subst (λ (o : Option StreamEnd). StandsUnlessEnded o t.frames fed given) (sym e) tt;
  },
  λ more. on more ∙ before_end given end,
)

-- ---- one step

pub serves_over : (s : Serving) (fed : List ℕ) → s.ended ≡ None → Stands s.frames fed [] → Serves s fed []
serves_over s fed e h = serves_by s fed [] e (λ more. ap session_of (h.on more)) h

pub serves_fed : (s t : Serving) (fed piece : List ℕ) (given : List Received) → s.ended ≡ None → t.ended ≡ s.ended
    → ((given : List Received) → Stands s.frames fed given → Stands t.frames (fed ++ piece) given) → Serves s fed given → Serves t (fed ++ piece) given
serves_fed s t fed piece given e f on h =
    let before = stands_of s fed given e h in
    let after = on given before in
    let same = resumed_fed s.frames t.frames fed piece given before after in
    serves_by t (fed ++ piece) given (f ∙ e)
    (λ more. ap session (append_assoc fed piece more) ∙ onward s fed given (piece ++ more) e h ∙ ap (λ (x : Streamed). served_before given (session_of x)) (same more))
    after

pub serves_ended : (s : Serving) (fed piece : List ℕ) (given : List Received) (end : StreamEnd) → s.ended ≡ Some end → Serves s fed given → Serves s (fed ++ piece) given
serves_ended s fed piece given end e h =
    (ends_by s (fed ++ piece) given end e
    (λ more. ap session (append_assoc fed piece more) ∙ h.on (piece ++ more) ∙ ap (λ (o : Option StreamEnd). served_before given (served_on s (piece ++ more) o)) e)).0

pub goes_ended : (s : Serving) (fed : List ℕ) (given : List Received) (end : StreamEnd) → s.ended ≡ Some end → Serves s fed given
    → Goes (Ok (steps.End end)) fed given s
goes_ended s fed given end e h =
    ends_by s fed given end e (λ more. h.on more ∙ ap (λ (o : Option StreamEnd). served_before given (served_on s more o)) e)

pub goes_on : (s t : Serving) (fed : List ℕ) (given : List Received) → s.ended ≡ None → t.ended ≡ None → Serves s fed given → Stands t.frames fed given
    → Serves t fed given
goes_on s t fed given e f h stands =
    serves_by t fed given f
    (λ more. onward s fed given more e h
    ∙ ap (λ (x : Streamed). served_before given (session_of x)) (same_rest s.frames t.frames fed given (stands_of s fed given e h) stands more))
    stands

-- a message came: what the session is then, by whether it ends it
on_message : (s : Serving) (g : Frames) (fed : List ℕ) (given : List Received) (m : Received) (o : Option StreamEnd) (more : List ℕ) → s.ended ≡ None
    → Serves s fed given → Stands g fed (given ++ m ∷ []) → end_by m.0 ≡ o
    → session (fed ++ more) ≡ served_before given (unless_ended m o (session_of (resume g more)))
on_message s g fed given m o more e h stands is =
    let rest = resume g more in
    onward s fed given more e h
    ∙ ap (λ (x : Streamed). served_before given (session_of x)) (one_more s.frames g fed given m (stands_of s fed given e h) stands more)
    ∙ ap (served_before given) (served_more m rest.messages (stream_end rest.end))
    ∙ ap (λ (o : Option StreamEnd). served_before given (unless_ended m o (session_of rest))) is

pub goes_taken : (r : SessionStep) (m : Received) (s k t : Serving) (fed : List ℕ) (given : List Received) → s.ended ≡ None → k.ended ≡ s.ended → Takes r m k t
    → Stands k.frames fed (given ++ m ∷ []) → Serves s fed given → Goes (Ok r) fed given t
goes_taken (steps.Serve x) m s k t fed given e f took stands h =
    let there : Serves k fed (given ++ m ∷ []) =
    serves_by k fed (given ++ m ∷ []) (f ∙ e)
    (λ more. on_message s k.frames fed given m None more e h stands took.1 ∙ before_both given m (session_of (resume k.frames more))) stands in
    let at : Serves t fed (given ++ m ∷ []) = subst (λ (t : Serving). Serves t fed (given ++ m ∷ [])) (sym took.2) there in
    subst (λ (x : Received). Serves t fed (given ++ x ∷ [])) (sym took.0) at
goes_taken steps.Wait m s k t fed given e f took stands h = absurd took
goes_taken (steps.End end) m s k t fed given e f took stands h =
    ends_by t fed given end (ap (λ (t : Serving). t.ended) took.1) (λ more. on_message s k.frames fed given m (Some end) more e h stands took.0)

pub of_fault : (fault : StreamFault) (P : Type 0) → IsOfLink fault → OnFault (link_fault fault) P → P
of_fault (faults.Malformed why place) P of p = p
of_fault (faults.TooLarge size) P of p = p
of_fault faults.NoMemory P of p = absurd of

pub goes_stopped : (r : Result SessionStep NoMemory) (fault : StreamFault) (s k t : Serving) (fed : List ℕ) (given : List Received) → s.ended ≡ None
    → k.ended ≡ s.ended → StopsBy r fault k t → HasNext (Err fault) fed given k.frames → Serves s fed given → Goes r fed given t
goes_stopped (Ok (steps.Serve x)) fault s k t fed given e f stopped next h = absurd stopped
goes_stopped (Ok steps.Wait) fault s k t fed given e f stopped next h = absurd stopped
goes_stopped (Ok (steps.End end)) fault s k t fed given e f stopped next h =
    let ends : EndsWith fed given fault = of_fault fault (EndsWith fed given fault) stopped.0 next.1 in
    let over : (more : List ℕ) → session (fed ++ more) ≡ served_before given (ends_now end) = λ more.
    onward s fed given more e h
    ∙ ap (λ (x : Streamed). served_before given (session_of x)) (all_stops s.frames fed given fault (stands_of s fed given e h) ends more)
    ∙ ap (served_before given) (served_none (fault_end fault)) ∙ ap (λ (x : StreamEnd). served_before given (ends_now x)) (sym stopped.1) in
    ends_by t fed given end (ap (λ (t : Serving). t.ended) stopped.2) over
goes_stopped (Err x) fault s k t fed given e f stopped next h =
    goes_on s t fed given e (ap (λ (t : Serving). t.ended) stopped ∙ f ∙ e) h (subst (λ (t : Serving). Stands t.frames fed given) (sym stopped) next.0)

pub goes_waiting : (s k : Serving) (fed : List ℕ) (given : List Received) → s.ended ≡ None → k.ended ≡ s.ended → HasNext (Ok None) fed given k.frames
    → Serves s fed given → Goes (Ok steps.Wait) fed given k
goes_waiting s k fed given e f next h = (goes_on s k fed given e (f ∙ e) h next.0, next.1)

-- ---- where no more bytes come

pub at_rest : (s : Serving) (fed : List ℕ) (given : List Received) (n : ℕ) (end : StreamEnd) → s.ended ≡ None → Serves s fed given
    → stream fed ≡ record { messages = given; end = Rest n } → end ≡ rest_end n → session fed ≡ record { messages = given; end = end }
at_rest s fed given n end e h all is =
    ap session (sym (append-nil fed)) ∙ onward s fed given [] e h
    ∙ ap (λ (x : Streamed). served_before given (session_of x)) (none_left s.frames fed given n (stands_of s fed given e h) all)
    ∙ ap (served_before given) (served_none (rest_end n)) ∙ before_end given (rest_end n)
    ∙ ap (λ (x : StreamEnd). record { messages = given; end = x }) (sym is)

pub at_ended : (s : Serving) (fed : List ℕ) (given : List Received) (end : StreamEnd) → s.ended ≡ Some end → Serves s fed given
    → session fed ≡ record { messages = given; end = end }
at_ended s fed given end e h = ap session (sym (append-nil fed)) ∙ (goes_ended s fed given end e h).1 []

-- ---- what calls answered

pub on_ok : (r : Result (Unit {0}) NoMemory) (P Q : Type 0) → (P → Q) → OnOk r P → OnOk r Q
on_ok (Ok u) P Q f p = f p
on_ok (Err e) P Q f p = tt

pub stands_behind : (o : Option Received) (m : Received) (fed : List ℕ) (given : List Received) (g : Frames) → o ≡ Some m → HasNext (Ok o) fed given g
    → Stands g fed (given ++ m ∷ [])
stands_behind o m fed given g is next = subst (λ (o : Option Received). HasNext (Ok o) fed given g) is next

pub has_none : (o : Option Received) (fed : List ℕ) (given : List Received) (g : Frames) → o ≡ None → HasNext (Ok o) fed given g → HasNext (Ok None) fed given g
has_none o fed given g is next = subst (λ (o : Option Received). HasNext (Ok o) fed given g) is next
