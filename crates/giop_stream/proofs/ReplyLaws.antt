-- Replies that are read one by one, against all Replies of a link.
use Rattle.std.proofs.Common.{◌≡◌, ◌<◌, ◌≤◌, ℕ, length, arith, List, [], ◌∷◌, ◌++◌, Option, Some, None, Result, Ok, Err, refl, sym, ap, ◌∙◌, subst, append_assoc}
use Rattle.std.proofs.lemmas.List.{append-nil}
use Rattle.ft_base.specs.declared.memory.NoMemory.{NoMemory}
use Rattle.giop_messages.specs.declared.messages.Message.{Message}
use Rattle.giop_messages.specs.declared.messages.Message.TheVariants as messages
use Rattle.giop_messages.specs.declared.messages.ReplyMsg.{ReplyMsg}
use Rattle.giop_stream.specs.declared.faults.StreamFault.{StreamFault}
use Rattle.giop_stream.specs.declared.sessions.StreamEnd.{StreamEnd}
use Rattle.giop_stream.specs.declared.replies.ReplyStep.{ReplyStep}
use Rattle.giop_stream.specs.declared.replies.ReplyStep.TheVariants as steps
use Rattle.giop_stream.specs.Parts.{Received}
use Rattle.giop_stream.specs.Streams.{Rest, Streamed, stops, stream}
use Rattle.giop_stream.specs.Frames.{EndsWith, Frames, HasNext, Stands, resume}
use Rattle.giop_stream.specs.Sessions.{Serves, Serving, fault_end, rest_end, stream_end}
use Rattle.giop_stream.specs.Replies.{AreAllReplies, HasFewerOrPasses, IsPast, IsReplyEnd, IsSpelledReply, Listens, Reads, ReadsOrPasses, Replies, StandsUnlessOver, StaysOverOrPasses, StopsReplies, TakesReply, link_replies, message_before, no_replies, replies_among, replies_before, replies_on, stream_replies}
use Rattle.giop_stream.specs.Spelled.{IsSpelled}
use Rattle.giop_stream.proofs.SessionLaws.{all_stops, none_left, of_fault, one_more, resumed_fed, same_rest}

-- the two laws of the Replies among messages
among_none : (end : StreamEnd) → replies_among [] end ≡ no_replies end
unfolding replies_among
among_none end = refl

among_more : (m : Received) (ms : List Received) (end : StreamEnd) → replies_among (m ∷ ms) end ≡ message_before m.0 (replies_among ms end)
unfolding replies_among
among_more m ms end = refl

-- ---- what still comes

before_end : (given : List ReplyMsg) (end : StreamEnd) → replies_before given (no_replies end) ≡ record { replies = given; end = end }
before_end given end = ap (λ (all : List ReplyMsg). record { replies = all; end = end }) (append-nil given)

before_both : (given : List ReplyMsg) (r : ReplyMsg) (l : Replies) → replies_before given (replies_before (r ∷ []) l) ≡ replies_before (given ++ r ∷ []) l
before_both given r l = ap (λ (all : List ReplyMsg). record { replies = all; end = l.end }) (sym (append_assoc given (r ∷ []) l.replies))

onward : (s : Serving) (fed : List ℕ) (given : List ReplyMsg) (more : List ℕ) → s.ended ≡ None → Listens s fed given
    → link_replies (fed ++ more) ≡ replies_before given (stream_replies (resume s.frames more))
onward s fed given more e h = h.on more ∙ ap (λ (o : Option StreamEnd). replies_before given (replies_on s more o)) e

pub stands_of : (s : Serving) (fed : List ℕ) (given : List ReplyMsg) → s.ended ≡ None → Listens s fed given → (ms : List Received) × Stands s.frames fed ms
stands_of s fed given e h = subst (λ (o : Option StreamEnd). StandsUnlessOver o s.frames fed) e h.stands

listens_by : (t : Serving) (fed : List ℕ) (given : List ReplyMsg) (ms : List Received) → t.ended ≡ None
    → ((more : List ℕ) → link_replies (fed ++ more) ≡ replies_before given (stream_replies (resume t.frames more))) → Stands t.frames fed ms → Listens t fed given
listens_by t fed given ms e on stands = record {
  on = λ more. on more ∙ ap (λ (o : Option StreamEnd). replies_before given (replies_on t more o)) (sym e);
  stands = subst (λ (o : Option StreamEnd). StandsUnlessOver o t.frames fed) (sym e) (ms, stands);
}

over_by : (t : Serving) (fed : List ℕ) (given : List ReplyMsg) (end : StreamEnd) → t.ended ≡ Some end
    → ((more : List ℕ) → link_replies (fed ++ more) ≡ replies_before given (no_replies end)) → Listens t fed given × IsReplyEnd fed given end
over_by t fed given end e on = (
  record {
    on = λ more. on more ∙ ap (λ (o : Option StreamEnd). replies_before given (replies_on t more o)) (sym e);
    stands = subst (λ (o : Option StreamEnd). StandsUnlessOver o t.frames fed) (sym e) tt;
  },
  λ more. on more ∙ before_end given end,
)

-- ---- one step

pub listens_over : (s : Serving) (fed : List ℕ) → s.ended ≡ None → Stands s.frames fed [] → Listens s fed []
listens_over s fed e h = listens_by s fed [] [] e (λ more. ap stream_replies (h.on more)) h

pub listens_fed : (s t : Serving) (fed piece : List ℕ) (given : List ReplyMsg) → s.ended ≡ None → t.ended ≡ s.ended
    → ((ms : List Received) → Stands s.frames fed ms → Stands t.frames (fed ++ piece) ms) → Listens s fed given → Listens t (fed ++ piece) given
listens_fed s t fed piece given e f on h =
    let before = stands_of s fed given e h in
    let after = on before.0 before.1 in
    listens_by t (fed ++ piece) given before.0 (f ∙ e)
    (λ more. ap link_replies (append_assoc fed piece more) ∙ onward s fed given (piece ++ more) e h
    ∙ ap (λ (x : Streamed). replies_before given (stream_replies x)) (resumed_fed s.frames t.frames fed piece before.0 before.1 after more))
    after

pub listens_ended : (s : Serving) (fed piece : List ℕ) (given : List ReplyMsg) (end : StreamEnd) → s.ended ≡ Some end → Listens s fed given → Listens s (fed ++ piece) given
listens_ended s fed piece given end e h =
    (over_by s (fed ++ piece) given end e
    (λ more. ap link_replies (append_assoc fed piece more) ∙ h.on (piece ++ more) ∙ ap (λ (o : Option StreamEnd). replies_before given (replies_on s (piece ++ more) o)) e)).0

pub reads_ended : (s : Serving) (fed : List ℕ) (given : List ReplyMsg) (end : StreamEnd) → s.ended ≡ Some end → Listens s fed given
    → Reads (Ok (steps.End end)) fed given s
reads_ended s fed given end e h =
    over_by s fed given end e (λ more. h.on more ∙ ap (λ (o : Option StreamEnd). replies_before given (replies_on s more o)) e)

listens_on : (s t : Serving) (fed : List ℕ) (given : List ReplyMsg) (ms : List Received) → s.ended ≡ None → t.ended ≡ None → Listens s fed given
    → Stands s.frames fed ms → Stands t.frames fed ms → Listens t fed given
listens_on s t fed given ms e f h old new =
    listens_by t fed given ms f
    (λ more. onward s fed given more e h
    ∙ ap (λ (x : Streamed). replies_before given (stream_replies x)) (same_rest s.frames t.frames fed ms old new more))
    new

-- a message came
on_message : (s : Serving) (g : Frames) (fed : List ℕ) (given : List ReplyMsg) (ms : List Received) (m : Received) (more : List ℕ) → s.ended ≡ None
    → Listens s fed given → Stands s.frames fed ms → Stands g fed (ms ++ m ∷ [])
    → link_replies (fed ++ more) ≡ replies_before given (message_before m.0 (stream_replies (resume g more)))
on_message s g fed given ms m more e h old new =
    let rest = resume g more in
    onward s fed given more e h ∙ ap (λ (x : Streamed). replies_before given (stream_replies x)) (one_more s.frames g fed ms m old new more)
    ∙ ap (replies_before given) (among_more m rest.messages (stream_end rest.end))

pub reads_taken : (r : Option ReplyStep) (m : Received) (s k t : Serving) (fed : List ℕ) (given : List ReplyMsg) (ms : List Received) → s.ended ≡ None
    → k.ended ≡ s.ended → TakesReply r m.0 k t → Stands s.frames fed ms → Stands k.frames fed (ms ++ m ∷ []) → Listens s fed given
    → ReadsOrPasses (Ok r) fed given t
reads_taken (Some (steps.Reply x)) m s k t fed given ms e f took old new h =
    let there : Listens k fed (given ++ x ∷ []) =
    listens_by k fed (given ++ x ∷ []) (ms ++ m ∷ []) (f ∙ e)
    (λ more. on_message s k.frames fed given ms m more e h old new
    ∙ ap (λ (y : Message). replies_before given (message_before y (stream_replies (resume k.frames more)))) took.0
    ∙ before_both given x (stream_replies (resume k.frames more))) new in
    subst (λ (t : Serving). Listens t fed (given ++ x ∷ [])) (sym took.1) there
reads_taken (Some steps.Wait) m s k t fed given ms e f took old new h = absurd took
reads_taken (Some (steps.End end)) m s k t fed given ms e f took old new h =
    over_by t fed given end (ap (λ (t : Serving). t.ended) took.1)
    (λ more. on_message s k.frames fed given ms m more e h old new ∙ ap (replies_before given) (took.0 (stream_replies (resume k.frames more))))
reads_taken None m s k t fed given ms e f took old new h =
    let there : Listens k fed given =
    listens_by k fed given (ms ++ m ∷ []) (f ∙ e)
    (λ more. on_message s k.frames fed given ms m more e h old new ∙ ap (replies_before given) (took.0 (stream_replies (resume k.frames more)))) new in
    subst (λ (t : Serving). Listens t fed given) (sym took.1) there

pub reads_stopped : (r : Result (Option ReplyStep) NoMemory) (fault : StreamFault) (s k t : Serving) (fed : List ℕ) (given : List ReplyMsg) (ms : List Received)
    → s.ended ≡ None → k.ended ≡ s.ended → StopsReplies r fault k t → HasNext (Err fault) fed ms k.frames → Stands s.frames fed ms → Listens s fed given
    → ReadsOrPasses r fed given t
reads_stopped (Ok (Some (steps.Reply x))) fault s k t fed given ms e f stopped next old h = absurd stopped
reads_stopped (Ok (Some steps.Wait)) fault s k t fed given ms e f stopped next old h = absurd stopped
reads_stopped (Ok (Some (steps.End end))) fault s k t fed given ms e f stopped next old h =
    let ends : EndsWith fed ms fault = of_fault fault (EndsWith fed ms fault) stopped.0 next.1 in
    let over : (more : List ℕ) → link_replies (fed ++ more) ≡ replies_before given (no_replies end) = λ more.
    onward s fed given more e h
    ∙ ap (λ (x : Streamed). replies_before given (stream_replies x)) (all_stops s.frames fed ms fault old ends more)
    ∙ ap (replies_before given) (among_none (fault_end fault)) ∙ ap (λ (x : StreamEnd). replies_before given (no_replies x)) (sym stopped.1) in
    over_by t fed given end (ap (λ (t : Serving). t.ended) stopped.2) over
reads_stopped (Ok None) fault s k t fed given ms e f stopped next old h = absurd stopped
reads_stopped (Err x) fault s k t fed given ms e f stopped next old h =
    listens_on s t fed given ms e (ap (λ (t : Serving). t.ended) stopped ∙ f ∙ e) h old (subst (λ (t : Serving). Stands t.frames fed ms) (sym stopped) next.0)

-- all Replies, where no further message is whole
all_read : (s : Serving) (fed : List ℕ) (given : List ReplyMsg) (ms : List Received) (n : ℕ) → s.ended ≡ None → Listens s fed given → Stands s.frames fed ms
    → stream fed ≡ record { messages = ms; end = Rest n } → link_replies fed ≡ record { replies = given; end = rest_end n }
all_read s fed given ms n e h stands all =
    ap link_replies (sym (append-nil fed)) ∙ onward s fed given [] e h
    ∙ ap (λ (x : Streamed). replies_before given (stream_replies x)) (none_left s.frames fed ms n stands all)
    ∙ ap (replies_before given) (among_none (rest_end n)) ∙ before_end given (rest_end n)

pub reads_waiting : (s k : Serving) (fed : List ℕ) (given : List ReplyMsg) (ms : List Received) → s.ended ≡ None → k.ended ≡ s.ended
    → HasNext (Ok None) fed ms k.frames → Stands s.frames fed ms → Listens s fed given → Reads (Ok steps.Wait) fed given k
reads_waiting s k fed given ms e f next old h =
    (listens_on s k fed given ms e (f ∙ e) h old next.0, (ms, next.1.0, next.1.1, all_read s fed given ms next.1.0 e h old next.1.1))

-- ---- where no more bytes come

pub at_rest : (fed : List ℕ) (given : List ReplyMsg) (n : ℕ) (end : StreamEnd) → link_replies fed ≡ record { replies = given; end = rest_end n } → end ≡ rest_end n
    → link_replies fed ≡ record { replies = given; end = end }
at_rest fed given n end all is = all ∙ ap (λ (x : StreamEnd). record { replies = given; end = x }) (sym is)

pub at_ended : (s : Serving) (fed : List ℕ) (given : List ReplyMsg) (end : StreamEnd) → s.ended ≡ Some end → Listens s fed given
    → link_replies fed ≡ record { replies = given; end = end }
at_ended s fed given end e h = ap link_replies (sym (append-nil fed)) ∙ (reads_ended s fed given end e h).1 []

-- ---- messages that are passed over

pub past_self : (s : Serving) → s.ended ≡ None → IsPast s s
past_self s e = record { on = λ fed given h. h; going = e; fewer = omega arith }

pub past_step : (f k t : Serving) (o : Option ReplyStep) → IsPast f k → o ≡ None
    → ((fed : List ℕ) (given : List ReplyMsg) → Listens k fed given → ReadsOrPasses (Ok o) fed given t) → StaysOverOrPasses (Ok o) t → HasFewerOrPasses (Ok o) k t
    → IsPast f t
past_step f k t o p is on stays fewer =
    let less : length t.frames.rest < length k.frames.rest = subst (λ (x : Option ReplyStep). HasFewerOrPasses (Ok x) k t) is fewer in
    record {
      on = λ fed given h. subst (λ (x : Option ReplyStep). ReadsOrPasses (Ok x) fed given t) is (on fed given (p.on fed given h));
      going = subst (λ (x : Option ReplyStep). StaysOverOrPasses (Ok x) t) is stays;
      fewer = omega (arith, p.fewer, less);
    }

pub reads_of : (o : Option ReplyStep) (step : ReplyStep) (fed : List ℕ) (given : List ReplyMsg) (t : Serving) → o ≡ Some step → ReadsOrPasses (Ok o) fed given t
    → Reads (Ok step) fed given t
reads_of o step fed given t is h = subst (λ (x : Option ReplyStep). ReadsOrPasses (Ok x) fed given t) is h

-- ---- what calls answered

pub spelled_reply : (r : ReplyMsg) (m : Received) → m.0 ≡ messages.Reply r → IsSpelled m → IsSpelledReply r
spelled_reply r m is s = (m.1, subst (λ (x : Message). IsSpelled (x, m.1)) is s)
