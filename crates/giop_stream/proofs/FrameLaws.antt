-- The framer against the stream: what each of its steps leaves to come.
use Rattle.std.proofs.Common.{◌≡◌, ℕ, ◌+◌, ◌<◌, ◌≤◌, List, [], ◌∷◌, ◌++◌, length, take, drop, Option, Some, None, Result, Ok, Err, refl, sym, ap, ◌∙◌, subst, arith, append_assoc, length-append, length-drop}
use Rattle.std.specs.Prelude.{◌-◌, nat_lt}
use Rattle.std.proofs.lemmas.Bool.{cond-false, cond-true, le-ltb, lt-ltb}
use Rattle.std.proofs.lemmas.List.{append-nil, take-append-le}
use Rattle.giop_messages.specs.declared.heads.TheConstants.{HEAD_LENGTH}
use Rattle.giop_messages.specs.declared.heads.Head.{Head}
use Rattle.giop_stream.specs.declared.faults.StreamFault.{StreamFault}
use Rattle.giop_stream.specs.declared.faults.StreamFault.TheVariants as faults
use Rattle.giop_stream.specs.declared.framers.Step.TheVariants as steps
use Rattle.giop_stream.specs.declared.fronts.Front.TheVariants.{Partly, Wrong, Whole}
use Rattle.giop_stream.specs.Buffers.{Buffered}
use Rattle.cdr_codec.specs.Calls.{OnFault}
use Rattle.giop_stream.specs.Faults.{link_fault}
use Rattle.giop_stream.specs.Fronts.{total, needed, front, fronted, head_at, header_at_front, if_read, read_of, judged_front, IsJudgedAt}
use Rattle.giop_stream.specs.Parts.{Received, Begun, capped, Turn, Joins, Gives, Fails, turn}
use Rattle.giop_stream.specs.Streams.{End, Rest, Stops, behind, stops, spent_in, turned, stream_on, stream}
use Rattle.giop_stream.specs.Frames.{Frames, IsKept, goes_on, resume, Stands, Passes, EndsWith, HasNext, stopped_at}
use Rattle.giop_stream.specs.Steps.{stop_at, looked, Needs, Took, IsLess, Stepped, Advances}
use Rattle.giop_stream.proofs.StreamLaws.{front_fits, front_long, front_short, partly_short, whole_part, wrong_part, no_part}

-- ---- what still comes

resumed : (f : Frames) (more : List ℕ) → f.stopped ≡ None → resume f more ≡ stream_on f.begun (f.rest ++ more)
resumed f more e = ap (goes_on f more) e

resumed_at : (f : Frames) (more : List ℕ) (fault : StreamFault) → f.stopped ≡ Some fault → resume f more ≡ stops fault
resumed_at f more fault e = ap (goes_on f more) e

pub passes_self : (f : Frames) → Passes f f []
passes_self f = record { on = λ more. refl }

pub passes_on : (f g k : Frames) (ms : List Received) → Passes f g [] → Passes g k ms → Passes f k ms
passes_on f g k ms p q = record { on = λ more. p.on more ∙ q.on more }

-- ---- the header at the front

header_short : (bytes : List ℕ) → length bytes < HEAD_LENGTH → header_at_front bytes ≡ Ok None
header_short bytes h = cond-true (nat_lt (length bytes) HEAD_LENGTH) (Ok None) (if_read (head_at (take HEAD_LENGTH bytes))) (lt-ltb (length bytes) HEAD_LENGTH h)

header_long : (bytes : List ℕ) → HEAD_LENGTH ≤ length bytes → header_at_front bytes ≡ if_read (head_at (take HEAD_LENGTH bytes))
header_long bytes h = cond-false (nat_lt (length bytes) HEAD_LENGTH) (Ok None) (if_read (head_at (take HEAD_LENGTH bytes))) (le-ltb (length bytes) HEAD_LENGTH h)

pub looked_none : (f : Frames) (r : Result (Option Head) StreamFault) → r ≡ header_at_front f.rest → f.head ≡ read_of r → f ≡ looked f
looked_none f r e h = ap (λ (head : Option Head). record f { head = head }) (h ∙ ap read_of e)

short_partly : (head : Option Head) (rest : List ℕ) → IsJudgedAt head rest → length rest < needed head → front rest ≡ Partly
short_partly None rest j lt = front_short rest lt
short_partly (Some h) rest j lt = front_long rest j.0 ∙ ap (fronted rest) j.1 ∙ partly_short rest h lt

short_judged : (head : Option Head) (rest : List ℕ) → IsJudgedAt head rest → length rest < needed head → head ≡ judged_front rest
short_judged None rest j lt = ap read_of (sym (header_short rest lt))
short_judged (Some h) rest j lt =
    ap (λ (r : Result Head StreamFault). read_of (if_read r)) (sym j.1) ∙ ap read_of (sym (header_long rest j.0))

-- ---- the bytes that are missing

pub kept_needs : (need : ℕ) (f : Frames) → IsKept need f → 0 < need → Needs f
kept_needs need f k h =
    let l = k.lacks h in
    let lt : length f.rest < needed f.head = omega (arith, l.short, h) in
    record {
      partly = short_partly f.head f.rest k.judged lt;
      settled = l.settled;
      judged = short_judged f.head f.rest k.judged lt;
      going = l.going;
    }

pub kept_anew : (f : Frames) → IsJudgedAt f.head f.rest → IsKept 0 f
kept_anew f j = record { judged = j; lacks = λ h. absurd (omega (arith, h)) }

pub kept_taken : (need left : ℕ) (f : Frames) → f.head ≡ None → f.stopped ≡ None → left ≡ length f.rest → f.used ≤ length f.rest
    → (0 < need → (left ≡ 0) × (need ≡ HEAD_LENGTH)) → IsKept need f
kept_taken need left f none e is few missing = record {
  judged = subst (λ (head : Option Head). IsJudgedAt head f.rest) (sym none) tt;
  lacks = λ h.
      let m = missing h in
      let short : length f.rest + need ≤ HEAD_LENGTH = omega (arith, is, m.0, m.1) in
      record {
        short = subst (λ (head : Option Head). length f.rest + need ≤ needed head) (sym none) short;
        settled = omega (arith, few, is, m.0);
        going = e;
      };
}

pub kept_settled : (need : ℕ) (f : Frames) → IsJudgedAt f.head f.rest → f.used ≡ 0 → f.stopped ≡ None → need ≡ needed f.head - length f.rest
    → IsKept need f
kept_settled need f j u e is = record {
  judged = j;
  lacks = λ h. record { short = omega (arith, is, h); settled = u; going = e };
}

pub advances_needs : (f : Frames) → Needs f → Advances (Ok None) f f
advances_needs f n = (passes_self f, n.partly, (n.going, n.settled, n.judged))

-- ---- one step

-- what comes where the front is a whole message or part
front_taken : (f : Frames) (h : Head) (t : Turn) (more : List ℕ) → f.stopped ≡ None → front f.rest ≡ Whole h
    → turn f.begun h (take (total h) f.rest) ≡ t → resume f more ≡ turned t (drop (total h) f.rest ++ more) stream_on
front_taken f h t more e w is =
    resumed f more e ∙ whole_part f.begun f.rest more h w
    ∙ ap (λ (t : Turn). turned t (drop (total h) f.rest ++ more) stream_on) is

left_to_come : (f g : Frames) (h : Head) (more : List ℕ) → g.rest ≡ drop (total h) f.rest → g.stopped ≡ None
    → stream_on g.begun (drop (total h) f.rest ++ more) ≡ resume g more
left_to_come f g h more r e = ap (λ (rest : List ℕ). stream_on g.begun (rest ++ more)) (sym r) ∙ sym (resumed g more e)

is_less : (f g : Frames) (h : Head) → front f.rest ≡ Whole h → g.rest ≡ drop (total h) f.rest → IsLess g f
is_less f g h w r = omega (arith, front_fits f.rest h w, length-drop (total h) f.rest, ap length r)

pub stepped_waits : (f k g : Frames) → front f.rest ≡ Partly → k ≡ looked f → g ≡ record k { used = 0 } → Stepped (Ok steps.Waits) f g
stepped_waits f k g w l e = (e ∙ ap (λ (k : Frames). record k { used = 0 }) l, w)

pub advanced_waits : (f k g : Frames) → Passes f k [] → k.stopped ≡ None → Stepped (Ok steps.Waits) k g → Advances (Ok None) f g
advanced_waits f k g p e s =
    let P : Frames → Type 0 = λ g. Advances (Ok None) f g in
    subst P (sym s.0) (record { on = λ more. p.on more }, s.1, (e, refl, refl))

pub stepped_joins : (f k g : Frames) (h : Head) → f.stopped ≡ None → front f.rest ≡ Whole h → k ≡ looked f → Took (Ok None) k h g
    → Stepped (Ok steps.Joins) f g
stepped_joins f k g h e w l took =
    let t = subst (λ (k : Frames). Took (Ok None) k h g) l took in
    let s : g.stopped ≡ None = t.2 ∙ e in
    (record { on = λ more. front_taken f h (Joins g.begun) more e w t.0 ∙ left_to_come f g h more t.1 s }, s, is_less f g h w t.1)

pub stepped_gives : (f k g : Frames) (h : Head) (m : Received) → f.stopped ≡ None → front f.rest ≡ Whole h → k ≡ looked f → Took (Ok (Some m)) k h g
    → Stepped (Ok (steps.Gives m)) f g
stepped_gives f k g h m e w l took =
    let t = subst (λ (k : Frames). Took (Ok (Some m)) k h g) l took in (
      record { on = λ more. front_taken f h (Gives m g.begun) more e w t.0 ∙ ap (behind (m ∷ [])) (left_to_come f g h more t.1 (t.2 ∙ e)) },
      is_less f g h w t.1,
      t.3,
    )

-- the fault comes whatever follows
stops_all : (f k : Frames) (fault : StreamFault) → k ≡ looked f → ((more : List ℕ) → OnFault (link_fault fault) (resume f more ≡ stops fault))
    → Stepped (Err fault) f (stop_at k fault)
stops_all f k (faults.Malformed why place) l h = (record { on = λ more. h more }, refl)
stops_all f k (faults.TooLarge size) l h = (record { on = λ more. h more }, refl)
stops_all f k faults.NoMemory l h = (record { on = λ more. ap (λ (k : Frames). resume k more) (sym l) }, tt)

on_fault : (fault : StreamFault) (P Q : Type 0) → (P → Q) → OnFault (link_fault fault) P → OnFault (link_fault fault) Q
on_fault (faults.Malformed why place) P Q f p = f p
on_fault (faults.TooLarge size) P Q f p = f p
on_fault faults.NoMemory P Q f p = tt

any_fault : (fault : StreamFault) (P : Type 0) → P → OnFault (link_fault fault) P
any_fault (faults.Malformed why place) P p = p
any_fault (faults.TooLarge size) P p = p
any_fault faults.NoMemory P p = tt

pub stepped_wrong : (f k : Frames) (fault : StreamFault) → f.stopped ≡ None → front f.rest ≡ Wrong fault → k ≡ looked f
    → Stepped (Err fault) f (stop_at k fault)
stepped_wrong f k fault e w l =
    stops_all f k fault l (λ more. any_fault fault (resume f more ≡ stops fault) (resumed f more e ∙ wrong_part f.begun f.rest more fault w))

pub stepped_fails : (f k g : Frames) (h : Head) (fault : StreamFault) → f.stopped ≡ None → front f.rest ≡ Whole h → k ≡ looked f
    → Took (Err fault) k h g → Stepped (Err fault) f (stop_at g fault)
stepped_fails f k g h fault e w l took =
    let t = subst (λ (k : Frames). Took (Err fault) k h g) l took in
    stops_all f g fault t.0 (λ more. on_fault fault (turn f.begun h (take (total h) f.rest) ≡ Fails fault) (resume f more ≡ stops fault)
    (λ is. front_taken f h (Fails fault) more e w is) t.1)

-- ---- the bytes so far

pub stands_over : (f : Frames) (fed : List ℕ) → f.rest ≡ fed → f.begun ≡ [] → f.stopped ≡ None → Stands f fed []
stands_over f fed r b e =
    record {
      on = λ more.
          ap (λ (os : List Begun). stream_on os (fed ++ more)) (sym b)
          ∙ ap (λ (rest : List ℕ). stream_on f.begun (rest ++ more)) (sym r)
          ∙ sym (resumed f more e);
    }

fed_on : (f : Frames) (piece more : List ℕ) (s : Option StreamFault)
    → goes_on f (piece ++ more) s ≡ goes_on (record f { rest = f.rest ++ piece }) more s
fed_on f piece more (Some fault) = refl
fed_on f piece more None = ap (stream_on f.begun) (sym (append_assoc f.rest piece more))

pub stands_fed : (f g : Frames) (piece fed : List ℕ) (given : List Received) → g ≡ record f { rest = f.rest ++ piece }
    → Stands f fed given → Stands g (fed ++ piece) given
stands_fed f g piece fed given e s =
    let P : Frames → Type 0 = λ g. Stands g (fed ++ piece) given in
    subst P (sym e) (record {
      on = λ more.
          ap stream (append_assoc fed piece more) ∙ s.on (piece ++ more) ∙ ap (behind given) (fed_on f piece more f.stopped);
    })

-- a header that was judged stays judged where bytes are appended
judged_on : (head : Option Head) (rest piece : List ℕ) → IsJudgedAt head rest → IsJudgedAt head (rest ++ piece)
judged_on None rest piece j = tt
judged_on (Some h) rest piece j =
    (omega (arith, length-append rest piece), ap head_at (take-append-le HEAD_LENGTH rest piece j.0) ∙ j.1, j.2)

-- and fewer bytes are missing
pub kept_on : (need left : ℕ) (f : Frames) (b c : Buffered) (piece : List ℕ) → IsKept need (record f { rest = b.unused; used = b.used })
    → c ≡ record { unused = b.unused ++ piece; used = b.used } → left ≡ need - length piece → IsKept left (record f { rest = c.unused; used = c.used })
kept_on need left f b c piece k fed is =
    let P : Buffered → Type 0 = λ c. IsKept left (record f { rest = c.unused; used = c.used }) in
    subst P (sym fed) (record {
      judged = judged_on f.head b.unused piece k.judged;
      lacks = λ h.
          let l = k.lacks (omega (arith, is, h)) in
          record { short = omega (arith, is, h, l.short, length-append b.unused piece); settled = l.settled; going = l.going };
    })

pub stands_stopped : (f : Frames) (piece fed : List ℕ) (given : List Received) (fault : StreamFault) → f.stopped ≡ Some fault
    → Stands f fed given → Stands f (fed ++ piece) given
stands_stopped f piece fed given fault e s =
    record {
      on = λ more.
          ap stream (append_assoc fed piece more) ∙ s.on (piece ++ more)
          ∙ ap (behind given) (resumed_at f (piece ++ more) fault e ∙ sym (resumed_at f more fault e));
    }

-- ---- the next message

stands_passes : (f g : Frames) (fed : List ℕ) (given ms : List Received) → Passes f g ms → Stands f fed given → Stands g fed (given ++ ms)
stands_passes f g fed given ms p s =
    record {
      on = λ more.
          s.on more ∙ ap (behind given) (p.on more)
          ∙ ap (λ (all : List Received). record { messages = all; end = (resume g more).end }) (sym (append_assoc given ms (resume g more).messages));
    }

stands_on : (f g : Frames) (fed : List ℕ) (given : List Received) → Passes f g [] → Stands f fed given → Stands g fed given
stands_on f g fed given p s = record { on = λ more. s.on more ∙ ap (behind given) (p.on more) }

pub ended : (given : List Received) (end : End) → behind given (record { messages = []; end = end }) ≡ record { messages = given; end = end }
ended given end = ap (λ (all : List Received). record { messages = all; end = end }) (append-nil given)

waited : (g : Frames) (fed : List ℕ) (given : List Received) → g.stopped ≡ None → front g.rest ≡ Partly → Stands g fed given
    → stream fed ≡ record { messages = given; end = Rest (capped (spent_in g.begun + length g.rest)) }
waited g fed given e w s =
    ap stream (sym (append-nil fed)) ∙ s.on []
    ∙ ap (behind given) (resumed g [] e ∙ ap (stream_on g.begun) (append-nil g.rest) ∙ no_part g.begun g.rest w)
    ∙ ended given (Rest (capped (spent_in g.begun + length g.rest)))

ends_with : (g : Frames) (fed : List ℕ) (given : List Received) (fault : StreamFault) → Stands g fed given → g ≡ stopped_at fault
    → EndsWith fed given fault
ends_with g fed given fault s e = λ more. s.on more ∙ ap (behind given) (ap (λ (g : Frames). resume g more) e) ∙ ended given (Stops fault)

pub has_next : (r : Result (Option Received) StreamFault) (f g : Frames) (fed : List ℕ) (given : List Received) → Advances r f g
    → Stands f fed given → HasNext r fed given g
has_next (Ok (Some m)) f g fed given a s = stands_passes f g fed given (m ∷ []) a.0 s
has_next (Ok None) f g fed given a s =
    let here : Stands g fed given = stands_on f g fed given a.0 s in
    (here, (capped (spent_in g.begun + length g.rest), waited g fed given a.2.0 a.1 here))
has_next (Err fault) f g fed given a s =
    let here : Stands g fed given = stands_on f g fed given a.0 s in
    (here, on_fault fault (g ≡ stopped_at fault) (EndsWith fed given fault) (ends_with g fed given fault here) a.1)

-- the fault comes again, whatever was fed
pub next_stopped : (f : Frames) (fed : List ℕ) (given : List Received) (fault : StreamFault) → f.stopped ≡ Some fault → Stands f fed given
    → HasNext (Err fault) fed given f
next_stopped f fed given fault e s =
    (s, any_fault fault (EndsWith fed given fault) (λ more. s.on more ∙ ap (behind given) (resumed_at f more fault e) ∙ ended given (Stops fault)))
