-- In the midst of a link, and at its end.
use Rattle.std.proofs.Common.{◌≡◌, ℕ, ◌+◌, List, [], ◌∷◌, ◌++◌, length, take, Option, Some, None, Ok, refl, sym, subst, ap, inl, inr, ◌∙◌, append_assoc, append-nil, arith, length-append}
use Rattle.std.specs.Prelude.{option_map}
use Rattle.ft_outside.specs.Outside.{next_count}
use Rattle.giop_stream.specs.declared.sessions.SessionStep.{SessionStep}
use Rattle.giop_stream.specs.declared.sessions.SessionStep.TheVariants as steps
use Rattle.giop_stream.specs.declared.sessions.StreamEnd.{StreamEnd}
use Rattle.giop_stream.specs.declared.sessions.StreamEnd.TheVariants as stream_ends
use Rattle.giop_stream.specs.Parts.{Received}
use Rattle.giop_stream.specs.Sessions.{AreAll, Goes, Serves, Serving, Session, ends_now, served_before, served_on, session}
use Rattle.link_session.specs.Exchanges.{Exchanging}
use Rattle.link_session.specs.Loops as loops
use Rattle.link_session.specs.Ports.{end_error}
use Rattle.link_session.specs.Serving as messages
use Rattle.link_session.specs.Serving.{Meets, bytes_of, meets_served, more_served}
use Rattle.link_serving.specs.declared.ends.Ended.{Ended}
use Rattle.link_serving.specs.declared.ends.Ended.TheVariants as ends
use Rattle.link_serving.specs.declared.receiving.Came.TheVariants as comes
use Rattle.link_serving.specs.Ends.{HasEnded, ended_by, in_order, no_memory, not_written}
use Rattle.link_serving.specs.Serving.{EndsBy, IsAmid, IsServed, IsWaiting, Leaves, Took}
use Rattle.link_serving.specs.Wires.{Gained, GainedFront, HasCame, Lost, Wire}
use Rattle.link_serving.proofs.Lists.{take_past}

-- ---- bytes

holds_both : (o : Option (List ℕ)) (x y : List ℕ) → option_map (λ held. held ++ y) (option_map (λ held. held ++ x) o) ≡ option_map (λ held. held ++ (x ++ y)) o
holds_both None x y = refl
holds_both (Some held) x y = ap (λ (l : List ℕ). Some l) (append_assoc held x y)

left_both : (o : Option (List ℕ)) (x y : List ℕ) → option_map (λ left. x ++ left) (option_map (λ left. y ++ left) o) ≡ option_map (λ left. (x ++ y) ++ left) o
left_both None x y = refl
left_both (Some left) x y = ap (λ (l : List ℕ). Some l) (sym (append_assoc x y left))

none_lost : (o : Option (List ℕ)) → o ≡ option_map (λ left. [] ++ left) o
none_lost None = refl
none_lost (Some left) = refl

pub none_gained : (o : Option (List ℕ)) → o ≡ option_map (λ held. held ++ []) o
none_gained None = refl
none_gained (Some held) = ap (λ (l : List ℕ). Some l) (sym (append-nil held))

gained_both : (x y : List ℕ) (w v u : Wire) → Gained x w v → Gained y v u → Gained (x ++ y) w u
gained_both x y w v u a b = b ∙ ap (λ (o : Option (List ℕ)). option_map (λ held. held ++ y) o) a ∙ holds_both w.holds x y

lost_both : (x y : List ℕ) (w v u : Wire) → Lost x w v → Lost y v u → Lost (x ++ y) w u
lost_both x y w v u a b = a ∙ ap (λ (o : Option (List ℕ)). option_map (λ left. x ++ left) o) b ∙ left_both u.left x y

still_lost : (x : List ℕ) (w v u : Wire) → Lost x w v → u.left ≡ v.left → Lost x w u
still_lost x w v u a same = a ∙ ap (λ (o : Option (List ℕ)). option_map (λ left. x ++ left) o) (sym same)

front_both : (x y : List ℕ) (w v u : Wire) → Gained x w v → GainedFront y v u → GainedFront (x ++ y) w u
front_both x y w v u a b = (
  length x + b.0,
  omega (arith, b.1, length-append x y),
  subst (λ (l : List ℕ). Gained l w u) (sym (take_past x y b.0)) (gained_both x (take b.0 y) w v u a b.2),
)

-- ---- the session so far

here : (s : Serving) (fed : List ℕ) (given : List Received) → Serves s fed given → session fed ≡ served_before given (served_on s [] s.ended)
here s fed given serves = ap session (sym (append-nil fed)) ∙ serves.on []

-- the message that was given last is the next behind the others
before_last : (given : List Received) (m : Received) (rest : Session) → served_before (given ++ m ∷ []) rest ≡ served_before given (served_before (m ∷ []) rest)
before_last given m rest = ap (λ (ms : List Received). record { messages = ms; end = rest.end }) (append_assoc given (m ∷ []) rest.messages)

module _ {P : Type 0} (exchanges : Exchanging P) (host : ℕ) where
  pub starts : (p : P) (w : Wire) (s : Serving) → Serves s [] [] → IsAmid exchanges host [] p w p w s
  starts p w s serves = record {
    written = [];
    amid = loops.begins (Meets exchanges host) (p, []) [] s serves;
    read = none_lost w.left;
    wrote = none_gained w.holds;
    calm = refl;
  }

  module _ (fed : List ℕ) (p : P) (w : Wire) (q : P) (v : Wire) where
    -- what was given so far is served
    so_far : (s : Serving) (a : IsAmid exchanges host fed p w q v s) → messages.IsServed exchanges host a.amid.given p q a.written
    so_far s a =
        let r = meets_served exchanges host (p, []) (q, a.written) a.amid.given a.amid.so in
        subst (λ (bytes : List ℕ). messages.IsServed exchanges host a.amid.given p q bytes) (sym r.1) r.2

    module _ (s t : Serving) (a : IsAmid exchanges host fed p w q v s) where
      -- a message was given, and answered
      pub goes_on : (o : SessionStep) (m : Received) (r : P) (u : Wire) → o ≡ steps.Serve m → loops.Steps o fed s t → Took exchanges host m q r v u None →
          IsAmid exchanges host fed p w r u t
      goes_on o m r u is goes took = record {
        written = a.written ++ bytes_of took.0;
        amid = loops.goes_on (Meets exchanges host) (p, []) fed s t (q, a.written) (r, a.written ++ bytes_of took.0) o m a.amid is goes (took.0, took.1, refl);
        read = still_lost fed w v u a.read took.4;
        wrote = gained_both a.written (bytes_of took.0) w v u a.wrote took.2;
        calm = took.3 ∙ a.calm;
      }

      -- a message was given, and the link is left at it
      pub stops : (o : SessionStep) (m : Received) (r : P) (u : Wire) (ended : Ended) → o ≡ steps.Serve m → loops.Steps o fed s t →
          Took exchanges host m q r v u (Some ended) → IsServed exchanges host fed p w r u ended
      stops o m r u ends.Closed is goes took = absurd took
      stops o m r u (ends.Malformed why place) is goes took = absurd took
      stops o m r u (ends.TooLarge size) is goes took = absurd took
      stops o m r u ends.ReadFault is goes took = absurd took
      stops o m r u ends.WriteFault is goes took =
          let given = a.amid.given in
          let serves = subst (λ (x : SessionStep). Goes (Ok x) fed given t) is (goes given a.amid.serves) in
          record {
            given = given ++ m ∷ [];
            more = served_on t [] t.ended;
            is = here t fed (given ++ m ∷ []) serves;
            at = r;
            written = a.written ++ took.0;
            served = more_served exchanges host given m p q r a.written (Some took.0) (so_far s a) took.1;
            read = still_lost fed w v u a.read took.4;
            leaves = (a.written ++ took.0, inl refl, front_both a.written took.0 w v u a.wrote took.2, refl, took.3 ∙ ap next_count a.calm);
          }
      stops o m r u ends.Down is goes took =
          let given = a.amid.given in
          let serves = subst (λ (x : SessionStep). Goes (Ok x) fed given t) is (goes given a.amid.serves) in
          let rest : Session = served_on t [] t.ended in
          record {
            given = given;
            more = served_before (m ∷ []) rest;
            is = here t fed (given ++ m ∷ []) serves ∙ before_last given m rest;
            at = q;
            written = a.written;
            served = so_far s a;
            read = subst (λ (x : Wire). Lost fed w x) (sym took.1) a.read;
            leaves = (m, rest, refl, took.0, subst (λ (x : Wire). Gained a.written w x) (sym took.1) a.wrote, subst (λ (x : Wire). x.faults ≡ w.faults) (sym took.1) a.calm);
          }
      stops o m r u ends.NoMemory is goes took =
          let given = a.amid.given in
          let serves = subst (λ (x : SessionStep). Goes (Ok x) fed given t) is (goes given a.amid.serves) in
          let rest : Session = served_on t [] t.ended in
          record {
            given = given;
            more = served_before (m ∷ []) rest;
            is = here t fed (given ++ m ∷ []) serves ∙ before_last given m rest;
            at = q;
            written = a.written;
            served = so_far s a;
            read = subst (λ (x : Wire). Lost fed w x) (sym took.1) a.read;
            leaves = (inr (m, rest, refl, took.0), subst (λ (x : Wire). Gained a.written w x) (sym took.1) a.wrote, subst (λ (x : Wire). x.faults ≡ w.faults) (sym took.1) a.calm);
          }

      -- it wants more bytes
      pub waits : (o : SessionStep) → o ≡ steps.Wait → loops.Steps o fed s t → IsWaiting exchanges host fed p w q v t
      waits o is goes =
          let h = subst (λ (x : SessionStep). Goes (Ok x) fed a.amid.given t) is (goes a.amid.given a.amid.serves) in
          record {
            so_far = record {
              written = a.written;
              amid = record { given = a.amid.given; serves = h.0; so = a.amid.so };
              read = a.read;
              wrote = a.wrote;
              calm = a.calm;
            };
            all = h.1;
          }

    -- memory was wanted between messages
    pub lacks : (s : Serving) → IsAmid exchanges host fed p w q v s → IsServed exchanges host fed p w q v ends.NoMemory
    lacks s a = record {
      given = a.amid.given;
      more = served_on s [] s.ended;
      is = here s fed a.amid.given a.amid.serves;
      at = q;
      written = a.written;
      served = so_far s a;
      read = a.read;
      leaves = (inl refl, a.wrote, a.calm);
    }

    -- ---- the end of the session

    ordered : (end : StreamEnd) (more : Session) (all : Type 0) (written : List ℕ) (at now : P) (u x : Wire) →
        EndsBy exchanges host end more written at now u x → Leaves exchanges host (ended_by end) more all written at now u x
    ordered stream_ends.Closed more all written at now u x e = e
    ordered (stream_ends.Malformed why place) more all written at now u x e = e
    ordered (stream_ends.TooLarge size) more all written at now u x e = e

    module _ (s : Serving) (end : StreamEnd) (u : Wire) (ended : Ended) (a : IsAmid exchanges host fed p w q v s) where
      abbrev LeavesSo : Ended → Type 0
      LeavesSo by = Leaves exchanges host by (ends_now end) (AreAll fed a.amid.given) a.written q q w u

      read_so : HasEnded (end_error end) end v u ended → Lost fed w u
      read_so (in_order by gained faults left) = still_lost fed w v u a.read left
      read_so (not_written by gained faults left) = still_lost fed w v u a.read left
      read_so (no_memory by same) = still_lost fed w v u a.read (ap (λ (x : Wire). x.left) same)

      leaves_so : HasEnded (end_error end) end v u ended → LeavesSo ended
      leaves_so (in_order by gained faults left) =
          subst LeavesSo (sym by)
          (ordered end (ends_now end) (AreAll fed a.amid.given) a.written q q w u
          (refl, refl, gained_both a.written (bytes_of (end_error end)) w v u a.wrote gained, faults ∙ a.calm))
      leaves_so (not_written by gained faults left) =
          subst LeavesSo (sym by)
          (a.written ++ bytes_of (end_error end), inr (end, refl, refl), front_both a.written (bytes_of (end_error end)) w v u a.wrote gained, refl, faults ∙ ap next_count a.calm)
      leaves_so (no_memory by same) =
          subst LeavesSo (sym by)
          (inl refl, ap (λ (x : Wire). x.holds) same ∙ a.wrote, ap (λ (x : Wire). x.faults) same ∙ a.calm)

      ends_so : session fed ≡ record { messages = a.amid.given; end = end } → HasEnded (end_error end) end v u ended → IsServed exchanges host fed p w q u ended
      ends_so is h = record {
        given = a.amid.given;
        more = ends_now end;
        is = is ∙ ap (λ (ms : List Received). record { messages = ms; end = end }) (sym (append-nil a.amid.given));
        at = q;
        written = a.written;
        served = so_far s a;
        read = read_so h;
        leaves = leaves_so h;
      }

      -- the session told its end
      pub ends_told : (t : Serving) (o : SessionStep) → o ≡ steps.End end → loops.Steps o fed s t → HasEnded (end_error end) end v u ended →
          IsServed exchanges host fed p w q u ended
      ends_told t o is goes h =
          let over = (subst (λ (x : SessionStep). Goes (Ok x) fed a.amid.given t) is (goes a.amid.given a.amid.serves)).1 in
          ends_so (ap session (sym (append-nil fed)) ∙ over []) h

    -- ---- while it waits

    module _ (s : Serving) (waiting : IsWaiting exchanges host fed p w q v s) where
      -- bytes came
      pub came : (t : Serving) (f g : List ℕ) (u : Wire) (h : HasCame s t f g v u comes.Some) → IsAmid exchanges host (fed ++ h.0) p w q u t
      came t f g u h =
          let a = waiting.so_far in
          record {
            written = a.written;
            amid = record { given = a.amid.given; serves = h.2 fed a.amid.given a.amid.serves; so = a.amid.so };
            read = lost_both fed h.0 w v u a.read h.1;
            wrote = h.4 ∙ a.wrote;
            calm = h.5 ∙ a.calm;
          }

      -- bytes came, for which there was no memory
      pub came_in_vain : (t : Serving) (f g : List ℕ) (u : Wire) (h : HasCame s t f g v u comes.NoMemory) →
          IsServed exchanges host (fed ++ h.0) p w q u ends.NoMemory
      came_in_vain t f g u h =
          let a = waiting.so_far in
          record {
            given = a.amid.given;
            more = served_on s h.0 s.ended;
            is = a.amid.serves.on h.0;
            at = q;
            written = a.written;
            served = so_far s a;
            read = lost_both fed h.0 w v u a.read h.1;
            leaves = (inl refl, h.3 ∙ a.wrote, h.4 ∙ a.calm);
          }

      pub read_fails : (t : Serving) (f g : List ℕ) (u : Wire) → HasCame s t f g v u comes.Failed → IsServed exchanges host fed p w q u ends.ReadFault
      read_fails t f g u h =
          let a = waiting.so_far in
          record {
            given = a.amid.given;
            more = served_on s [] s.ended;
            is = here s fed a.amid.given a.amid.serves;
            at = q;
            written = a.written;
            served = so_far s a;
            read = still_lost fed w v u a.read h.0;
            leaves = (waiting.all, refl, h.1 ∙ a.wrote, h.2 ∙ ap next_count a.calm);
          }

      -- no bytes come any more
      pub ends_waiting : (t : Serving) (f g : List ℕ) (u x : Wire) (end : StreamEnd) (ended : Ended) → HasCame s t f g v u comes.End →
          ((bytes : List ℕ) (given : List Received) → Serves t bytes given → AreAll bytes given → session bytes ≡ record { messages = given; end = end }) →
          HasEnded (end_error end) end u x ended → IsServed exchanges host fed p w q x ended
      ends_waiting t f g u x end ended h at_end ending =
          let a = waiting.so_far in
          ends_so s end x ended a
          (at_end fed a.amid.given (subst (λ (y : Serving). Serves y fed a.amid.given) (sym h.0) a.amid.serves) waiting.all)
          (subst (λ (y : Wire). HasEnded (end_error end) end y x ended) h.2 ending)
