-- In the midst of a link.
use Rattle.std.proofs.Common.{◌≡◌, ℕ, ◌+◌, ◌≤◌, List, [], refl, sym, ap, subst, ◌∙◌, arith, append-nil}
use Rattle.std.specs.Prelude.{Ok}
use Rattle.ft_report.specs.declared.reports.ReportLine.{ReportLine}
use Rattle.giop_stream.specs.declared.sessions.SessionStep.{SessionStep}
use Rattle.giop_stream.specs.declared.sessions.SessionStep.TheVariants as steps
use Rattle.giop_stream.specs.declared.sessions.StreamEnd.{StreamEnd}
use Rattle.giop_stream.specs.Parts.{Received}
use Rattle.giop_stream.specs.Sessions.{AreAll, Goes, Serves, Serving, Session, session}
use Rattle.group_model.specs.declared.asking.Asked.{Asked}
use Rattle.link_session.specs.Amid.{Grows, IsAmid, Steps, amid_grows, begins, ends, ends_waiting, goes_on}
use Rattle.link_session.specs.Ports.{Replying, linked, step}
use Rattle.script_world.specs.World.{World}
use Rattle.ft_world.specs.Links.{world_port}
use Rattle.ft_world.specs.Serving.{IsChange, IsServed, IsWithin}
use Rattle.world_turns.specs.Turns.{Effect, effect, says}

-- ---- servant calls only get more along a link

abbrev pub NoFewer : Effect → Effect → Type 0
NoFewer e f = e.calls ≤ f.calls

pub calls_grow : (host : ℕ) → Grows (world_port host) NoFewer
calls_grow host = record {
  same = λ (p : Effect). omega arith;
  next = λ (p q r : Effect) (a : NoFewer p q) (b : NoFewer q r). omega (arith, a, b);
  asks = λ (p : Effect) (key : List ℕ) (asked : Asked) (reply : Replying). omega arith;
  writes = λ (p : Effect) (bytes : List ℕ). omega arith;
}

-- ---- in the midst of a link

-- These messages were served: the world, the lines and the servant calls are those that come of them.
pub record IsOn (old : World) (host : ℕ) (fed : List ℕ) (s : Serving) (w : World) (report : List ReportLine) (before now : ℕ) : Type 0 where
  pub calls : ℕ
  pub amid : IsAmid (world_port host) (says old []) fed s (effect w report calls)
  pub counted : now ≡ before + calls

pub on_begins : (w : World) (host : ℕ) (fed : List ℕ) (s : Serving) (report : List ReportLine) (now : ℕ) → report ≡ [] → Serves s fed [] →
    IsOn w host fed s w report now now
on_begins w host fed s report now fresh serves = record {
  calls = 0;
  amid = begins (world_port host) (says w []) (effect w report 0) fed s (ap (λ (ls : List ReportLine). effect w ls 0) fresh) serves;
  counted = omega arith;
}

pub on_goes : (old : World) (host : ℕ) (fed : List ℕ) (s t : Serving) (w new : World) (report later : List ReportLine) (before now after : ℕ)
    (o : SessionStep) (m : Received) → IsOn old host fed s w report before now → o ≡ steps.Serve m → Steps (world_port host) o fed s t →
    IsChange (λ e. step (world_port host) e m.0 m.1) w new report later now after → IsOn old host fed t new later before after
on_goes old host fed s t w new report later before now after o m a is goes ch = record {
  calls = a.calls + ch.calls;
  amid = goes_on (world_port host) (says old []) fed s t (effect w report a.calls) (effect new later (a.calls + ch.calls)) o m a.amid is goes (sym (ch.is a.calls));
  counted = omega (arith, a.counted, ch.counted);
}

pub on_ends : (old : World) (host : ℕ) (fed : List ℕ) (s t : Serving) (w : World) (report : List ReportLine) (before now : ℕ) (o : SessionStep) (end : StreamEnd) →
    IsOn old host fed s w report before now → o ≡ steps.End end → Steps (world_port host) o fed s t → IsServed old host fed end w report before now
on_ends old host fed s t w report before now o end a is goes = record {
  calls = a.calls;
  over = ap (λ (x : Session). x.end) (ap session (sym (append-nil fed)) ∙ (subst (λ (x : SessionStep). Goes (Ok x) fed a.amid.given t) is (goes a.amid.given a.amid.serves)).1 []);
  is = ends (world_port host) (says old []) fed s t (effect w report a.calls) o end a.amid is goes;
  counted = a.counted;
}

pub on_waits : (old : World) (host : ℕ) (fed : List ℕ) (s t : Serving) (w : World) (report : List ReportLine) (before now : ℕ) (o : SessionStep) (end : StreamEnd) →
    IsOn old host fed s w report before now → o ≡ steps.Wait → Steps (world_port host) o fed s t →
    ((given : List Received) → Serves t fed given → AreAll fed given → session fed ≡ record { messages = given; end = end }) →
    IsServed old host fed end w report before now
on_waits old host fed s t w report before now o end a is goes at_end =
    let waits = subst (λ (x : SessionStep). Goes (Ok x) fed a.amid.given t) is (goes a.amid.given a.amid.serves) in
    record {
      calls = a.calls;
      over = ap (λ (x : Session). x.end) (at_end a.amid.given waits.0 waits.1);
      is = ends_waiting (world_port host) (says old []) fed s t (effect w report a.calls) o end a.amid is goes at_end;
      counted = a.counted;
    }

-- memory was wanted between messages
pub on_stops : (old : World) (host : ℕ) (fed : List ℕ) (s : Serving) (w : World) (report : List ReportLine) (before now : ℕ) →
    IsOn old host fed s w report before now → now ≤ before + (linked (world_port host) (says old []) fed).calls
on_stops old host fed s w report before now a =
    let more : a.calls ≤ (linked (world_port host) (says old []) fed).calls =
    amid_grows (world_port host) NoFewer (calls_grow host) (says old []) fed s (effect w report a.calls) a.amid in
    omega (arith, more, a.counted)

-- memory was wanted at a message
pub on_breaks : (old : World) (host : ℕ) (fed : List ℕ) (s t : Serving) (w : World) (report : List ReportLine) (before now after : ℕ)
    (o : SessionStep) (m : Received) → IsOn old host fed s w report before now → o ≡ steps.Serve m → Steps (world_port host) o fed s t →
    IsWithin (λ e. step (world_port host) e m.0 m.1) w report now after → after ≤ before + (linked (world_port host) (says old []) fed).calls
on_breaks old host fed s t w report before now after o m a is goes within =
    let next : Effect = step (world_port host) (effect w report a.calls) m.0 m.1 in
    let amid : IsAmid (world_port host) (says old []) fed t next =
    goes_on (world_port host) (says old []) fed s t (effect w report a.calls) next o m a.amid is goes refl in
    let more : next.calls ≤ (linked (world_port host) (says old []) fed).calls =
    amid_grows (world_port host) NoFewer (calls_grow host) (says old []) fed t next amid in
    omega (arith, more, a.counted, within a.calls)
