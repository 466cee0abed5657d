-- A host that knows an older view than the newest refuses what it is asked.
use Rattle.std.proofs.Common.{◌≡◌, ℕ, ◌<◌, Bool, true, false, List, [], ◌∷◌, Option, Some, None, Result, refl, ap, ◌∙◌, lt-ltb, if◌then◌else◌}
use Rattle.ft_base.specs.Machine.{Machine}
use Rattle.ft_base.specs.declared.decisions.Stop.{Stop}
use Rattle.ft_base.specs.declared.numbers.HostNo.{HostNo}
use Rattle.ft_base.specs.declared.numbers.Tick.{Tick}
use Rattle.ft_base.specs.declared.requests.Request.{Request}
use Rattle.ft_base.specs.declared.views.Style.{Style}
use Rattle.ft_base.specs.declared.views.View.{View}
use Rattle.group_model.specs.declared.asking.Asked.{Asked}
use Rattle.group_model.specs.declared.events.Event.TheVariants as events
use Rattle.group_model.specs.declared.refusals.Refusal.{Refusal}
use Rattle.group_model.specs.Plain.{Common, Host, Group}
use Rattle.group_model.specs.Turns.{Turn}
use Rattle.group_model.specs.Asking.{asked_version}
use Rattle.group_model.specs.Views.{newest, newest_view, view_at}
use Rattle.group_model.specs.Decisions.{Row, first_row, view_rows, refused_by_view, unless_refused, request_named, known_then}
use Rattle.group_model.specs.Serving.{served_or, unless_bad}
use Rattle.group_model.specs.Events.{turn_of, after_event}

-- some row of a list stands
record Stands (rows : List Row) : Type 0 where
  pub refused : Refusal
  pub first : first_row rows ≡ Some refused

here : (r : Row) (rows : List Row) → r.stands ≡ true → Stands (r ∷ rows)
here r rows e = record { refused = r.refused; first = ap (λ (b : Bool). if b then Some r.refused else first_row rows) e }

there : (r : Row) (rows : List Row) → Stands rows → Stands (r ∷ rows)
there r rows s = go r.stands refl
  where
    go : (b : Bool) → r.stands ≡ b → Stands (r ∷ rows)
    go true e = here r rows e
    go false e = record { refused = s.refused; first = ap (λ (b : Bool). if b then Some r.refused else first_row rows) e ∙ s.first }

old_view_stands : (style : Style) (host asked known : ℕ) (view : View) (newest : ℕ) (last : View) → known < newest →
    Stands (view_rows style host asked known view newest last)
old_view_stands style host asked known view newest last older =
    there _ _ (there _ _ (there _ _ (there _ _ (there _ _ (there _ _ (here _ [] (lt-ltb known newest older)))))))

-- a turn that leaves what the hosts share, and calls no servant
abbrev LeavesAll : Common → Turn → Type 0
LeavesAll c t = (t.common ≡ c) × (t.calls ≡ 0)

refused_leaves : (m : Machine) (c : Common) (h : Host) (host clock : ℕ) (stop : Stop) (fails : Bool) (o : Option Refusal) (r : Result Request Refusal) (x : Refusal) →
    o ≡ Some x → LeavesAll c (served_or m c h host clock stop fails (unless_refused o r))
refused_leaves m c h host clock stop fails (Some y) r x e = (refl, refl)
refused_leaves m c h host clock stop fails None r x e = absurd cc

bad_leaves : (bad : Option ℕ) (c : Common) (h : Host) (t : Turn) → LeavesAll c t → LeavesAll c (unless_bad bad c h t)
bad_leaves None c h t leaves = leaves
bad_leaves (Some id) c h t leaves = (refl, refl)

if_up_leaves : (b : Bool) (c : Common) (t u : Turn) → LeavesAll c t → LeavesAll c u → LeavesAll c (if b then t else u)
if_up_leaves true c t u x y = x
if_up_leaves false c t u x y = y

pub deposed_append_nothing : (m : Machine) (g : Group) (fails : Bool) (host : HostNo) (clock : Tick) (asked : Asked) (stop : Stop) →
    known_then (newest g.common) (g.hosts host.0).known asked.version < newest g.common →
    ((after_event m g (events.Request host clock asked stop) fails).common ≡ g.common)
    × ((turn_of m g (events.Request host clock asked stop) fails).calls ≡ 0)
deposed_append_nothing m g fails host clock asked stop older =
    let c = g.common in
    let h = g.hosts host.0 in
    let known = known_then (newest c) h.known asked.version in
    let some = old_view_stands c.style host.0 (asked_version known asked.version) known (view_at c.views known) (newest c) (newest_view c) older in
    let refused = refused_leaves m c (record h { known = known }) host.0 clock.0 stop fails (refused_by_view c host.0 (asked_version known asked.version) known)
    (request_named m known asked asked.op) some.refused some.first in
    if_up_leaves h.up c _ _ (bad_leaves asked.bad_context c h _ refused) (refl, refl)
