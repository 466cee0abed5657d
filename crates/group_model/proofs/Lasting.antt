-- What agrees with a group goes on agreeing.
use Rattle.std.proofs.Common.{◌≡◌, ℕ, zero, suc, ◌≤◌, List, [], ◌∷◌, ◌++◌, length, length-append, Some, sym, ap, ◌∙◌, arith}
use Rattle.std.specs.Prelude.{slice_get}
use Rattle.ft_base.specs.Machine.{Machine}
use Rattle.ft_base.specs.Journal.{Entry}
use Rattle.ft_base.specs.declared.requests.Request.{Request}
use Rattle.group_model.specs.declared.events.Event.{Event}
use Rattle.group_model.specs.declared.events.Event.TheVariants as events
use Rattle.group_model.specs.Plain.{Common, Group, state_at, delta_at}
use Rattle.group_model.specs.Agreeing.{Agrees, IsBrought, IsOrdered, IsSound}
use Rattle.group_model.specs.Laws.{Grows, Lasts}
use Rattle.group_model.proofs.Growing.{states_stay}

got-append : {A : Type 0} (xs more : List A) (i : ℕ) (x : A) → slice_get xs i ≡ Some x → slice_get (xs ++ more) i ≡ Some x
got-append [] more i x h = absurd cc
got-append (y ∷ xs) more zero x h = h
got-append (y ∷ xs) more (suc i) x h = got-append xs more i x h

pub views_grow : (c after : Common) → Grows c after → length c.views ≤ length after.views
views_grow c after x = omega (arith, ap length x.views, length-append c.views x.newer)

ordered_stays : (c after : Common) (i : ℕ) (request : Request) → Grows c after → IsOrdered c i request → IsOrdered after i request
ordered_stays c after i request x o = record {
  ran = omega (arith, o.ran, x.ran);
  entry = o.entry;
  there = ap (λ (es : List Entry). slice_get es i) x.journal ∙ got-append c.journal x.more i o.entry o.there;
  same = o.same;
}

deltas_stay : (m : Machine) (c after : Common) → Grows c after → (n k : ℕ) → n ≤ length c.journal → k ≤ length c.journal → delta_at m after n k ≡ delta_at m c n k
deltas_stay m c after x n k h l =
    ap (λ (s : List ℕ). m.delta s (state_at m after k)) (states_stay m c after x n h)
    ∙ ap (m.delta (state_at m c n)) (states_stay m c after x k l)

brought_stays : (m : Machine) (g after : Group) (e : Event) → IsSound m g → Grows g.common after.common → Lasts e → IsBrought m g e → IsBrought m after e
brought_stays m g after (events.Request host clock asked stop) sound x lasts b = b
brought_stays m g after (events.View host sent) sound x lasts b = (omega (arith, b.0, x.first_kept), omega (arith, b.1, views_grow g.common after.common x))
brought_stays m g after (events.State host n state) sound x lasts b = (
  x.style ∙ b.0,
  omega (arith, b.1, x.ran),
  b.2 ∙ sym (states_stay m g.common after.common x n (omega (arith, b.1, sound.common.numbers.ran))),
)
brought_stays m g after (events.Update host from to update) sound x lasts b = (
  x.style ∙ b.0,
  b.1,
  omega (arith, b.2, x.ran),
  b.3 ∙ sym (deltas_stay m g.common after.common x from to (omega (arith, b.1, b.2, sound.common.numbers.ran)) (omega (arith, b.2, sound.common.numbers.ran))),
)
brought_stays m g after (events.Order host i request) sound x lasts b = (x.style ∙ b.0, ordered_stays g.common after.common i request x b.1)
brought_stays m g after (events.Crash host) sound x lasts b = tt
brought_stays m g after (events.Restart host) sound x lasts b = tt
brought_stays m g after (events.Checkpoint host clock) sound x lasts b = absurd lasts
brought_stays m g after (events.SendUpdate host) sound x lasts b = absurd lasts
brought_stays m g after (events.Manage change) sound x lasts b = b

pub agreement_lasts : (m : Machine) (g after : Group) (e : Event) → IsSound m g → Grows g.common after.common → Lasts e → Agrees m e g → Agrees m e after
agreement_lasts m g after e sound x lasts agrees =
    record { host = agrees.host; brought = brought_stays m g after e sound x lasts agrees.brought }
