-- How many listen.
use Rattle.std.proofs.Common.{◌≡◌, ◌+◌, ◌∷◌, [], ◌++◌, ℕ, Bool, true, false, List, Option, Some, None, cond, map, refl, sym, ap, ◌∙◌, arith}
use Rattle.std.specs.Prelude.{count_by, if◌then◌else◌, option_map, is_some}
use Rattle.std.specs.List.{find}
use Rattle.std.specs.Option.{option_and_then}
use Rattle.std.proofs.lemmas.List.Sums.{sum_by-cons, sum_by_push}
use Rattle.fault_notifier.specs.Notifying.{Connection}
use Rattle.fault_notifier.specs.declared.events.FaultEvent.{FaultEvent}
use Rattle.fault_notifier.specs.declared.subscribers.Sub.{Sub}
use Rattle.script_subscribers.specs.declared.named.Named.{Named}
use Rattle.script_subscribers.specs.Firsts.{has, first_sub, change_first, without_sub}
use Rattle.script_subscribers.specs.Subscribers.{is_listening}
use Rattle.script_subscribers.specs.Pictures.{Connections, listener_of, listens_of, subscriber_of, has_sub, IsSub, AreSubs}

count_cons : {X : Type 0} (p : X → Bool) (x : X) (xs : List X) → count_by p (x ∷ xs) ≡ cond (p x) 1 0 + count_by p xs
count_cons p x xs = sum_by-cons (λ y. cond (p y) 1 0) x xs

pub count_push : (zs : List Named) (z : Named) → count_by has_sub (zs ++ z ∷ []) ≡ count_by has_sub zs + cond (has_sub z) 1 0
count_push zs z = sum_by_push (λ (y : Named). cond (has_sub y) 1 0) zs z

pub count_leaves : (name : List ℕ) (s : Sub) (zs : List Named) → first_sub name zs ≡ Some s
    → count_by has_sub (change_first without_sub name zs) + 1 ≡ count_by has_sub zs
unfolding first_sub change_first
count_leaves name s [] first = absurd cc
count_leaves name s (z ∷ zs) first = go (has name z) (count_leaves name s zs) first
  where
    go : (b : Bool)
        → (option_and_then (λ (y : Named). y.sub) (find (has name) zs) ≡ Some s → count_by has_sub (change_first without_sub name zs) + 1 ≡ count_by has_sub zs)
        → option_and_then (λ (y : Named). y.sub) (cond b (Some z) (find (has name) zs)) ≡ Some s
        → count_by has_sub (if b then without_sub z ∷ zs else z ∷ change_first without_sub name zs) + 1 ≡ count_by has_sub (z ∷ zs)
    go true more e =
        let there : ◌≡◌ {A = ℕ} (cond (has_sub z) 1 0) 1 = ap (λ (o : Option Sub). cond (is_some o) 1 0) e in
        omega (arith, count_cons has_sub (without_sub z) zs, count_cons has_sub z zs, there)
    go false more e =
        omega (arith, count_cons has_sub z (change_first without_sub name zs), count_cons has_sub z zs, more e)

listens_at : (events : List FaultEvent) (c : Option Connection) → is_some (option_map (listener_of events) c) ≡ is_some c
listens_at events None = refl
listens_at events (Some c) = refl

listens_one : (events : List FaultEvent) (at : Connections) (number : ℕ) (o : Option Sub) → IsSub at number o → is_some (listens_of events at o) ≡ is_some o
listens_one events at number None sub = refl
listens_one events at number (Some s) sub = listens_at events (at s.place s.number) ∙ sub.1

pub count_same : (events : List FaultEvent) (at : Connections) (number : ℕ) (zs : List Named) → AreSubs at number zs
    → count_by is_listening (map (subscriber_of events at) zs) ≡ count_by has_sub zs
count_same events at number [] subs = refl
count_same events at number (z ∷ zs) subs =
    count_cons is_listening (subscriber_of events at z) (map (subscriber_of events at) zs)
    ∙ ap (λ b. cond b 1 0 + count_by is_listening (map (subscriber_of events at) zs)) (listens_one events at number z.sub subs.0)
    ∙ ap (λ n. cond (has_sub z) 1 0 + n) (count_same events at (number + 1) zs subs.1)
    ∙ sym (count_cons has_sub z zs)
