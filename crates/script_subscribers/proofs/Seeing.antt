-- What a subscriber hasn't read, by the places of a notifier and by its connections.
use Rattle.std.proofs.Common.{◌≡◌, ◌∷◌, [], ◌++◌, Bool, true, false, List, Option, Some, None, cond, drop, map, length, refl, sym, ap, subst, ◌∙◌, arith}
use Rattle.std.specs.Prelude.{◌≤◌, if◌then◌else◌, option_map}
use Rattle.std.specs.List.{filter}
use Rattle.std.proofs.lemmas.List.{drop-append-le, drop_at, append-nil, length-append}
use Rattle.std.proofs.lemmas.List.Elements.{filter-append}
use Rattle.fault_notifier.specs.Filters.{Filter, matches}
use Rattle.fault_notifier.specs.Notifying.{Notified, Connection, events_of}
use Rattle.fault_notifier.specs.Keeping.{Picture, StandsFor, Reads, ReadsAt, subscriber_at}
use Rattle.fault_notifier.specs.declared.events.FaultEvent.{FaultEvent}
use Rattle.fault_notifier.specs.declared.subscribers.Sub.{Sub}
use Rattle.fault_notifier.specs.declared.subscribers.Subscriber.{Subscriber as Connected}
use Rattle.script_subscribers.specs.declared.named.Named.{Named}
use Rattle.script_subscribers.specs.Subscribers.{Listener, heard_by, hears}
use Rattle.script_subscribers.specs.Pictures.{listener_kept, listens_kept, subscriber_kept, listener_of, listens_of, subscriber_of}

seen_same : (events : List FaultEvent) (c : Connection) (s : Connected) → Reads events c s → listener_kept events s ≡ listener_of events c
seen_same events c s reads =
    let rest : filter (matches s.filter) (drop s.next events) ≡ drop c.read (events_of events c) =
    sym (ap (drop c.read) (reads.are ∙ ap (λ (f : Filter). reads.seen ++ filter (matches f) (drop s.next events)) reads.lets)
    ∙ drop_at reads.seen (filter (matches s.filter) (drop s.next events)) c.read reads.read) in
    λ i. record { filter = sym reads.lets i; unread = rest i }

at_same : (events : List FaultEvent) (o : Option Connection) (k : Option Connected) → ReadsAt events o k
    → option_map (listener_kept events) k ≡ option_map (listener_of events) o
at_same events None None reads = refl
at_same events None (Some s) reads = absurd reads
at_same events (Some c) None reads = absurd reads
at_same events (Some c) (Some s) reads = ap Some (seen_same events c s reads)

listens_same : (n : Notified) (p : Picture) → StandsFor n p → (o : Option Sub) → listens_kept p o ≡ listens_of n.events n.at o
listens_same n p stands None = refl
listens_same n p stands (Some sub) =
    at_same p.events (n.at sub.place sub.number) (subscriber_at p.places sub.place sub.number) (stands.at sub.place sub.number)
    ∙ ap (λ (es : List FaultEvent). option_map (listener_of es) (n.at sub.place sub.number)) (sym stands.events)

pub all_same : (n : Notified) (p : Picture) → StandsFor n p → (zs : List Named)
    → map (subscriber_kept p) zs ≡ map (subscriber_of n.events n.at) zs
all_same n p stands [] = refl
all_same n p stands (z ∷ zs) = λ i. record { name = z.name; listens = listens_same n p stands z.sub i } ∷ all_same n p stands zs i

-- ---- one more event

put : (event : FaultEvent) (l : Listener) (b : Bool)
    → ◌≡◌ {A = Listener} (record { filter = l.filter; unread = l.unread ++ cond b (event ∷ []) [] }) (if b then record l { unread = l.unread ++ event ∷ [] } else l)
put event l true = refl
put event l false = λ i. record { filter = l.filter; unread = append-nil l.unread i }

heard_more : (events : List FaultEvent) (event : FaultEvent) (c : Connection) (s : Connected) → Reads events c s
    → listener_of (events ++ event ∷ []) c ≡ heard_by event (listener_of events c)
heard_more events event c s reads =
    let within : c.read ≤ length (events_of events c) =
    omega (arith, reads.read, ap length reads.are, length-append reads.seen (filter (matches c.filter) (drop s.next events))) in
    let unread : drop c.read (events_of (events ++ event ∷ []) c) ≡ drop c.read (events_of events c) ++ filter (matches c.filter) (event ∷ []) =
    ap (λ es. drop c.read (filter (matches c.filter) es)) (drop-append-le c.since events (event ∷ []) reads.since)
    ∙ ap (drop c.read) (filter-append (matches c.filter) (drop c.since events) (event ∷ []))
    ∙ drop-append-le c.read (events_of events c) (filter (matches c.filter) (event ∷ [])) within in
    (λ i. record { filter = c.filter; unread = unread i }) ∙ put event (listener_of events c) (matches c.filter event)

hears_at : (events : List FaultEvent) (event : FaultEvent) (o : Option Connection) (k : Option Connected) → ReadsAt events o k
    → option_map (listener_of (events ++ event ∷ [])) o ≡ option_map (heard_by event) (option_map (listener_of events) o)
hears_at events event None k reads = refl
hears_at events event (Some c) None reads = absurd reads
hears_at events event (Some c) (Some s) reads = ap Some (heard_more events event c s reads)

hears_one : (n : Notified) (p : Picture) (event : FaultEvent) → StandsFor n p → (o : Option Sub)
    → listens_of (n.events ++ event ∷ []) n.at o ≡ option_map (heard_by event) (listens_of n.events n.at o)
hears_one n p event stands None = refl
hears_one n p event stands (Some sub) =
    hears_at n.events event (n.at sub.place sub.number) (subscriber_at p.places sub.place sub.number)
    (subst (λ (es : List FaultEvent). ReadsAt es (n.at sub.place sub.number) (subscriber_at p.places sub.place sub.number)) (sym stands.events) (stands.at sub.place sub.number))

pub all_hear : (n : Notified) (p : Picture) (event : FaultEvent) → StandsFor n p → (zs : List Named)
    → map (subscriber_of (n.events ++ event ∷ []) n.at) zs ≡ map (hears event) (map (subscriber_of n.events n.at) zs)
all_hear n p event stands [] = refl
all_hear n p event stands (z ∷ zs) =
    λ i. record { name = z.name; listens = hears_one n p event stands z.sub i } ∷ all_hear n p event stands zs i
