-- What a turn at a place of the begun messages is.
use Rattle.std.proofs.Common.{◌≡◌, ℕ, ◌<◌, ◌≤◌, Bool, List, length, drop, Option, Some, None, Result, Ok, sym, subst, arith, ⊎_elim, get_or}
use Rattle.std.specs.Prelude.{slice_get}
use Rattle.std.proofs.lemmas.Option.{slice_get_cases}
use Rattle.cdr_codec.specs.declared.orders.Order.{Order}
use Rattle.cdr_codec.specs.Orders.{order_of}
use Rattle.giop_messages.specs.declared.heads.Head.{Head}
use Rattle.giop_messages.specs.Heads.{more_in}
use Rattle.giop_stream.specs.declared.begun.TheConstants.{FRAGMENT_HEAD}
use Rattle.giop_stream.specs.declared.faults.StreamFault.{StreamFault}
use Rattle.giop_stream.specs.Parts.{Received, Begun, id_in, place_of, Turned, grows_at, fragment_at, fragment_by, fragment}

pub turned_at : (r : Result (Option Received) StreamFault) (os : List Begun) (at : ℕ) (more : Bool) (rest : List ℕ) (after : List Begun)
    → at < length os
    → ((o : Begun) → slice_get os at ≡ Some o → Turned r os (grows_at os at more rest (Some o)) after)
    → Turned r os (grows_at os at more rest (slice_get os at)) after
turned_at r os at more rest after lt h =
    let P : Option Begun → Type 0 = λ o. Turned r os (grows_at os at more rest o) after in
    ⊎_elim
    (λ (w : (o : Begun) × (at < length os) × (slice_get os at ≡ Some o) × (get_or os at o ≡ o)). subst P (sym w.2) (h w.0 w.2))
    (λ (w : (length os ≤ at) × (slice_get os at ≡ None)). absurd (omega arith))
    (slice_get_cases os at).1

-- a fragment of a begun message is a turn at that message's place
pub fragment_turned : (r : Result (Option Received) StreamFault) (os : List Begun) (h : Head) (part rest : List ℕ) (order : Order) (more : Bool)
    (id at : ℕ) (after : List Begun)
    → order ≡ order_of h.flags → Ok id ≡ id_in order part → Some at ≡ place_of id os → at < length os → more ≡ more_in h → rest ≡ drop FRAGMENT_HEAD part
    → ((o : Begun) → slice_get os at ≡ Some o → Turned r os (grows_at os at more rest (Some o)) after)
    → Turned r os (fragment os h part) after
fragment_turned r os h part rest order more id at after o read place lt m e here =
    let O : Order → Type 0 = λ x. Turned r os (fragment_by os (more_in h) part (id_in x part)) after in
    let P : Result ℕ StreamFault → Type 0 = λ x. Turned r os (fragment_by os (more_in h) part x) after in
    let Q : Option ℕ → Type 0 = λ x. Turned r os (fragment_at os (more_in h) (drop FRAGMENT_HEAD part) x) after in
    let R : Bool → Type 0 = λ b. Turned r os (grows_at os at b (drop FRAGMENT_HEAD part) (slice_get os at)) after in
    let S : List ℕ → Type 0 = λ xs. Turned r os (grows_at os at more xs (slice_get os at)) after in
    subst O o (subst P read (subst Q place (subst R m (subst S e (turned_at r os at more rest after lt here)))))
