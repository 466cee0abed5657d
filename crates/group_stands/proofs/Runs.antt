-- States and replies of a journal, by places.
use Rattle.std.proofs.Common.{◌≡◌, ℕ, zero, suc, ◌+◌, ◌≤◌, List, [], ◌∷◌, ◌++◌, length, take, Some, refl, ap, add-one, arith}
use Rattle.std.specs.Prelude.{slice_get}
use Rattle.ft_base.specs.Machine.{Machine}
use Rattle.ft_base.specs.Journal.{Entry, after, reply_at}

-- the state after one entry more
after_next : (m : Machine) (s : List ℕ) (es : List Entry) (n : ℕ) (e : Entry) → slice_get es n ≡ Some e →
    after m s (take (suc n) es) ≡ (m.step (after m s (take n es)) e.request).0
unfolding after
after_next m s [] n e at = absurd cc
after_next m s (d ∷ es) zero e at = let same : d ≡ e = cc in ap (λ (x : Entry). (m.step s x.request).0) same
after_next m s (d ∷ es) (suc n) e at = after_next m (m.step s d.request).0 es n e at

pub state_next : (m : Machine) (s : List ℕ) (es : List Entry) (n : ℕ) (e : Entry) → slice_get es n ≡ Some e →
    after m s (take (n + 1) es) ≡ (m.step (after m s (take n es)) e.request).0
state_next m s es n e at = rw add-one (after_next m s es n e at)

-- an entry's reply is its outcome in the state before it
pub reply_next : (m : Machine) (s : List ℕ) (es : List Entry) (n : ℕ) (e : Entry) → slice_get es n ≡ Some e →
    reply_at m s es n ≡ (m.step (after m s (take n es)) e.request).1
unfolding after reply_at
reply_next m s [] n e at = absurd cc
reply_next m s (d ∷ es) zero e at = let same : d ≡ e = cc in ap (λ (x : Entry). (m.step s x.request).1) same
reply_next m s (d ∷ es) (suc n) e at = reply_next m (m.step s d.request).0 es n e at

-- what a longer journal has in front
pub take_front : (n : ℕ) (es more : List Entry) → n ≤ length es → take n (es ++ more) ≡ take n es
take_front zero es more h = refl
take_front (suc n) [] more h = absurd (omega (arith, h))
take_front (suc n) (e ∷ es) more h = ap (λ (xs : List Entry). e ∷ xs) (take_front n es more (omega (arith, h)))

pub take_whole : (es : List Entry) → take (length es) es ≡ es
take_whole [] = refl
take_whole (e ∷ es) = ap (λ (xs : List Entry). e ∷ xs) (take_whole es)

pub no_entries : (m : Machine) (s : List ℕ) → after m s [] ≡ s
unfolding after
no_entries m s = refl
