-- At most once is kept by each request that the admission lets join the journal.
use Rattle.std.proofs.Common.{◌≡◌, ℕ, zero, suc, ◌<◌, ◌≤◌, ◌⊎◌, inl, inr, ⊎_elim, Bool, true, false, List, [], ◌∷◌, ◌++◌, length, Option, Some, None, refl, sym, ap, ◌∙◌, subst, arith}
use Rattle.std.specs.Prelude.{slice_get}
use Rattle.std.specs.Ordering.{int_eq}
use Rattle.std.specs.Str.{bytes_eq}
use Rattle.std.proofs.lemmas.Bool.{ltb-false}
use Rattle.std.proofs.lemmas.Bool.Decides.{Decides-int_eq}
use Rattle.std.proofs.lemmas.Slice.Eq.{bytes_eq-Decides}
use Rattle.ft_base.specs.Journal.{Entry, AtMostOnce, IsJournal, IsOneCall, is_held, is_held_by, last_place, later_or, CanJoin}
use Rattle.ft_base.specs.declared.requests.Key.{Key}

-- an element of a list with one more at its end is one of before, or the last
pub got_of_push : {A : Type 0} (xs : List A) (x y : A) (i : ℕ) → slice_get (xs ++ x ∷ []) i ≡ Some y →
    ((i < length xs) × (slice_get xs i ≡ Some y)) ⊎ ((i ≡ length xs) × (x ≡ y))
got_of_push [] x y zero h = inr (refl, cc)
got_of_push [] x y (suc i) h = absurd cc
got_of_push (z ∷ xs) x y zero h = inl (omega arith, h)
got_of_push (z ∷ xs) x y (suc i) h =
    ⊎_elim (λ p. inl (omega (arith, p.0), p.1)) (λ p. inr (omega (arith, p.0), p.1)) (got_of_push xs x y i h)

later_none : (o : Option ℕ) (b : Bool) → later_or o b ≡ None → (o ≡ None) × (b ≡ false)
later_none None true h = absurd cc
later_none None false h = (refl, refl)
later_none (Some i) b h = absurd cc

-- where no place passes, none does
pub passes_nowhere : {A : Type 0} (test : A → Bool) (xs : List A) (i : ℕ) (x : A) → last_place test xs ≡ None →
    slice_get xs i ≡ Some x → test x ≡ false
unfolding last_place
passes_nowhere test [] i x h g = absurd cc
passes_nowhere test (y ∷ xs) zero x h g =
    let k = later_none (last_place test xs) (test y) h in ap test (let e : x ≡ y = cc in e) ∙ k.1
passes_nowhere test (y ∷ xs) (suc i) x h g =
    let k = later_none (last_place test xs) (test y) h in passes_nowhere test xs i x k.0 g

-- an entry of the same call that isn't held has expired
pub not_held : (now : ℕ) (key other : Key) → IsOneCall other key → is_held_by now key (Some other) ≡ false → other.expiration.0 ≤ now
not_held now key other same h =
    let client : bytes_eq key.client other.client ≡ true = (bytes_eq-Decides key.client other.client).1 (sym same.client) in
    let retention : int_eq key.retention.0 other.retention.0 ≡ true = (Decides-int_eq key.retention.0 other.retention.0).1 (ap (λ r. r.0) (sym same.retention)) in
    ltb-false now other.expiration.0 (let e = (rw (client, retention) at h) in e)

pub AtMostOnce-push : (journal : List Entry) (entry : Entry) → AtMostOnce journal → CanJoin journal entry → AtMostOnce (journal ++ entry ∷ [])
AtMostOnce-push journal entry once joins = record {
  in_time = λ i e key g k.
      ⊎_elim (λ p. once.in_time i e key p.1 k)
      (λ p. subst (λ (x : Entry). x.at < key.expiration.0) p.1 (joins.in_time key (ap (λ (x : Entry). x.request.key) p.1 ∙ k)))
      (got_of_push journal entry e i g);
  apart = λ i j early late first second lt gi gj ki kj same.
      ⊎_elim
      (λ q. ⊎_elim (λ p. once.apart i j early late first second lt p.1 q.1 ki kj same)
      (λ p. absurd (omega (arith, p.0, q.0)))
      (got_of_push journal entry early i gi))
      (λ q. ⊎_elim
      (λ p. subst (λ (x : Entry). first.expiration.0 ≤ x.at) q.1
      (not_held entry.at second first same
      (ap (is_held_by entry.at second) (sym ki)
      ∙ passes_nowhere (is_held entry.at second) journal i early (joins.free second (ap (λ (x : Entry). x.request.key) q.1 ∙ kj)) p.1)))
      (λ p. absurd (omega (arith, p.0, q.0)))
      (got_of_push journal entry early i gi))
      (got_of_push journal entry late j gj);
}

-- an entry at a moment that is not before the journal's joins it
pub IsJournal-push : (time : ℕ) (journal : List Entry) (entry : Entry) → IsJournal time journal → time ≤ entry.at → CanJoin journal entry
    → IsJournal entry.at (journal ++ entry ∷ [])
IsJournal-push time journal entry so later joins = record {
  before = λ i e g.
      ⊎_elim (λ p. omega (arith, so.before i e p.1, later)) (λ p. subst (λ (x : Entry). x.at ≤ entry.at) p.1 (omega arith)) (got_of_push journal entry e i g);
  ticks = λ i j early late le gi gj.
      ⊎_elim
      (λ q. ⊎_elim (λ p. so.ticks i j early late le p.1 q.1)
      (λ p. absurd (omega (arith, p.0, q.0, le)))
      (got_of_push journal entry early i gi))
      (λ q. ⊎_elim
      (λ p. subst (λ (x : Entry). early.at ≤ x.at) q.1 (omega (arith, so.before i early p.1, later)))
      (λ p. subst (λ (x : Entry). early.at ≤ x.at) q.1 (subst (λ (x : Entry). x.at ≤ entry.at) p.1 (omega arith)))
      (got_of_push journal entry early i gi))
      (got_of_push journal entry late j gj);
  once = AtMostOnce-push journal entry so.once joins;
}
