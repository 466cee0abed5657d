-- The laws of the journal's words, when a request joins it at the end.
use Rattle.std.proofs.Common.{◌≡◌, ℕ, zero, suc, ◌<◌, Bool, true, false, cond, List, [], ◌∷◌, ◌++◌, length, Some, refl, ap, subst, arith}
use Rattle.std.specs.Prelude.{slice_get}
use Rattle.ft_base.specs.Machine.{Machine, Fits, IsGiven}
use Rattle.ft_base.specs.Laws.{Stays, Gives}
use Rattle.ft_base.specs.Journal.{Entry, after, AllFit, replies, reply_at, last_place, later_or}
use Rattle.ft_base.specs.declared.requests.Outcome.{Outcome}

-- one more request
pub after-push : (m : Machine) (s : List ℕ) (es : List Entry) (e : Entry) →
    after m s (es ++ e ∷ []) ≡ (m.step (after m s es) e.request).0
unfolding after
after-push m s [] e = refl
after-push m s (d ∷ es) e = after-push m (m.step s d.request).0 es e

-- the reply of the newest request
pub reply_at-push_new : (m : Machine) (s : List ℕ) (es : List Entry) (e : Entry) →
    reply_at m s (es ++ e ∷ []) (length es) ≡ (m.step (after m s es) e.request).1
unfolding after reply_at
reply_at-push_new m s [] e = refl
reply_at-push_new m s (d ∷ es) e = reply_at-push_new m (m.step s d.request).0 es e

-- the replies of those before it stay
pub reply_at-push_old : (m : Machine) (s : List ℕ) (es : List Entry) (e : Entry) (i : ℕ) → i < length es →
    reply_at m s (es ++ e ∷ []) i ≡ reply_at m s es i
unfolding reply_at
reply_at-push_old m s [] e i h = absurd (omega arith)
reply_at-push_old m s (d ∷ es) e zero h = refl
reply_at-push_old m s (d ∷ es) e (suc i) h = reply_at-push_old m (m.step s d.request).0 es e i (omega arith)

pub last_place-push : {A : Type 0} (test : A → Bool) (xs : List A) (x : A) →
    last_place test (xs ++ x ∷ []) ≡ cond (test x) (Some (length xs)) (last_place test xs)
unfolding last_place
last_place-push test [] x = refl
last_place-push test (y ∷ xs) x =
    rw (last_place-push test xs x) (elim (test x) as (λ b. later_or (cond b (Some (length xs)) (last_place test xs)) (test y) ≡ cond b (Some (suc (length xs))) (later_or (last_place test xs) (test y))) [ true ↦ refl | false ↦ refl ])

pub replies-push : (m : Machine) (s : List ℕ) (es : List Entry) (e : Entry) →
    replies m s (es ++ e ∷ []) ≡ replies m s es ++ (m.step (after m s es) e.request).1 ∷ []
unfolding after replies
replies-push m s [] e = refl
replies-push m s (d ∷ es) e = ap (λ rs. (m.step s d.request).1 ∷ rs) (replies-push m (m.step s d.request).0 es e)

-- the replies, one by one
pub reply_at-replies : (m : Machine) (s : List ℕ) (es : List Entry) (i : ℕ) (o : Outcome) →
    slice_get (replies m s es) i ≡ Some o → reply_at m s es i ≡ o
unfolding replies reply_at
reply_at-replies m s [] i o h = absurd cc
reply_at-replies m s (e ∷ es) zero o h = cc
reply_at-replies m s (e ∷ es) (suc i) o h = reply_at-replies m (m.step s e.request).0 es i o h

pub after-is_state : (m : Machine) → Stays m → (s : List ℕ) (es : List Entry) → m.is_state s ≡ true → AllFit m es →
    m.is_state (after m s es) ≡ true
unfolding after
after-is_state m stays s [] h fits = h
after-is_state m stays s (e ∷ es) h fits = after-is_state m stays (m.step s e.request).0 es (stays s e.request h fits.0) fits.1

-- every reply of the journal is in the form of what its operation gives
pub reply_at-given : (m : Machine) → Stays m → Gives m → (s : List ℕ) (es : List Entry) (i : ℕ) (e : Entry) →
    m.is_state s ≡ true → AllFit m es → slice_get es i ≡ Some e → IsGiven m e.request (reply_at m s es i)
unfolding reply_at
reply_at-given m stays gives s [] i e h fits at = absurd cc
reply_at-given m stays gives s (d ∷ es) zero e h fits at =
    let same : d ≡ e = cc in subst (λ (x : Entry). IsGiven m x.request (m.step s d.request).1) same (gives s d.request h fits.0)
reply_at-given m stays gives s (d ∷ es) (suc i) e h fits at =
    reply_at-given m stays gives (m.step s d.request).0 es i e (stays s d.request h fits.0) fits.1 at

pub AllFit-push : (m : Machine) (es : List Entry) (e : Entry) → AllFit m es → Fits m e.request → AllFit m (es ++ e ∷ [])
AllFit-push m [] e all fits = (fits, tt)
AllFit-push m (d ∷ es) e all fits = (all.0, AllFit-push m es e all.1 fits)
