-- How far a servant's state has come: nothing, one more request, and one way behind another.
use Rattle.std.proofs.Common.{◌≡◌, ℕ, List, [], ◌∷◌, ◌++◌, refl, ap, ◌∙◌}
use Rattle.ft_base.specs.Machine.{Machine, Fits}
use Rattle.ft_base.specs.Journal.{Entry, after}
use Rattle.ft_base.specs.Servants.{IsReached}
use Rattle.ft_base.specs.declared.requests.Request.{Request}
use Rattle.ft_base.specs.declared.requests.Outcome.{Outcome}
use Rattle.ft_base.proofs.Journal.{AllFit-push, after-push}

-- a state is reached from itself
pub reached_itself : (m : Machine) (s : List ℕ) → IsReached m s s
unfolding after
reached_itself m s = record { entries = []; fit = tt; reached = refl }

-- one more request
pub reached_more : (m : Machine) (s t u : List ℕ) (q : Request) (o : Outcome) → IsReached m s t → Fits m q
    → m.step t q ≡ (u, o) → IsReached m s u
reached_more m s t u q o way fits ran =
    let last : Entry = record { at = 0; request = q } in
    record {
      entries = way.entries ++ last ∷ [];
      fit = AllFit-push m way.entries last way.fit fits;
      reached = after-push m s way.entries last ∙ ap (λ (x : List ℕ). (m.step x q).0) way.reached ∙ ap (λ (p : List ℕ × Outcome). p.0) ran;
    }

-- one request
pub reached_one : (m : Machine) (s t : List ℕ) (q : Request) (o : Outcome) → Fits m q → m.step s q ≡ (t, o) → IsReached m s t
reached_one m s t q o fits ran = reached_more m s s t q o (reached_itself m s) fits ran
