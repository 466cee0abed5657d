-- What a pass does at a host, one link after another.
use Rattle.std.proofs.Common.{ℕ, List, [], ◌∷◌, ◌++◌, refl, sym, ap, ◌∙◌, append-nil, append_assoc}
use Rattle.std.specs.List.{AllByRecursion}
use Rattle.hist_lock.specs.Passes.{own_turns}
use Rattle.shared_group.specs.Turns.{GroupPass}
use Rattle.shared_port.specs.Turns.{GroupTurn, IsCallAt, Moves}

abbrev pub AreCallsAt : ℕ → List GroupTurn → Type 0
AreCallsAt host turns = AllByRecursion (λ turn. IsCallAt host turn.event) turns

module _ (host : ℕ) where
  pub rests : (p : GroupPass) → Moves host p p
  rests p = record {
    lock = refl;
    number = refl;
    rest = [];
    seen = sym (append-nil p.seen);
    mine = [];
    gained = sym (append-nil (own_turns p));
    calls = tt;
  }

  all_both : (xs ys : List GroupTurn) → AreCallsAt host xs → AreCallsAt host ys → AreCallsAt host (xs ++ ys)
  all_both [] ys a b = b
  all_both (x ∷ xs) ys a b = (a.0, all_both xs ys a.1 b)

  pub goes_on : (p q r : GroupPass) → Moves host p q → Moves host q r → Moves host p r
  goes_on p q r a b = record {
    lock = b.lock ∙ a.lock;
    number = b.number ∙ a.number;
    rest = a.rest ++ b.rest;
    seen = b.seen ∙ ap (λ (l : List GroupTurn). l ++ b.rest) a.seen ∙ append_assoc p.seen a.rest b.rest;
    mine = a.mine ++ b.mine;
    gained = b.gained ∙ ap (λ (l : List GroupTurn). l ++ b.mine) a.gained ∙ append_assoc (own_turns p) a.mine b.mine;
    calls = all_both a.mine b.mine a.calls b.calls;
  }
