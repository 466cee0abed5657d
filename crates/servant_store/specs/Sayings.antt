-- What bytes say by a spelling, where they say it. (The spellings here are those of a store's states and of its
-- updates.)
use Rattle.std.proofs.Common.{◌≡◌, Bool, true, false, ◌&&◌, if◌then◌else◌, List, ℕ, Option, Some, None, refl, ap, subst, ◌∙◌}
use Rattle.std.specs.Str.{bytes_eq}
use Rattle.std.proofs.lemmas.Bool.{and_parts}
use Rattle.std.proofs.lemmas.Slice.Eq.{bytes_eq-Decides}
use Rattle.ft_base.specs.Coding.{said, said_by}

-- what is said by any spelling: the value that is read back, and only one that is spelled so
pub said_again_by : {X : Type 0} (valid : X → Bool) (spelled : X → List ℕ) (read : List ℕ → Option X) (x : X) → valid x ≡ true
    → read (spelled x) ≡ Some x → said valid spelled read (spelled x) ≡ Some x
said_again_by valid spelled read x h back =
    let same : bytes_eq (spelled x) (spelled x) ≡ true = (bytes_eq-Decides (spelled x) (spelled x)).1 refl in
    ap (said_by valid spelled (spelled x)) back
    ∙ ap (λ b. if b && bytes_eq (spelled x) (spelled x) then Some x else None) h
    ∙ ap (λ b. if b then Some x else None) same

tested : {X : Type 0} (valid : X → Bool) (spelled : X → List ℕ) (bytes : List ℕ) (o : Option X) (y : X) → said_by valid spelled bytes o ≡ Some y
    → (valid y ≡ true) × (bytes ≡ spelled y)
tested valid spelled bytes None y is = absurd cc
tested {X} valid spelled bytes (Some x) y is =
    let go : (b : Bool) → (valid x && bytes_eq bytes (spelled x)) ≡ b → (if b then Some x else None) ≡ Some y → (valid y ≡ true) × (bytes ≡ spelled y) =
    elim [
      | true ↦ λ test is.
          let tests = and_parts (valid x) (bytes_eq bytes (spelled x)) test in
          let one : x ≡ y = cc in
          subst (λ (z : X). (valid z ≡ true) × (bytes ≡ spelled z)) one (tests.0, (bytes_eq-Decides bytes (spelled x)).0 tests.1)
      | false ↦ λ test is. absurd cc
    ] in
    go (valid x && bytes_eq bytes (spelled x)) refl is

pub said_only : {X : Type 0} (valid : X → Bool) (spelled : X → List ℕ) (read : List ℕ → Option X) (bytes : List ℕ) (x : X)
    → said valid spelled read bytes ≡ Some x → (valid x ≡ true) × (bytes ≡ spelled x)
said_only valid spelled read bytes x is = tested valid spelled bytes (read bytes) x is
