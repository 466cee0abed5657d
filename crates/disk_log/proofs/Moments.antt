-- How a run of calls of a disk goes on.
use Rattle.std.proofs.Common.{inl, inr, ⊎_elim, ℕ, List, arith}
use Rattle.ft_outside.specs.declared.keepers.Kept.{Kept}
use Rattle.ft_outside.specs.declared.keepers.Kept.TheVariants.{Done, Failed}
use Rattle.disk_log.specs.Disk.{Each, Elapses, LeavesOnly, OnDone}

module _ {D : Type 0} (moment : D → ℕ) (since : D → ℕ → List ℕ → Type 0) where
  -- one call, before which each image has P, and after which each has
  pub leaves : (old new : D) (P images later : List ℕ → Type 0) → ((c : List ℕ) → since old (moment old) c → images c)
      → Elapses (moment old) (moment new) (since old) (since new) later → Each images P → Each later P → LeavesOnly moment since old new P
  leaves old new P images later only time before after = record {
    later = time.later;
    each = λ c left. ⊎_elim (λ past. before c (only c past)) (λ now. after c now) (time.nothing_else (moment old) c (omega arith) left);
    before = λ t c le left. ⊎_elim (λ past. inl past) (λ now. inr (after c now)) (time.nothing_else t c le left);
  }

  -- one run behind another
  pub joins : (old mid new : D) (P : List ℕ → Type 0) → LeavesOnly moment since old mid P → LeavesOnly moment since mid new P → LeavesOnly moment since old new P
  joins old mid new P first second = record {
    later = omega (arith, first.later, second.later);
    each = λ c left. ⊎_elim (λ past. first.each c past) (λ p. p) (second.before (moment old) c first.later left);
    before = λ t c le left. ⊎_elim (λ past. first.before t c le past) (λ p. inr p) (second.before t c (omega (arith, le, first.later)) left);
  }

  -- what has P has Q
  pub weakens : (old new : D) (P Q : List ℕ → Type 0) → ((c : List ℕ) → P c → Q c) → LeavesOnly moment since old new P → LeavesOnly moment since old new Q
  weakens old new P Q to run = record {
    later = run.later;
    each = λ c left. to c (run.each c left);
    before = λ t c le left. ⊎_elim (λ past. inl past) (λ p. inr (to c p)) (run.before t c le left);
  }

pub on_done : (k : Kept) (P Q : Type 0) → (P → Q) → OnDone k P → OnDone k Q
on_done Done P Q to p = to p
on_done Failed P Q to p = tt

-- no call
pub stays : {D : Type 0} (moment : D → ℕ) (since : D → ℕ → List ℕ → Type 0) (old : D) (P images : List ℕ → Type 0) → ((c : List ℕ) → since old (moment old) c → images c) → Each images P → LeavesOnly moment since old old P
stays moment since old P images only each = record { later = omega arith; each = λ c left. each c (only c left); before = λ t c le left. inl left }
