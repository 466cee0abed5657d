-- The lock is closed, and the monitor looks once more.
use Rattle.std.proofs.Common.{◌≡◌, ◌≢◌, ◌∙◌, ℕ, false, true, List, [], ◌∷◌, ◌++◌, Option, refl, sym, ap, subst, append-nil, append_assoc, inl, inr, arith}
use Rattle.std.specs.Prelude.{◌==◌, ◌↔◌}
use Rattle.std.specs.List.{AllByRecursion}
use Rattle.std.proofs.lemmas.List.Elements.{filter-append}
use Rattle.std.proofs.lemmas.Bool.Decides.{nat_tests}
use Rattle.ft_base.specs.Machine.{Machine}
use Rattle.hist_lock.specs.Histories.{Among, calls, turns_by}
use Rattle.hist_lock.specs.Passes.{own_turns}
use Rattle.message_log.specs.Picture.{length_of}
use Rattle.group_core.specs.Cores.{CorePicture}
use Rattle.shared_group.specs.Books.{BookPicture, IsBook}
use Rattle.shared_group.specs.Turns.{GroupLock, GroupPass, IsWhole}
use Rattle.live_monitor.specs.declared.states.Kill.{Kill}
use Rattle.live_monitor.specs.Monitored.{Errand, GroupTurn, HasLastLook, IsEnough, IsMonitored}
use Rattle.live_group.specs.Closing.{IsClosed}

of_both : (n : ℕ) (xs ys : List GroupTurn) → turns_by n (xs ++ ys) ≡ turns_by n xs ++ turns_by n ys
of_both n xs ys = filter-append (λ (t : GroupTurn). t.number == n) xs ys

-- turns under one number are none of another's
of_no_other : (n x : ℕ) (turns : List GroupTurn) → x ≢ n → AllByRecursion (λ turn. turn.number ≡ n) turns → turns_by x turns ≡ []
of_no_other n x [] other all = refl
of_no_other n x (t ∷ ts) other all =
    let not_its : (t.number == x) ≡ false = grind (arith, nat_tests, all.0) in
    rw not_its (of_no_other n x ts other all.1)

module _ (machines : ℕ → Machine) (lock : GroupLock) (pass : GroupPass) (before errand : Errand) (book last_book : BookPicture) (core : CorePicture) where
  pub closes : IsWhole machines lock pass book → IsMonitored before (own_turns pass)
      → ((first : BookPicture) (history : List GroupTurn) (number : ℕ) → IsBook machines first (calls history) book → IsMonitored before (turns_by number history)
      → HasLastLook machines first history number errand last_book)
      → errand.kill ≡ before.kill → last_book.core ≡ core → IsClosed machines lock pass before.kill core
  closes whole so_far looks same is =
      let n : ℕ = pass.number in
      let rest : List GroupTurn = whole.seen.0 in
      let none : (x : ℕ) → Among x (n ∷ pass.joined) → turns_by x rest ≡ [] = whole.seen.2 in
      let mine : turns_by n whole.history ≡ own_turns pass =
      ap (λ (l : List GroupTurn). turns_by n l) whole.seen.1 ∙ of_both n pass.seen rest ∙ ap (λ (l : List GroupTurn). turns_by n pass.seen ++ l) (none n (inl refl)) ∙ append-nil (turns_by n pass.seen) in
      let last = looks lock.opening whole.history n whole.book (subst (IsMonitored before) (sym mine) so_far) in
      record {
        history = whole.history ++ last.more;
        rest = rest ++ last.more;
        seen = ap (λ (l : List GroupTurn). l ++ last.more) whole.seen.1 ∙ append_assoc pass.seen rest last.more;
        joined = λ x at other. of_both x rest last.more ∙ ap (λ (l : List GroupTurn). l ++ turns_by x last.more) (none x (inr at)) ∙ of_no_other n x last.more other last.own;
        book = last_book;
        leads = last.book;
        core_is = is;
        errand = errand;
        kill_is = same;
        monitored = last.monitored;
        exact = subst (λ (c : CorePicture). (errand.killed ≡ true) ↔ IsEnough before.kill (length_of c.log)) is
            (subst (λ (k : Option Kill). (errand.killed ≡ true) ↔ IsEnough k (length_of last_book.core.log)) same last.exact);
      }
