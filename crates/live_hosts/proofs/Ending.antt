-- A host's pass is taken in, and what stays of its turns.
use Rattle.std.proofs.Common.{◌≡◌, ◌≢◌, ℕ, List, [], ◌∷◌, ◌++◌, refl, sym, ap, ◌∙◌, subst, append-nil, append_assoc, inl, inr, arith}
use Rattle.std.specs.Prelude.{◌==◌}
use Rattle.std.specs.List.{AllByRecursion}
use Rattle.std.proofs.lemmas.List.Elements.{filter-append}
use Rattle.std.proofs.lemmas.Bool.Decides.{nat_tests}
use Rattle.hist_lock.specs.Histories.{Among, turn_by, turns_by}
use Rattle.hist_lock.specs.Passes.{IsJoin, IsTurn, numbers, own_turns}
use Rattle.shared_group.specs.Turns.{GroupPass}
use Rattle.shared_group.specs.declared.calls.Call.{Call}
use Rattle.shared_group.specs.declared.calls.CallAnswer.{CallAnswer}
use Rattle.shared_port.specs.Turns.{GroupTurn, Moves}
use Rattle.live_hosts.specs.Posts.{HasEnded, HasSeenMore, HasTurnsOf, Post}
use Rattle.live_hosts.proofs.Moving.{AreCallsAt}

-- ---- the turns under a number

by_both : (n : ℕ) (xs ys : List GroupTurn) → turns_by n (xs ++ ys) ≡ turns_by n xs ++ turns_by n ys
by_both n xs ys = filter-append (λ (t : GroupTurn). t.number == n) xs ys

-- what comes behind has none of them
as_before : (n : ℕ) (xs ys : List GroupTurn) → turns_by n ys ≡ [] → turns_by n (xs ++ ys) ≡ turns_by n xs
as_before n xs ys none = by_both n xs ys ∙ ap (λ (l : List GroupTurn). turns_by n xs ++ l) none ∙ append-nil (turns_by n xs)

none_by_both : (n : ℕ) (xs ys : List GroupTurn) → turns_by n xs ≡ [] → turns_by n ys ≡ [] → turns_by n (xs ++ ys) ≡ []
none_by_both n xs ys a b = as_before n xs ys b ∙ a

by_another : (n m : ℕ) (call : Call) (answer : CallAnswer) → n ≢ m → turns_by n (turn_by m call answer ∷ []) ≡ []
by_another n m call answer other = grind (arith, nat_tests)

-- ---- the numbers that were taken in

kept : (x : ℕ) (xs ys : List ℕ) → Among x xs → Among x (xs ++ ys)
kept x [] ys at = absurd at
kept x (n ∷ xs) ys (inl same) = inl same
kept x (n ∷ xs) ys (inr at) = inr (kept x xs ys at)

taken : (x : ℕ) (xs ys : List ℕ) → Among x (xs ++ x ∷ ys)
taken x [] ys = inl refl
taken x (n ∷ xs) ys = inr (taken x xs ys)

joined_by : {before gone after : GroupPass} → IsJoin before gone after → after.joined ≡ before.joined ++ numbers gone
joined_by join = ap (λ (p : GroupPass). p.joined) join.same

-- ---- one host

-- a longer history
longer : (post : Post) (seen history rest : List GroupTurn) → HasTurnsOf post seen → history ≡ seen ++ rest → turns_by post.pass.number rest ≡ [] → HasTurnsOf post history
longer post seen history rest has same none =
    let n = post.pass.number in
    let under : turns_by n history ≡ turns_by n seen = ap (λ (l : List GroupTurn). turns_by n l) same ∙ as_before n seen rest none in
    record {
      gone = has.gone;
      moves = has.moves;
      rest = has.rest ++ rest;
      seen = same ∙ ap (λ (l : List GroupTurn). l ++ rest) has.seen ∙ append_assoc has.gone.seen has.rest rest;
      turns = under ∙ has.turns;
      calls = subst (AreCallsAt post.host) (sym under) has.calls;
    }

pub in_the_whole : (post : Post) (pass : GroupPass) (history rest : List GroupTurn) → history ≡ pass.seen ++ rest → turns_by post.pass.number rest ≡ [] → HasEnded post pass → HasTurnsOf post history
in_the_whole post pass history rest same none ended = longer post pass.seen history rest ended.has same none

pub after_join : (post : Post) (pass gone later : GroupPass) → IsJoin pass gone later → HasEnded post pass → HasEnded post later
after_join post pass gone later join ended = record {
  joined = subst (Among post.pass.number) (sym (joined_by join)) (kept post.pass.number pass.joined (numbers gone) ended.joined);
  has = in_the_whole post pass later.seen join.seen.0 join.seen.1 (join.seen.2 post.pass.number (inr ended.joined)) ended;
}

pub after_turn : (post : Post) (pass later : GroupPass) (call : Call) (answer : CallAnswer) → post.pass.number ≢ pass.number → IsTurn pass call answer later → HasEnded post pass → HasEnded post later
after_turn post pass later call answer other turn ended =
    let n = post.pass.number in
    let t : GroupTurn = turn_by pass.number call answer in
    let others = turn.others in
    let none : turns_by n (others.0 ++ t ∷ []) ≡ [] =
    none_by_both n others.0 (t ∷ []) (others.2 n (inr ended.joined)) (by_another n pass.number call answer other) in
    let seen : later.seen ≡ pass.seen ++ (others.0 ++ t ∷ []) =
    ap (λ (p : GroupPass). p.seen) turn.ended ∙ ap (λ (l : List GroupTurn). l ++ t ∷ []) others.1 ∙ append_assoc pass.seen others.0 (t ∷ []) in
    record {
      joined = subst (Among n) (sym (ap (λ (p : GroupPass). p.joined) turn.ended)) ended.joined;
      has = longer post pass.seen later.seen (others.0 ++ t ∷ []) ended.has seen none;
    }

-- its pass is taken in
pub ends : (post : Post) (gone before after : GroupPass) → own_turns post.pass ≡ [] → Moves post.host post.pass gone → IsJoin before gone after → HasEnded post after
ends post gone before after fresh moves join =
    let n = post.pass.number in
    let seen = join.gone_seen in
    let under : turns_by gone.number after.seen ≡ own_turns gone =
    ap (λ (l : List GroupTurn). turns_by gone.number l) seen.1 ∙ as_before gone.number gone.seen seen.0 (seen.2 gone.number (inl refl)) in
    let turns : turns_by n after.seen ≡ own_turns gone = subst (λ (x : ℕ). turns_by x after.seen ≡ own_turns gone) moves.number under in
    let mine : own_turns gone ≡ moves.mine = moves.gained ∙ ap (λ (l : List GroupTurn). l ++ moves.mine) fresh in
    record {
      joined = subst (Among n) (sym (joined_by join)) (subst (λ (x : ℕ). Among n (before.joined ++ x ∷ gone.joined)) (sym moves.number) (taken n before.joined gone.joined));
      has = record {
        gone = gone;
        moves = moves;
        rest = seen.0;
        seen = seen.1;
        turns = turns;
        calls = subst (AreCallsAt post.host) (sym (turns ∙ mine)) moves.calls;
      };
    }

-- ---- all of them

abbrev pub HaveEnded : List Post → GroupPass → Type 0
HaveEnded posts pass = AllByRecursion (λ post. HasEnded post pass) posts

pub all_after_join : (posts : List Post) (pass gone later : GroupPass) → IsJoin pass gone later → HaveEnded posts pass → HaveEnded posts later
all_after_join [] pass gone later join all = tt
all_after_join (post ∷ posts) pass gone later join all = (after_join post pass gone later join all.0, all_after_join posts pass gone later join all.1)

pub one_more : (posts : List Post) (post : Post) (pass : GroupPass) → HaveEnded posts pass → HasEnded post pass → HaveEnded (posts ++ post ∷ []) pass
one_more [] post pass all it = (it, tt)
one_more (p ∷ posts) post pass all it = (all.0, one_more posts post pass all.1 it)

-- ---- the pass that takes in

pub sees_no_more : (p : GroupPass) → HasSeenMore p p
sees_no_more p = record {
  number = refl;
  stride = refl;
  seen = ([], sym (append-nil p.seen), λ x at. refl);
  joined = λ x at. at;
}

pub sees_more : (p q gone r : GroupPass) → HasSeenMore p q → IsJoin q gone r → HasSeenMore p r
sees_more p q gone r more join =
    let before = more.seen in
    let since = join.seen in
    let still : (x : ℕ) → Among x (numbers p) → Among x (numbers q) = among in
    record {
      number = ap (λ (z : GroupPass). z.number) join.same ∙ more.number;
      stride = ap (λ (z : GroupPass). z.stride) join.same ∙ more.stride;
      seen = (
        before.0 ++ since.0,
        since.1 ∙ ap (λ (l : List GroupTurn). l ++ since.0) before.1 ∙ append_assoc p.seen before.0 since.0,
        λ x at. none_by_both x before.0 since.0 (before.2 x at) (since.2 x (still x at)),
      );
      joined = λ x at. subst (Among x) (sym (joined_by join)) (kept x q.joined (numbers gone) (more.joined x at));
    }
  where
    among : (x : ℕ) → Among x (numbers p) → Among x (numbers q)
    among x (inl same) = inl (same ∙ sym more.number)
    among x (inr at) = inr (more.joined x at)
