-- The lines that came whole: what a run put out of some bytes before a fault of reading.
use Rattle.std.proofs.Common.{◌≡◌, ℕ, zero, suc, ◌+◌, ◌<◌, ◌≤◌, Bool, true, false, cond, List, [], ◌∷◌, ◌++◌, length, Option, Some, None, refl, sym, ap, ◌∙◌, arith, add-zero}
use Rattle.std.specs.Prelude.{nat_lt, ◌==◌}
use Rattle.std.proofs.lemmas.Bool.{cond-true, lt-ltb}
use Rattle.script_pieces.specs.Runs.{LineEffect, Goes, Stops, Rules, RunEffect, script_limit, lines_of, text_of, in_front, refusal, behind, onward, run_of_lines, whole_lines, before_whole, whole_run}
use Rattle.script_pieces.specs.Feeds.{Point, PartEffect, IsInLine, start, point, resume, run_from, Leads, IsCounted}
use Rattle.script_pieces.proofs.Cuts.{lines_last}
use Rattle.script_pieces.proofs.Resumes.{rest_past, append_none, resume_fresh}

-- the bytes of a line that is too long for any script
exists_long : (n : ℕ) → (xs : List ℕ) × IsInLine xs × (n < length xs)
exists_long zero = (0 ∷ [], (refl, tt), omega arith)
exists_long (suc n) = let r = exists_long n in (0 ∷ r.0, (refl, r.1), omega (arith, r.2))

one_line : (more : List ℕ) → IsInLine more → 0 < length more → lines_of more ≡ more ∷ []
one_line [] h l = absurd (omega arith)
one_line (b ∷ more) h l = lines_last b more h

joined : (b : ℕ) (x : Bool) (whole lines : List (List ℕ)) (last : List ℕ) → lines ≡ whole ++ last ∷ []
    → (end : List ℕ) × (cond x ((10 ∷ []) ∷ lines) (in_front b lines) ≡ cond x ((10 ∷ []) ∷ whole) (before_whole b whole) ++ end ∷ []) × (length last ≤ length end)
joined b true whole lines last e = (last, ap (λ (ls : List (List ℕ)). (10 ∷ []) ∷ ls) e, omega arith)
joined b false [] lines last e = (b ∷ last, ap (λ (ls : List (List ℕ)). in_front b ls) e, omega arith)
joined b false (l ∷ ls) lines last e = (last, ap (λ (ls : List (List ℕ)). in_front b ls) e, omega arith)

-- the lines of some bytes and of more that ends no line
lines_joined : (bytes more : List ℕ) → IsInLine more → 0 < length more
    → (end : List ℕ) × (lines_of (bytes ++ more) ≡ whole_lines bytes ++ end ∷ []) × (length more ≤ length end)
lines_joined [] more h l = (more, one_line more h l, omega arith)
lines_joined (b ∷ bytes) more h l =
    let r = lines_joined bytes more h l in
    let s = joined b (b == 10) (whole_lines bytes) (lines_of (bytes ++ more)) r.0 r.1 in
    (s.0, s.1, omega (arith, r.2, s.2))

-- two run_of_lines with the same output and as many calls
record Same {Why : Type 0} (a b : RunEffect Why) : Type 0 where
  out : a.out ≡ b.out
  calls : a.calls ≡ b.calls

same_onward : {World Why : Type 0} (x : Bool) (t : LineEffect World Why) (number : ℕ) (past : Why) (f g : World → RunEffect Why) → ((w : World) → Same (f w) (g w))
    → Same (cond x (refusal number past 0) (onward t number f)) (cond x (refusal number past 0) (onward t number g))
same_onward true t number past f g h = record { out = refl; calls = refl }
same_onward false (Goes w o c) number past f g h =
    record { out = ap (λ (xs : List ℕ). o ++ xs) (h w).out; calls = ap (λ (n : ℕ). c + n) (h w).calls }
same_onward false (Stops why c) number past f g h = record { out = refl; calls = refl }

-- a last line past the limit adds nothing
runs_last : {World Why : Type 0} (rules : Rules World Why) (w : World) (number before : ℕ) (lines : List (List ℕ)) (end : List ℕ)
    → script_limit < length end → Same (run_of_lines rules w number before (lines ++ end ∷ [])) (run_of_lines rules w number before lines)
unfolding run_of_lines
runs_last {World} {Why} rules w number before [] end h =
    let test : nat_lt script_limit (before + length end) ≡ true = lt-ltb script_limit (before + length end) (omega arith) in
    let e = cond-true (nat_lt script_limit (before + length end)) (refusal number rules.past 0)
    (onward (rules.effect w (text_of end)) number (λ next. run_of_lines rules next (number + 1) (before + length end) [])) test in
    record { out = ap (λ (r : RunEffect Why). r.out) e; calls = ap (λ (r : RunEffect Why). r.calls) e }
runs_last rules w number before (line ∷ lines) end h =
    same_onward (nat_lt script_limit (before + length line)) (rules.effect w (text_of line)) number rules.past
    (λ next. run_of_lines rules next (number + 1) (before + length line) (lines ++ end ∷ []))
    (λ next. run_of_lines rules next (number + 1) (before + length line) lines)
    (λ next. runs_last rules next (number + 1) (before + length line) lines end h)

-- the number of a refusal, if there is one
abbrev number_of : {Why : Type 0} → Option (ℕ × Why) → ℕ
number_of None = 0
number_of (Some refused) = refused.0

none_some : {Why : Type 0} (r : ℕ × Why) → let none : Option (ℕ × Why) = None in none ≡ Some r → ⊥
none_some r e = cc

-- a refusal of one of so many lines stands in both runs
refusal_kept : {World Why : Type 0} (x : Bool) (t : LineEffect World Why) (number n : ℕ) (past : Why) (f g : World → RunEffect Why) (r : ℕ × Why) → 1 ≤ n
    → ((w : World) → (f w).refused ≡ Some r → (r.0 < number + n) × ((g w).refused ≡ Some r))
    → (cond x (refusal number past 0) (onward t number f)).refused ≡ Some r
    → (r.0 < number + n) × ((cond x (refusal number past 0) (onward t number g)).refused ≡ Some r)
refusal_kept {World} {Why} true t number n past f g r some h e =
    let same : number ≡ r.0 = ap (λ (o : Option (ℕ × Why)). number_of o) e in (omega (arith, same, some), e)
refusal_kept false (Goes w o c) number n past f g r some h e = h w e
refusal_kept {World} {Why} false (Stops why c) number n past f g r some h e =
    let same : number ≡ r.0 = ap (λ (o : Option (ℕ × Why)). number_of o) e in (omega (arith, same, some), e)

-- a refusal has the number of a line, and stands whatever follows
refused_before : {World Why : Type 0} (rules : Rules World Why) (w : World) (number before : ℕ) (lines more : List (List ℕ)) (r : ℕ × Why)
    → (run_of_lines rules w number before lines).refused ≡ Some r
    → (r.0 < number + length lines) × ((run_of_lines rules w number before (lines ++ more)).refused ≡ Some r)
unfolding run_of_lines
refused_before rules w number before [] more r e = absurd (none_some r e)
refused_before rules w number before (line ∷ lines) more r e =
    refusal_kept (nat_lt script_limit (before + length line)) (rules.effect w (text_of line)) number (length (line ∷ lines)) rules.past
    (λ next. run_of_lines rules next (number + 1) (before + length line) lines)
    (λ next. run_of_lines rules next (number + 1) (before + length line) (lines ++ more))
    r (omega arith)
    (λ next h. let k = refused_before rules next (number + 1) (before + length line) lines more r h in (omega (arith, k.0), k.1))
    e

none_of : {Why : Type 0} (o : Option (ℕ × Why)) → ((r : ℕ × Why) → o ≡ Some r → ⊥) → o ≡ None
none_of None h = refl
none_of (Some r) h = absurd (h r refl)

-- what a run did up to a point, of the lines that came whole
pub record Settled {World Why : Type 0} (rules : Rules World Why) (w : World) (bytes : List ℕ) (part : PartEffect) : Type 0 where
  pub out : part.out ≡ (whole_run rules w bytes).out
  pub calls : part.calls ≡ (whole_run rules w bytes).calls
  pub unrefused : (whole_run rules w bytes).refused ≡ None

-- what went on so far is the run of the lines that came whole, and none of them was refused: a further line that
-- is too long for any script would be refused by its own number
pub settled : {World Why : Type 0} (rules : Rules World Why) (w : World) (q : Point World) (bytes : List ℕ) (part : PartEffect)
    → Leads rules (point w start bytes) part q → q.rest ≡ [] → IsCounted (point w start bytes) q → q.place.read ≤ script_limit
    → Settled rules w bytes part
settled {World} {Why} rules w q bytes part l empty counted fits =
    let long = exists_long script_limit in
    let more : List ℕ = long.0 in
    let test : nat_lt script_limit (q.place.read + length more) ≡ true = lt-ltb script_limit (q.place.read + length more) (omega (arith, long.2)) in
    let past : run_from rules q more ≡ refusal q.place.number rules.past 0 =
    ap (λ (xs : List ℕ). resume rules q.world q.place (lines_of (xs ++ more))) empty
    ∙ ap (λ (xs : List ℕ). resume rules q.world q.place (lines_of xs)) (sym (append_none more))
    ∙ (rest_past rules q.world q.place more long.1 test fits).on [] in
    let lines = lines_joined bytes more long.1 (omega (arith, long.2)) in
    let same = runs_last rules w 1 0 (whole_lines bytes) lines.0 (omega (arith, long.2, lines.2)) in
    let e : run_of_lines rules w 1 0 (whole_lines bytes ++ lines.0 ∷ []) ≡ behind part.out part.calls (refusal q.place.number rules.past 0) =
    ap (λ (ls : List (List ℕ)). run_of_lines rules w 1 0 ls) (sym lines.1)
    ∙ sym (resume_fresh rules w 1 0 (lines_of (bytes ++ more))) ∙ l.on more
    ∙ ap (λ (r : RunEffect Why). behind part.out part.calls r) past in
    let none : length (whole_lines []) ≡ 0 = refl in
    let numbered : q.place.number ≡ 1 + length (whole_lines bytes) =
    omega (arith, counted.1, none, ap (λ (xs : List ℕ). length (whole_lines xs)) empty) in
    let free : (r : ℕ × Why) → (whole_run rules w bytes).refused ≡ Some r → ⊥ = λ r h.
    let kept = refused_before rules w 1 0 (whole_lines bytes) (lines.0 ∷ []) r h in
    let same : r.0 ≡ q.place.number = ap (λ (o : Option (ℕ × Why)). number_of o) (sym kept.1 ∙ ap (λ (x : RunEffect Why). x.refused) e) in
    omega (arith, kept.0, numbered, same) in
    record {
      out = sym (append_none part.out) ∙ sym (ap (λ (r : RunEffect Why). r.out) e) ∙ same.out;
      calls = sym (add-zero part.calls) ∙ sym (ap (λ (r : RunEffect Why). r.calls) e) ∙ same.calls;
      unrefused = none_of (whole_run rules w bytes).refused free;
    }
