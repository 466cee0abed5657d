-- What feeding one part after another did.
use Rattle.std.proofs.Common.{◌≡◌, ℕ, ◌+◌, ◌≤◌, true, false, List, [], ◌∷◌, ◌++◌, length, take, drop, Option, Some, None, option_map, refl, sym, ap, ◌∙◌, subst, arith, append_assoc, add_assoc, length-append, add-zero}
use Rattle.std.specs.Prelude.{nat_lt, ◌==◌}
use Rattle.std.proofs.lemmas.List.{take-append-drop}
use Rattle.std.proofs.Math.Seq.{take-append-add}
use Rattle.std.proofs.lemmas.Bool.{cond-false}
use Rattle.ft_outside.specs.Outside.{next_count, IsWrittenWhole}
use Rattle.ft_outside.specs.declared.wholes.WholeWrite.TheVariants as writes
use Rattle.script_pieces.specs.Runs.{LineEffect, Goes, Stops, calls_of, Rules, RunEffect, script_limit, lines_of, no_effect, refusal, behind, onward, run_of_lines}
use Rattle.script_pieces.specs.Feeds.{Place, Point, PartEffect, Trace, IsInLine, kept_limit, place_after_line, place_in_line, point, part, trace, resume, run_from, IsActed, Leads, Refuses, Begins, IsFront, IsGain, IsAdded, IsAddedWithin, IsAddedAtFault, IsFed, IsDone, line_ends, IsCounted}
use Rattle.script_pieces.specs.declared.actors.LineResult.{LineResult}
use Rattle.script_pieces.specs.declared.actors.LineResult.TheVariants as results
use Rattle.script_pieces.specs.declared.feeding.FeedResult.{FeedResult}
use Rattle.script_pieces.specs.declared.feeding.FeedResult.TheVariants as feds
use Rattle.script_pieces.proofs.Counts.{ends_more, no_end, one_end}
use Rattle.script_pieces.proofs.Resumes.{line_goes, line_stops, line_past, rest_past, rest_kept, Alike, whole, append_none, length_end, behind_none}

behind_behind : {Why : Type 0} (o o' : List ℕ) (c c' : ℕ) (r : RunEffect Why) → behind o c (behind o' c' r) ≡ behind (o ++ o') (c + c') r
behind_behind {Why} o o' c c' r =
    ap (λ (xs : List ℕ). let x : RunEffect Why = record { out = xs; refused = r.refused; calls = c + (c' + r.calls) } in x) (sym (append_assoc o o' r.out))
    ∙ ap (λ (n : ℕ). let x : RunEffect Why = record { out = (o ++ o') ++ r.out; refused = r.refused; calls = n } in x) (sym (add_assoc c c' r.calls))

gained_twice : (a : Option (List ℕ)) (o o' : List ℕ) → option_map (λ held. held ++ o') (option_map (λ held. held ++ o) a) ≡ option_map (λ held. held ++ (o ++ o')) a
gained_twice None o o' = refl
gained_twice (Some xs) o o' = ap (λ (ys : List ℕ). Some ys) (append_assoc xs o o')

pub gained_more : (a b c : Option (List ℕ)) (o o' : List ℕ) → IsGain a b o → IsGain b c o' → IsGain a c (o ++ o')
gained_more a b c o o' g h = h ∙ ap (λ (x : Option (List ℕ)). option_map (λ held. held ++ o') x) g ∙ gained_twice a o o'

pub gained_none : (a : Option (List ℕ)) → IsGain a a []
gained_none None = refl
gained_none (Some xs) = ap (λ (ys : List ℕ). Some ys) (sym (append_none xs))

-- one part and then another
abbrev pub joined : PartEffect → PartEffect → PartEffect
joined a b = part (a.out ++ b.out) (a.calls + b.calls)

pub added_none : (t : Trace) → IsAdded t t (part [] 0)
added_none t = (gained_none t.holds, refl, sym (add-zero t.calls))

pub added_more : (t u v : Trace) (a b : PartEffect) → IsAdded t u a → IsAdded u v b → IsAdded t v (joined a b)
added_more t u v a b x y = (gained_more t.holds u.holds v.holds a.out b.out x.0 y.0, y.1 ∙ x.1, omega (arith, x.2, y.2))

pub within_more : (t u v : Trace) (a b : PartEffect) → IsAdded t u a → IsAddedWithin u v b → IsAddedWithin t v (joined a b)
within_more t u v a b x y = (gained_more t.holds u.holds v.holds a.out b.out x.0 y.0, y.1 ∙ x.1, omega (arith, x.2, y.2))

pub faulted_more : (t u v : Trace) (a b : PartEffect) → IsAdded t u a → IsAddedAtFault u v b → IsAddedAtFault t v (joined a b)
faulted_more t u v a b x y = (gained_more t.holds u.holds v.holds a.out b.out x.0 y.0, y.1 ∙ ap next_count x.1, omega (arith, x.2, y.2))

-- the same, of a part that is spelled otherwise
pub added_as : (t u : Trace) (a b : PartEffect) → a.out ≡ b.out → a.calls ≡ b.calls → IsAdded t u a → IsAdded t u b
added_as t u a b o c x = (subst (λ (xs : List ℕ). IsGain t.holds u.holds xs) o x.0, x.1, omega (arith, x.2, c))

-- a front of what comes behind a part
pub front_behind : {Why : Type 0} (a b : PartEffect) (r whole : RunEffect Why) → whole ≡ behind a.out a.calls r → IsFront b r → IsFront (joined a b) whole
front_behind {Why} a b r whole e f = (
  (f.0.0, ap (λ (x : RunEffect Why). x.out) e ∙ ap (λ (xs : List ℕ). a.out ++ xs) f.0.1 ∙ sym (append_assoc a.out b.out f.0.0)),
  omega (arith, ap (λ (x : RunEffect Why). x.calls) e, f.1),
)

-- the rest at hand, as a line and what stands behind it
rest_is : {World Why : Type 0} (rules : Rules World Why) (w : World) (p : Place) (rest0 line rest more : List ℕ) → rest0 ≡ line ++ rest
    → run_from rules (point w p rest0) more ≡ run_from rules (point w p line) (rest ++ more)
rest_is rules w p rest0 line rest more e =
    ap (λ (xs : List ℕ). resume rules w p (lines_of (xs ++ more))) e
    ∙ ap (λ (xs : List ℕ). resume rules w p (lines_of xs)) (append_assoc line rest more)

leads_on : {World Why : Type 0} (rules : Rules World Why) (from : Point World) (w w' : World) (p p' : Place) (rest0 line rest : List ℕ) (a b : PartEffect)
    → Leads rules from a (point w p rest0) → rest0 ≡ line ++ rest → Leads rules (point w p line) b (point w' p' [])
    → Leads rules from (joined a b) (point w' p' rest)
leads_on {World} {Why} rules from w w' p p' rest0 line rest a b l e k = record {
  on = λ more.
      l.on more
      ∙ ap (λ (r : RunEffect Why). behind a.out a.calls r) (rest_is rules w p rest0 line rest more e ∙ k.on (rest ++ more))
      ∙ behind_behind a.out b.out a.calls b.calls (run_from rules (point w' p' rest) more);
}

refuses_on : {World Why : Type 0} (rules : Rules World Why) (from : Point World) (w : World) (p : Place) (rest0 line rest : List ℕ) (a b : PartEffect) (number : ℕ) (why : Why)
    → Leads rules from a (point w p rest0) → rest0 ≡ line ++ rest → Refuses rules (point w p line) b number why
    → Refuses rules from (joined a b) number why
refuses_on {World} {Why} rules from w p rest0 line rest a b number why l e k = record {
  on = λ more.
      l.on more
      ∙ ap (λ (r : RunEffect Why). behind a.out a.calls r) (rest_is rules w p rest0 line rest more e ∙ k.on (rest ++ more));
}

begins_on : {World Why : Type 0} (rules : Rules World Why) (from : Point World) (w : World) (p : Place) (rest0 line rest : List ℕ) (a b : PartEffect)
    → Leads rules from a (point w p rest0) → rest0 ≡ line ++ rest → Begins rules (point w p line) b
    → Begins rules from (joined a b)
begins_on {World} {Why} rules from w p rest0 line rest a b l e k = record {
  on = λ more.
      front_behind a b (run_from rules (point w p line) (rest ++ more)) (run_from rules from more)
      (l.on more ∙ ap (λ (r : RunEffect Why). behind a.out a.calls r) (rest_is rules w p rest0 line rest more e))
      (k.on (rest ++ more));
}

counted_on : {World : Type 0} (from : Point World) (w w' : World) (p p' : Place) (rest0 line rest : List ℕ)
    → IsCounted from (point w p rest0) → rest0 ≡ line ++ rest → IsCounted (point w p line) (point w' p' [])
    → IsCounted from (point w' p' rest)
counted_on from w w' p p' rest0 line rest a e b =
    let ends : line_ends rest0 ≡ line_ends line + line_ends rest = ap line_ends e ∙ ends_more line rest in
    let none : line_ends [] ≡ 0 = refl in (
      omega (arith, a.0, b.0, length-append line rest, ap length e),
      omega (arith, a.1, b.1, ends, none),
    )

-- a part after what went on so far
pub fed_on : {World Why : Type 0} (rules : Rules World Why) (from : Point World) (w w' : World) (p p' : Place) (rest0 line rest : List ℕ)
    (before mid after : Trace) (fed : FeedResult Why)
    → IsFed rules from before (point w p rest0) mid feds.On → rest0 ≡ line ++ rest
    → IsFed rules (point w p line) mid (point w' p' []) after fed
    → IsFed rules from before (point w' p' rest) after fed
fed_on rules from w w' p p' rest0 line rest before mid after feds.On a e b = (
  joined a.0 b.0,
  leads_on rules from w w' p p' rest0 line rest a.0 b.0 a.1 e b.1,
  added_more before mid after a.0 b.0 a.2 b.2,
  counted_on from w w' p p' rest0 line rest a.3 e b.3,
)
fed_on rules from w w' p p' rest0 line rest before mid after (feds.Refused number why) a e b = (
  joined a.0 b.0,
  refuses_on rules from w p rest0 line rest a.0 b.0 number why a.1 e b.1,
  added_more before mid after a.0 b.0 a.2 b.2,
)
fed_on rules from w w' p p' rest0 line rest before mid after feds.WriteFailed a e b = (
  joined a.0 b.0,
  begins_on rules from w p rest0 line rest a.0 b.0 a.1 e b.1,
  faulted_more before mid after a.0 b.0 a.2 b.2,
)
fed_on rules from w w' p p' rest0 line rest before mid after feds.NoMemory a e b = (
  joined a.0 b.0,
  begins_on rules from w p rest0 line rest a.0 b.0 a.1 e b.1,
  within_more before mid after a.0 b.0 a.2 b.2,
)

-- nothing is fed yet
pub fed_none : {World Why : Type 0} (rules : Rules World Why) (from : Point World) (t : Trace) → IsFed rules from t from t feds.On
fed_none {World} {Why} rules from t =
    (part [] 0, record { on = λ more. sym (behind_none (run_from rules from more)) }, added_none t, (refl, refl))

-- a refusal under another spelling of its number and its cause
refuses_as : {World Why : Type 0} (rules : Rules World Why) (from : Point World) (a : PartEffect) (number number' : ℕ) (why why' : Why)
    → number' ≡ number → why' ≡ why → Refuses rules from a number why → Refuses rules from a number' why'
refuses_as {World} {Why} rules from a number number' why why' n e r =
    subst (λ (k : ℕ). Refuses rules from a k why') (sym n) (subst (λ (y : Why). Refuses rules from a number y) (sym e) r)

-- a line past the limit
pub fed_past : {World Why : Type 0} (rules : Rules World Why) (w : World) (p q : Place) (text : List ℕ) (t : Trace) (number : ℕ) (why : Why)
    → IsInLine text → nat_lt script_limit (p.read + (length text + 1)) ≡ true → number ≡ p.number → why ≡ rules.past
    → IsFed rules (point w p (text ++ 10 ∷ [])) t (point w q []) t (feds.Refused number why)
fed_past rules w p q text t number why i large n e = (
  part [] 0,
  refuses_as rules (point w p (text ++ 10 ∷ [])) (part [] 0) p.number number rules.past why n e (line_past rules w p text i large),
  added_none t,
)

-- a line that was refused
pub fed_stops : {World Why : Type 0} (rules : Rules World Why) (w w' : World) (p q : Place) (text : List ℕ) (h : Option (List ℕ)) (f s s' : ℕ) (number : ℕ) (why : Why)
    → IsInLine text → nat_lt script_limit (p.read + (length text + 1)) ≡ false → number ≡ p.number
    → IsActed (rules.effect w (p.begun ++ text)) w' s s' (results.Stops why)
    → IsFed rules (point w p (text ++ 10 ∷ [])) (trace h f s) (point w' q []) (trace h f s') (feds.Refused number why)
fed_stops rules w w' p q text h f s s' number why i small n acted = (
  part [] acted.0,
  refuses_as rules (point w p (text ++ 10 ∷ [])) (part [] acted.0) p.number number why why n refl (line_stops rules w p text why acted.0 i small acted.1),
  (gained_none h, refl, acted.2),
)

-- the calls of a line are among those of the run
effect_calls : {World Why : Type 0} (t : LineEffect World Why) (number : ℕ) (rest : World → RunEffect Why) → calls_of t ≤ (onward t number rest).calls
effect_calls (Goes w out calls) number rest = omega arith
effect_calls (Stops why calls) number rest = omega arith

line_calls : {World Why : Type 0} (rules : Rules World Why) (w : World) (p : Place) (text more : List ℕ) → IsInLine text
    → nat_lt script_limit (p.read + (length text + 1)) ≡ false
    → calls_of (rules.effect w (p.begun ++ text)) ≤ (resume rules w p (lines_of ((text ++ 10 ∷ []) ++ more))).calls
line_calls {World} {Why} rules w p text more i small =
    let rest : World → RunEffect Why = λ next. run_of_lines rules next (p.number + 1) (p.read + (length text + 1)) (lines_of more) in
    let e = ap (λ (r : RunEffect Why). r.calls)
    (whole rules w p text more i
    ∙ cond-false (nat_lt script_limit (p.read + (length text + 1))) (refusal p.number rules.past 0) (onward (rules.effect w (p.begun ++ text)) p.number rest) small) in
    omega (arith, e, effect_calls (rules.effect w (p.begun ++ text)) p.number rest)

-- a line for which there was no memory
pub fed_starved : {World Why : Type 0} (rules : Rules World Why) (w w' : World) (p q : Place) (text : List ℕ) (h : Option (List ℕ)) (f s s' : ℕ)
    → IsInLine text → nat_lt script_limit (p.read + (length text + 1)) ≡ false
    → IsActed (rules.effect w (p.begun ++ text)) w' s s' results.NoMemory
    → IsFed rules (point w p (text ++ 10 ∷ [])) (trace h f s) (point w' q []) (trace h f s') feds.NoMemory
fed_starved rules w w' p q text h f s s' i small acted = (
  part [] (calls_of (rules.effect w (p.begun ++ text))),
  record {
    on = λ more. (
      ((resume rules w p (lines_of ((text ++ 10 ∷ []) ++ more))).out, refl),
      line_calls rules w p text more i small,
    );
  },
  (gained_none h, refl, acted),
)

pub next_same : (p r q : Place) (n m : ℕ) → q ≡ place_after_line r m → m ≡ n → r.number ≡ p.number → r.read ≡ p.read → q ≡ place_after_line p n
next_same p r q n m e k a b =
    e
    ∙ ap (λ (x : ℕ). let o : Place = record { number = x + 1; read = r.read + m; begun = [] } in o) a
    ∙ ap (λ (x : ℕ). let o : Place = record { number = p.number + 1; read = x + m; begun = [] } in o) b
    ∙ ap (λ (x : ℕ). place_after_line p x) k

-- a line whose output was written
pub fed_writes : {World Why : Type 0} (rules : Rules World Why) (w w' : World) (p q : Place) (text printed shown : List ℕ) (h h' : Option (List ℕ)) (f f' s s' : ℕ)
    → IsInLine text → nat_lt script_limit (p.read + (length text + 1)) ≡ false → q ≡ place_after_line p (length text + 1)
    → IsActed (rules.effect w (p.begun ++ text)) w' s s' (results.Goes printed)
    → shown ≡ printed → IsWrittenWhole h h' f f' shown writes.All
    → IsFed rules (point w p (text ++ 10 ∷ [])) (trace h f s) (point w' q []) (trace h' f' s') feds.On
fed_writes rules w w' p q text printed shown h h' f f' s s' i small e acted same wrote =
    let none : line_ends [] ≡ 0 = refl in (
      part printed acted.0,
      record {
        on = λ more. (line_goes rules w w' p text printed acted.0 i small acted.1).on more
            ∙ ap (λ (x : Place). behind printed acted.0 (resume rules w' x (lines_of more))) (sym e);
      },
      (subst (λ (xs : List ℕ). IsGain h h' xs) same wrote.0, wrote.1, acted.2),
      (
        omega (arith, ap (λ (x : Place). x.read) e, length_end text),
        omega (arith, ap (λ (x : Place). x.number) e, one_end text i, none),
      ),
    )

-- a line whose output was not written whole
pub fed_unwritten : {World Why : Type 0} (rules : Rules World Why) (w w' : World) (p q : Place) (text printed shown : List ℕ) (h h' : Option (List ℕ)) (f f' s s' : ℕ)
    → IsInLine text → nat_lt script_limit (p.read + (length text + 1)) ≡ false
    → IsActed (rules.effect w (p.begun ++ text)) w' s s' (results.Goes printed)
    → shown ≡ printed → IsWrittenWhole h h' f f' shown writes.Failed
    → IsFed rules (point w p (text ++ 10 ∷ [])) (trace h f s) (point w' q []) (trace h' f' s') feds.WriteFailed
fed_unwritten {World} {Why} rules w w' p q text printed shown h h' f f' s s' i small acted same wrote =
    let k : ℕ = wrote.0.0 in
    let led = line_goes rules w w' p text printed acted.0 i small acted.1 in
    let then : List ℕ → RunEffect Why = λ more. resume rules w' (place_after_line p (length text + 1)) (lines_of more) in (
      part (take k printed) acted.0,
      record {
        on = λ more. (
          (
            drop k printed ++ (then more).out,
            ap (λ (r : RunEffect Why). r.out) (led.on more)
                ∙ ap (λ (xs : List ℕ). xs ++ (then more).out) (sym (take-append-drop k printed))
                ∙ append_assoc (take k printed) (drop k printed) (then more).out,
          ),
          omega (arith, ap (λ (r : RunEffect Why). r.calls) (led.on more)),
        );
      },
      (subst (λ (xs : List ℕ). IsGain h h' (take k xs)) same wrote.0.2, wrote.1, acted.2),
    )

-- the rest of a piece, past the limit
pub rest_fed_past : {World Why : Type 0} (rules : Rules World Why) (w : World) (p q : Place) (text : List ℕ) (t : Trace) (number : ℕ) (why : Why)
    → IsInLine text → nat_lt script_limit (p.read + length text) ≡ true → p.read ≤ script_limit → number ≡ p.number → why ≡ rules.past
    → IsFed rules (point w p text) t (point w q []) t (feds.Refused number why)
rest_fed_past rules w p q text t number why i large fits n e = (
  part [] 0,
  refuses_as rules (point w p text) (part [] 0) p.number number rules.past why n e (rest_past rules w p text i large fits),
  added_none t,
)

-- the rest of a piece, kept
pub rest_fed : {World Why : Type 0} (rules : Rules World Why) (w : World) (p q : Place) (text : List ℕ) (t : Trace)
    → Alike rules → IsInLine text → nat_lt script_limit (p.read + length text) ≡ false → length p.begun ≤ kept_limit → q ≡ place_in_line p text
    → IsFed rules (point w p text) t (point w q []) t feds.On
rest_fed {World} {Why} rules w p q text t alike i small fits e =
    let none : line_ends [] ≡ 0 = refl in (
      part [] 0,
      record {
        on = λ more. (rest_kept rules alike w p text i small fits).on more
            ∙ ap (λ (x : Place). behind [] 0 (resume rules w x (lines_of more))) (sym e);
      },
      added_none t,
      (
        omega (arith, ap (λ (x : Place). x.read) e),
        omega (arith, ap (λ (x : Place). x.number) e, no_end text i, none),
      ),
    )

-- the front of a line that is kept
pub take_joined : (n k : ℕ) (xs ys : List ℕ) → length xs + k ≡ n → take n (xs ++ ys) ≡ xs ++ take k ys
take_joined n k xs ys e = ap (λ (m : ℕ). take m (xs ++ ys)) (sym e) ∙ take-append-add xs ys k

-- acting a begun line by what is kept of it
pub acted_alike : {World Why : Type 0} (rules : Rules World Why) (w w' : World) (begun text xs : List ℕ) (s s' : ℕ) (acted : LineResult Why)
    → Alike rules → xs ≡ take 4097 (begun ++ text) → IsActed (rules.effect w xs) w' s s' acted → IsActed (rules.effect w (begun ++ text)) w' s s' acted
acted_alike {World} {Why} rules w w' begun text xs s s' acted alike e h =
    subst (λ (t : LineEffect World Why). IsActed t w' s s' acted) (ap (λ (ys : List ℕ). rules.effect w ys) e ∙ sym (alike w (begun ++ text))) h

pub acted_fresh : {World Why : Type 0} (rules : Rules World Why) (w w' : World) (begun text : List ℕ) (s s' : ℕ) (acted : LineResult Why)
    → begun ≡ [] → IsActed (rules.effect w text) w' s s' acted → IsActed (rules.effect w (begun ++ text)) w' s s' acted
acted_fresh {World} {Why} rules w w' begun text s s' acted e h =
    subst (λ (xs : List ℕ). IsActed (rules.effect w (xs ++ text)) w' s s' acted) (sym e) h

-- a place that keeps more of its begun line
pub kept_view : (old : Place) (number read k : ℕ) (items after front text : List ℕ)
    → (let p : Place = record { number = number; read = read; begun = items } in p) ≡ old
    → after ≡ items ++ front → front ≡ take k text → length items + k ≡ kept_limit
    → (let p : Place = record { number = number; read = read; begun = after } in p)
    ≡ (let p : Place = record { number = old.number; read = old.read; begun = take kept_limit (old.begun ++ text) } in p)
kept_view old number read k items after front text view e f n =
    ap (λ (xs : List ℕ). let p : Place = record { number = number; read = read; begun = xs } in p)
    (e ∙ ap (λ (xs : List ℕ). items ++ xs) f ∙ sym (take_joined kept_limit k items text n))
    ∙ ap (λ (q : Place). let p : Place = record { number = q.number; read = q.read; begun = take kept_limit (q.begun ++ text) } in p) view

-- the last line, whose output was not written whole
pub done_unwritten : {World Why : Type 0} (rules : Rules World Why) (w w' : World) (p : Place) (printed shown : List ℕ) (h h' : Option (List ℕ)) (f f' s s' : ℕ)
    → (length p.begun == 0) ≡ false → IsActed (rules.effect w p.begun) w' s s' (results.Goes printed)
    → shown ≡ printed → IsWrittenWhole h h' f f' shown writes.Failed
    → IsDone (resume rules w p []) (trace h f s) (trace h' f' s') feds.WriteFailed
done_unwritten {World} {Why} rules w w' p printed shown h h' f f' s s' some acted same wrote =
    let k : ℕ = wrote.0.0 in
    let last : World → RunEffect Why = λ next. no_effect in
    let ran : resume rules w p [] ≡ behind printed acted.0 no_effect =
    cond-false (length p.begun == 0) no_effect (onward (rules.effect w p.begun) p.number last) some
    ∙ ap (λ (t : LineEffect World Why). onward t p.number last) acted.1 in (
      part (take k printed) acted.0,
      (
        (drop k printed, ap (λ (r : RunEffect Why). r.out) ran ∙ append_none printed ∙ sym (take-append-drop k printed)),
        omega (arith, ap (λ (r : RunEffect Why). r.calls) ran),
      ),
      (subst (λ (xs : List ℕ). IsGain h h' (take k xs)) same wrote.0.2, wrote.1, acted.2),
    )

-- the last line, for which there was no memory
pub done_starved : {World Why : Type 0} (rules : Rules World Why) (w w' : World) (p : Place) (h : Option (List ℕ)) (f s s' : ℕ)
    → (length p.begun == 0) ≡ false → IsActed (rules.effect w p.begun) w' s s' results.NoMemory
    → IsDone (resume rules w p []) (trace h f s) (trace h f s') feds.NoMemory
done_starved {World} {Why} rules w w' p h f s s' some acted =
    let last : World → RunEffect Why = λ next. no_effect in
    let ran : resume rules w p [] ≡ onward (rules.effect w p.begun) p.number last =
    cond-false (length p.begun == 0) no_effect (onward (rules.effect w p.begun) p.number last) some in (
      part [] (calls_of (rules.effect w p.begun)),
      (
        ((resume rules w p []).out, refl),
        omega (arith, ap (λ (r : RunEffect Why). r.calls) ran, effect_calls (rules.effect w p.begun) p.number last),
      ),
      (gained_none h, refl, acted),
    )
