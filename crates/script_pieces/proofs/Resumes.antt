-- What still comes of a run, after a part of it.
use Rattle.std.proofs.Common.{◌≡◌, ℕ, ◌+◌, ◌≤◌, Bool, true, false, cond, List, [], ◌∷◌, ◌++◌, length, take, refl, sym, ap, ◌∙◌, arith, append_assoc, add_assoc, length-append, add-zero, zero-add}
use Rattle.std.specs.Prelude.{nat_lt, ◌==◌}
use Rattle.std.proofs.lemmas.List.{take_all, length-take}
use Rattle.std.proofs.lemmas.Bool.{cond-true, cond-false, ltb-true, lt-ltb, ne_eqb}
use Rattle.script_pieces.specs.Runs.{LineEffect, Goes, Stops, Rules, RunEffect, script_limit, lines_of, text_of, in_front, no_effect, refusal, behind, onward, run_of_lines}
use Rattle.script_pieces.specs.Feeds.{Place, IsInLine, kept_limit, resume, place_after_line, place_in_line, point, part, Leads, Refuses}
use Rattle.script_pieces.proofs.Cuts.{lines_open, lines_end, lines_last, text_front, text_whole, take_capped}

-- with no line begun, what still comes is the run of the lines that come
pub resume_fresh : {World Why : Type 0} (rules : Rules World Why) (w : World) (number read : ℕ) (lines : List (List ℕ))
    → resume rules w (record { number = number; read = read; begun = [] }) lines ≡ run_of_lines rules w number read lines
unfolding run_of_lines
resume_fresh rules w number read [] = refl
resume_fresh rules w number read (line ∷ lines) = refl

-- what still comes, where the begun line has its end
abbrev pub after_line : {World Why : Type 0} → Rules World Why → LineEffect World Why → Place → ℕ → List (List ℕ) → RunEffect Why
after_line rules turn p n lines =
    cond (nat_lt script_limit (p.read + n)) (refusal p.number rules.past 0)
    (onward turn p.number (λ next. run_of_lines rules next (p.number + 1) (p.read + n) lines))

pub append_none : (xs : List ℕ) → xs ++ [] ≡ xs
append_none [] = refl
append_none (x ∷ xs) = ap (λ (ys : List ℕ). x ∷ ys) (append_none xs)

pub length_end : (text : List ℕ) → length (text ++ 10 ∷ []) ≡ length text + 1
length_end text = length-append text (10 ∷ [])

-- a whole line
pub whole : {World Why : Type 0} (rules : Rules World Why) (w : World) (p : Place) (text more : List ℕ) → IsInLine text
    → resume rules w p (lines_of ((text ++ 10 ∷ []) ++ more))
    ≡ after_line rules (rules.effect w (p.begun ++ text)) p (length text + 1) (lines_of more)
whole rules w p text more h =
    ap (λ (xs : List ℕ). resume rules w p (lines_of xs)) (append_assoc text (10 ∷ []) more)
    ∙ ap (λ (ls : List (List ℕ)). resume rules w p ls) (lines_end text more h)
    ∙ ap (λ (t : List ℕ). after_line rules (rules.effect w (p.begun ++ t)) p (length (text ++ 10 ∷ [])) (lines_of more))
    (text_front text (10 ∷ []) h ∙ append_none text)
    ∙ ap (λ (n : ℕ). after_line rules (rules.effect w (p.begun ++ text)) p n (lines_of more)) (length_end text)

pub line_goes : {World Why : Type 0} (rules : Rules World Why) (w next : World) (p : Place) (text out : List ℕ) (calls : ℕ)
    → IsInLine text → nat_lt script_limit (p.read + (length text + 1)) ≡ false → rules.effect w (p.begun ++ text) ≡ Goes next out calls
    → Leads rules (point w p (text ++ 10 ∷ [])) (part out calls) (point next (place_after_line p (length text + 1)) [])
line_goes {World} {Why} rules w next p text out calls h small e = record {
  on = λ more.
      whole rules w p text more h
      ∙ ap (λ (t : LineEffect World Why). after_line rules t p (length text + 1) (lines_of more)) e
      ∙ cond-false (nat_lt script_limit (p.read + (length text + 1))) (refusal p.number rules.past 0)
      (behind out calls (run_of_lines rules next (p.number + 1) (p.read + (length text + 1)) (lines_of more))) small
      ∙ ap (λ (r : RunEffect Why). behind out calls r) (sym (resume_fresh rules next (p.number + 1) (p.read + (length text + 1)) (lines_of more)));
}

pub line_stops : {World Why : Type 0} (rules : Rules World Why) (w : World) (p : Place) (text : List ℕ) (why : Why) (calls : ℕ)
    → IsInLine text → nat_lt script_limit (p.read + (length text + 1)) ≡ false → rules.effect w (p.begun ++ text) ≡ Stops why calls
    → Refuses rules (point w p (text ++ 10 ∷ [])) (part [] calls) p.number why
line_stops {World} {Why} rules w p text why calls h small e = record {
  on = λ more.
      whole rules w p text more h
      ∙ ap (λ (t : LineEffect World Why). after_line rules t p (length text + 1) (lines_of more)) e
      ∙ cond-false (nat_lt script_limit (p.read + (length text + 1))) (refusal p.number rules.past 0)
      (refusal p.number why calls) small;
}

pub line_past : {World Why : Type 0} (rules : Rules World Why) (w : World) (p : Place) (text : List ℕ)
    → IsInLine text → nat_lt script_limit (p.read + (length text + 1)) ≡ true
    → Refuses rules (point w p (text ++ 10 ∷ [])) (part [] 0) p.number rules.past
line_past {World} {Why} rules w p text h large = record {
  on = λ more.
      whole rules w p text more h
      ∙ cond-true (nat_lt script_limit (p.read + (length text + 1))) (refusal p.number rules.past 0)
      (onward (rules.effect w (p.begun ++ text)) p.number (λ next. run_of_lines rules next (p.number + 1) (p.read + (length text + 1)) (lines_of more))) large;
}

some_joined : (c : ℕ) (b : Bool) (ls : List (List ℕ)) → (l : List ℕ) × (rest : List (List ℕ)) × (cond b ((10 ∷ []) ∷ ls) (in_front c ls) ≡ l ∷ rest)
some_joined c true ls = (10 ∷ [], ls, refl)
some_joined c false [] = (c ∷ [], [], refl)
some_joined c false (x ∷ xs) = (c ∷ x, xs, refl)

larger : (m n : ℕ) → nat_lt script_limit m ≡ true → m ≤ n → nat_lt script_limit n ≡ true
larger m n e h = lt-ltb script_limit n (omega (arith, ltb-true script_limit m e))

not_past : (n : ℕ) → nat_lt script_limit (n + 0) ≡ true → n ≤ script_limit → ⊥
not_past n e h = omega (arith, ltb-true script_limit (n + 0) e)

filled : (xs : List ℕ) (b : ℕ) (text : List ℕ) → (length (take kept_limit (xs ++ b ∷ text)) == 0) ≡ false
filled xs b text = ne_eqb (length (take kept_limit (xs ++ b ∷ text))) 0 (λ e. omega (arith, e, length-take kept_limit (xs ++ b ∷ text), length-append xs (b ∷ text)))

-- lines that are there
some_lines : (c : ℕ) (more : List ℕ) → (l : List ℕ) × (ls : List (List ℕ)) × (lines_of (c ∷ more) ≡ l ∷ ls)
some_lines c more = some_joined c (c == 10) (lines_of more)

-- the begun line, where no more comes
open_end : {World Why : Type 0} (rules : Rules World Why) (w : World) (p : Place) (b : ℕ) (text : List ℕ) → IsInLine (b ∷ text)
    → resume rules w p (lines_of ((b ∷ text) ++ [])) ≡ after_line rules (rules.effect w (p.begun ++ b ∷ text)) p (length (b ∷ text)) []
open_end rules w p b text h =
    ap (λ (xs : List ℕ). resume rules w p (lines_of xs)) (append_none (b ∷ text))
    ∙ ap (λ (ls : List (List ℕ)). resume rules w p ls) (lines_last b text h)
    ∙ ap (λ (t : List ℕ). after_line rules (rules.effect w (p.begun ++ t)) p (length (b ∷ text)) []) (text_whole (b ∷ text) h)

-- the begun line, where more comes
open_more : {World Why : Type 0} (rules : Rules World Why) (w : World) (p : Place) (text more l : List ℕ) (ls : List (List ℕ)) → IsInLine text
    → lines_of more ≡ l ∷ ls
    → resume rules w p (lines_of (text ++ more)) ≡ after_line rules (rules.effect w (p.begun ++ (text ++ text_of l))) p (length text + length l) ls
open_more rules w p text more l ls h e =
    ap (λ (xs : List (List ℕ)). resume rules w p xs) (lines_open text more l ls h e)
    ∙ ap (λ (t : List ℕ). after_line rules (rules.effect w (p.begun ++ t)) p (length (text ++ l)) ls) (text_front text l h)
    ∙ ap (λ (n : ℕ). after_line rules (rules.effect w (p.begun ++ (text ++ text_of l))) p n ls) (length-append text l)

past_on : {World Why : Type 0} (rules : Rules World Why) (w : World) (p : Place) (b : ℕ) (text : List ℕ)
    → IsInLine (b ∷ text) → nat_lt script_limit (p.read + length (b ∷ text)) ≡ true → (more : List ℕ)
    → resume rules w p (lines_of ((b ∷ text) ++ more)) ≡ refusal p.number rules.past 0
past_on rules w p b text h large [] =
    open_end rules w p b text h
    ∙ cond-true (nat_lt script_limit (p.read + length (b ∷ text))) (refusal p.number rules.past 0)
    (onward (rules.effect w (p.begun ++ b ∷ text)) p.number (λ next. run_of_lines rules next (p.number + 1) (p.read + length (b ∷ text)) [])) large
past_on rules w p b text h large (c ∷ more) =
    let some = some_lines c more in
    open_more rules w p (b ∷ text) (c ∷ more) some.0 some.1 h some.2
    ∙ cond-true (nat_lt script_limit (p.read + (length (b ∷ text) + length some.0))) (refusal p.number rules.past 0)
    (onward (rules.effect w (p.begun ++ (b ∷ text ++ text_of some.0))) p.number (λ next. run_of_lines rules next (p.number + 1) (p.read + (length (b ∷ text) + length some.0)) some.1))
    (larger (p.read + length (b ∷ text)) (p.read + (length (b ∷ text) + length some.0)) large (omega arith))

-- a begun line that is past the limit already
pub rest_past : {World Why : Type 0} (rules : Rules World Why) (w : World) (p : Place) (text : List ℕ)
    → IsInLine text → nat_lt script_limit (p.read + length text) ≡ true → p.read ≤ script_limit
    → Refuses rules (point w p text) (part [] 0) p.number rules.past
rest_past rules w p [] h large small = absurd (not_past p.read large small)
rest_past rules w p (b ∷ text) h large small = record { on = past_on rules w p b text h large }

-- a line's effect sees a text only as far as it is kept
abbrev pub Alike : {World Why : Type 0} → Rules World Why → Type 0
Alike {World} rules = (w : World) (text : List ℕ) → rules.effect w text ≡ rules.effect w (take 4097 text)

same_turn : {World Why : Type 0} (rules : Rules World Why) → Alike rules → (w : World) (begun text t : List ℕ)
    → rules.effect w (begun ++ (text ++ t)) ≡ rules.effect w (take kept_limit (begun ++ text) ++ t)
same_turn rules alike w begun text t =
    alike w (begun ++ (text ++ t))
    ∙ ap (λ (xs : List ℕ). rules.effect w (take kept_limit xs)) (sym (append_assoc begun text t))
    ∙ ap (λ (xs : List ℕ). rules.effect w xs) (sym (take_capped kept_limit (begun ++ text) t))
    ∙ sym (alike w (take kept_limit (begun ++ text) ++ t))

pub behind_none : {Why : Type 0} (r : RunEffect Why) → behind [] 0 r ≡ r
behind_none {Why} r = ap (λ (n : ℕ). let x : RunEffect Why = record { out = r.out; refused = r.refused; calls = n } in x) (zero-add r.calls)

kept_on : {World Why : Type 0} (rules : Rules World Why) → Alike rules → (w : World) (p : Place) (b : ℕ) (text : List ℕ)
    → IsInLine (b ∷ text) → nat_lt script_limit (p.read + length (b ∷ text)) ≡ false → (more : List ℕ)
    → resume rules w p (lines_of ((b ∷ text) ++ more)) ≡ resume rules w (place_in_line p (b ∷ text)) (lines_of more)
unfolding run_of_lines
kept_on {World} {Why} rules alike w p b text h small [] =
    open_end rules w p b text h
    ∙ cond-false (nat_lt script_limit (p.read + length (b ∷ text))) (refusal p.number rules.past 0)
    (onward (rules.effect w (p.begun ++ b ∷ text)) p.number (λ next. run_of_lines rules next (p.number + 1) (p.read + length (b ∷ text)) [])) small
    ∙ ap (λ (t : LineEffect World Why). onward t p.number (λ next. no_effect)) (alike w (p.begun ++ b ∷ text))
    ∙ sym (cond-false (length (take kept_limit (p.begun ++ b ∷ text)) == 0) no_effect
    (onward (rules.effect w (take kept_limit (p.begun ++ b ∷ text))) p.number (λ next. no_effect)) (filled p.begun b text))
kept_on {World} {Why} rules alike w p b text h small (c ∷ more) =
    let some = some_lines c more in
    open_more rules w p (b ∷ text) (c ∷ more) some.0 some.1 h some.2
    ∙ ap (λ (t : LineEffect World Why). after_line rules t p (length (b ∷ text) + length some.0) some.1) (same_turn rules alike w p.begun (b ∷ text) (text_of some.0))
    ∙ ap (λ (n : ℕ). cond (nat_lt script_limit n) (refusal p.number rules.past 0)
    (onward (rules.effect w (take kept_limit (p.begun ++ b ∷ text) ++ text_of some.0)) p.number (λ next. run_of_lines rules next (p.number + 1) n some.1)))
    (sym (add_assoc p.read (length (b ∷ text)) (length some.0)))
    ∙ ap (λ (ls : List (List ℕ)). resume rules w (place_in_line p (b ∷ text)) ls) (sym some.2)

kept_same : {World Why : Type 0} (rules : Rules World Why) (w : World) (p : Place) → length p.begun ≤ kept_limit → place_in_line p [] ≡ p
kept_same rules w p h =
    ap (λ (n : ℕ). let q : Place = record { number = p.number; read = n; begun = take kept_limit (p.begun ++ []) } in q) (add-zero p.read)
    ∙ ap (λ (xs : List ℕ). let q : Place = record { number = p.number; read = p.read; begun = take kept_limit xs } in q) (append_none p.begun)
    ∙ ap (λ (xs : List ℕ). let q : Place = record { number = p.number; read = p.read; begun = xs } in q) (take_all kept_limit p.begun h)

-- a begun line that is kept
pub rest_kept : {World Why : Type 0} (rules : Rules World Why) → Alike rules → (w : World) (p : Place) (text : List ℕ)
    → IsInLine text → nat_lt script_limit (p.read + length text) ≡ false → length p.begun ≤ kept_limit
    → Leads rules (point w p text) (part [] 0) (point w (place_in_line p text) [])
rest_kept rules alike w p [] h small fits = record {
  on = λ more. ap (λ (q : Place). resume rules w q (lines_of more)) (sym (kept_same rules w p fits)) ∙ sym (behind_none (resume rules w (place_in_line p []) (lines_of more)));
}
rest_kept rules alike w p (b ∷ text) h small fits = record {
  on = λ more. kept_on rules alike w p b text h small more ∙ sym (behind_none (resume rules w (place_in_line p (b ∷ text)) (lines_of more)));
}
