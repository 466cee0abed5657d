-- A sample of what lines do, for tests: a line is written back with an LF, and refused where it has
-- more than 4,096 bytes.
use Rattle.std.specs.Prelude.{◌≡◌, ℕ, ◌<◌, ◌≤◌, nat_lt, if◌then◌else◌, Bool, true, false, List, [], ◌∷◌, ◌++◌, length, take}
use Rattle.std.proofs.Common.{sym, ap, ◌∙◌, ⊎_elim, arith}
use Rattle.std.proofs.lemmas.List.{take_all, length-take}
use Rattle.std.proofs.lemmas.Bool.{cases_lt, cond-true, lt-ltb}
use Rattle.script_pieces.specs.Runs.{Goes, Stops, Rules}

abbrev pub echo : {World : Type 0} → Rules World Bool
echo = record {
  effect = λ world text. if nat_lt 4096 (length text) then Stops false 0 else Goes world (text ++ 10 ∷ []) 0;
  past = true;
}

long : {World : Type 0} (world : World) (text : List ℕ) → 4096 < length text → echo.effect world text ≡ Stops false 0
long world text h = cond-true (nat_lt 4096 (length text)) (Stops false 0) (Goes world (text ++ 10 ∷ []) 0) (lt-ltb 4096 (length text) h)

pub echo_alike : {World : Type 0} (world : World) (text : List ℕ) → echo.effect world text ≡ echo.effect world (take 4097 text)
echo_alike {World} world text =
    let rules : Rules World Bool = echo in
    ⊎_elim
    (λ (h : 4096 < length text). long world text h ∙ sym (long world (take 4097 text) (omega (arith, length-take 4097 text))))
    (λ (h : length text ≤ 4096). sym (ap (λ (xs : List ℕ). rules.effect world xs) (take_all 4097 text (omega arith))))
    (cases_lt 4096 (length text))
