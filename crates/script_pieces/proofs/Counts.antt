-- How many lines of some bytes have their LF.
use Rattle.std.proofs.Common.{◌≡◌, ℕ, ◌+◌, Bool, true, false, cond, List, [], ◌∷◌, ◌++◌, length, refl, arith}
use Rattle.std.specs.Prelude.{◌==◌}
use Rattle.script_pieces.specs.Runs.{whole_lines, before_whole}
use Rattle.script_pieces.specs.Feeds.{IsInLine, line_ends}

as_many : (b : ℕ) (lines : List (List ℕ)) → length (before_whole b lines) ≡ length lines
as_many b [] = refl
as_many b (line ∷ lines) = refl

one_byte : (b : ℕ) (ends : Bool) (ls ms : List (List ℕ)) (n : ℕ) → length ms ≡ length ls + n
    → length (cond ends ((10 ∷ []) ∷ ms) (before_whole b ms)) ≡ length (cond ends ((10 ∷ []) ∷ ls) (before_whole b ls)) + n
one_byte b true ls ms n e = omega (arith, e)
one_byte b false ls ms n e = omega (arith, e, as_many b ls, as_many b ms)

pub ends_more : (xs ys : List ℕ) → line_ends (xs ++ ys) ≡ line_ends xs + line_ends ys
ends_more [] ys = omega arith
ends_more (b ∷ xs) ys = one_byte b (b == 10) (whole_lines xs) (whole_lines (xs ++ ys)) (line_ends ys) (ends_more xs ys)

pub no_end : (text : List ℕ) → IsInLine text → line_ends text ≡ 0
no_end [] h = refl
no_end (b ∷ text) h = rw h.0 (omega (arith, as_many b (whole_lines text), no_end text h.1))

pub one_end : (text : List ℕ) → IsInLine text → line_ends (text ++ 10 ∷ []) ≡ 1
one_end text h =
    let last : line_ends (10 ∷ []) ≡ 1 = refl in
    omega (arith, ends_more text (10 ∷ []), no_end text h, last)
