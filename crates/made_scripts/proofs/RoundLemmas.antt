-- One round more.
use Rattle.std.proofs.Common.{◌≡◌, ℕ, suc, ◌+◌, List, ◌++◌, append_assoc, arith, ap, ◌∙◌, sym}
use Rattle.std.proofs.lemmas.Grind.{flat_map-append}
use Rattle.report_words.specs.Words.{line}
use Rattle.made_scripts.specs.Lines.{text_of}
use Rattle.made_scripts.specs.Scripts.{drawn, next_drawn, round_lines, rounds_lines, sent_by_round, sent_in}

next_is : (n : ℕ) → n + 1 ≡ suc n
next_is n = omega arith

pub drawn_more : (seed n : ℕ) → drawn seed (n + 1) ≡ next_drawn (drawn seed n)
unfolding drawn
drawn_more seed n = ap (drawn seed) (next_is n)

pub sent_more : (seed n : ℕ) → sent_in seed (n + 1) ≡ sent_in seed n + sent_by_round n (drawn seed (n + 1))
unfolding sent_in
sent_more seed n =
    ap (sent_in seed) (next_is n) ∙ ap (λ (k : ℕ). sent_in seed n + sent_by_round n (drawn seed k)) (sym (next_is n))

pub lines_more : (seed n : ℕ) → rounds_lines seed (n + 1) ≡ rounds_lines seed n ++ round_lines n (drawn seed (n + 1)) (sent_in seed n)
unfolding rounds_lines
lines_more seed n =
    ap (rounds_lines seed) (next_is n) ∙ ap (λ (k : ℕ). rounds_lines seed n ++ round_lines n (drawn seed k) (sent_in seed n)) (sym (next_is n))

-- where the rounds stand after one more
pub one_round_more : (seed n last x sent added : ℕ) (before now after : List ℕ)
    → now ≡ before ++ text_of (rounds_lines seed n) → last ≡ drawn seed n → sent ≡ sent_in seed n
    → x ≡ next_drawn last → after ≡ now ++ text_of (round_lines n x sent) → added ≡ sent_by_round n x
    → (after ≡ before ++ text_of (rounds_lines seed (n + 1))) × (x ≡ drawn seed (n + 1)) × (sent + added ≡ sent_in seed (n + 1))
one_round_more seed n last x sent added before now after text_is last_is sent_is x_is after_is added_is =
    let draw : x ≡ drawn seed (n + 1) = x_is ∙ ap next_drawn last_is ∙ sym (drawn_more seed n) in
    let round = round_lines n x sent in
    let lines : rounds_lines seed n ++ round ≡ rounds_lines seed (n + 1) =
    ap (λ (k : ℕ). rounds_lines seed n ++ round_lines n k sent) draw
    ∙ ap (λ (k : ℕ). rounds_lines seed n ++ round_lines n (drawn seed (n + 1)) k) sent_is
    ∙ sym (lines_more seed n) in
    let text = after_is ∙ ap (λ (t : List ℕ). t ++ text_of round) text_is
    ∙ append_assoc before (text_of (rounds_lines seed n)) (text_of round)
    ∙ ap (λ (t : List ℕ). before ++ t) (sym (flat_map-append line (rounds_lines seed n) round) ∙ ap text_of lines) in
    let count = ap (λ (k : ℕ). k + added) sent_is
    ∙ ap (λ (k : ℕ). sent_in seed n + k) (added_is ∙ ap (sent_by_round n) draw) ∙ sym (sent_more seed n) in
    (text, draw, count)
