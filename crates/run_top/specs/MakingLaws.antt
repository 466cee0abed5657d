-- An overlong line of a made script is refused, however it goes on.
use Rattle.std.specs.Prelude.{◌≡◌, ℕ, ◌<◌, ◌≤◌, List, length, take}
use Rattle.std.proofs.Common.{sym, ap, ◌∙◌, ⊎_elim, arith}
use Rattle.std.proofs.lemmas.List.{take_all, length-take}
use Rattle.std.proofs.lemmas.Bool.{cases_lt}
use Rattle.run_top.specs.Making.{Tally, rules, tallied}
use Rattle.run_top.specs.Playing.{effect_of}
use Rattle.run_top.specs.PlayingLaws.{long}

pub alike : (t : Tally) (text : List ℕ) → rules.effect t text ≡ rules.effect t (take 4097 text)
alike t text =
    ⊎_elim
    (λ (h : 4096 < length text).
    ap (λ r. tallied t text (effect_of t.world r)) (long text h)
    ∙ sym (ap (λ r. tallied t (take 4097 text) (effect_of t.world r)) (long (take 4097 text) (omega (arith, length-take 4097 text)))))
    (λ (h : length text ≤ 4096). sym (ap (λ (xs : List ℕ). rules.effect t xs) (take_all 4097 text (omega arith))))
    (cases_lt 4096 (length text))
