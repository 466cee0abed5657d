use Rattle.std.proofs.Common.{◌≡◌, ◌+◌, ◌-◌, ◌%◌, ◌∙◌, sym, ap, arith}
use Rattle.std.proofs.Math.Nat.{add-mod-mod, mod-add-mod, mod-lt, mod_self}
use Rattle.cdr_codec.proofs.laws.padding_leads_to_multiples.Goals as goal

pub returns-clause-multiple : goal.returns-clause-multiple
returns-clause-multiple c = λ place size some.
    let over = place % size in
    let whole : over + (size - over) ≡ size = omega (arith, mod-lt place some) in
    add-mod-mod place (size - over) size ∙ sym (mod-add-mod place size (size - over)) ∙ ap (λ n. n % size) whole ∙ mod_self size
