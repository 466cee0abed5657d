use Rattle.std.proofs.Common.{◌≡◌, List, [], ◌∷◌, ◌++◌, Some, sym, rules, inr, refl, ◌∙◌, ap}
use Rattle.fault_script.specs.Parts.{a_host, word_value}
use Rattle.fault_script.proofs.EachLemmas.{each-more, each-stop}
use Rattle.fault_script.proofs.forms.read_members.Goals as goal

pub returns-in_default : goal.returns-in_default
returns-in_default c =
    inr (refl, each-stop (word_value a_host) c.args.hosts.now c.loop-word.word-index _ c.loop-word-test.true (sym c.in_default.ensures))

pub loop-word-preserved : goal.loop-word-preserved
loop-word-preserved c =
    let pushed : c.push.new.self.items ≡ c.loop-word.numbers.items ++ c.in-Some.host ∷ [] = search rules in
    each-more (word_value a_host) c.args.hosts.now c.loop-word.word-index _ c.loop-word.numbers.items c.in-Some.host c.loop-word-test.true c.loop-word.invariant (sym c.in-Some.ensures)
    ∙ ap (λ (hosts : List _). Some hosts) (sym pushed)
