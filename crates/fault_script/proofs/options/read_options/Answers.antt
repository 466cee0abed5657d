use Rattle.std.proofs.Common.{◌≡◌, ◌∙◌, sym, None}
use Rattle.fault_script.specs.Options.{with_option}
use Rattle.fault_script.proofs.OptionLemmas.{with_options_stop}
use Rattle.fault_script.proofs.options.read_options.Goals as goal

pub returns-in-None : goal.returns-in-None
returns-in-None c =
    let refused : with_option c.word-item.result c.loop-word.options ≡ None = cc in
    sym (with_options_stop c.args.words.now c.loop-word.word-index c.word-item.result c.loop-word.options c.loop-word-test.true c.word-item.is refused)
    ∙ c.loop-word.invariant
