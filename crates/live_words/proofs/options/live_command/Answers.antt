use Rattle.live_words.proofs.OptionLemmas.{option_more}
use Rattle.live_words.proofs.options.live_command.Goals as goal

pub loop-name-preserved : goal.loop-name-preserved
loop-name-preserved c =
    option_more _ c.loop-name.name-index _ _ _ _ c.loop-name-test.true c.loop-name.invariant c.option.ensures.rule (c.in-Ok.ensures.shape c.option.ensures.own)
