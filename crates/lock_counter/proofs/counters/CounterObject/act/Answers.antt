use Rattle.lock_counter.proofs.CountLemmas.{counts-push}
use Rattle.lock_counter.proofs.counters.CounterObject.act.Goals as goal

pub returns : goal.returns
returns c = λ opening calls counts _. counts-push opening.value c.args.self.now.value c.args.event calls counts
