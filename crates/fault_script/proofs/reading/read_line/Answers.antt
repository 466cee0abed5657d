use Rattle.fault_script.proofs.LineLemmas.{answer_spelled, spelled_answer}
use Rattle.fault_script.proofs.reading.read_line.Goals as goal

pub returns-clause-form : goal.returns-clause-form
returns-clause-form c = answer_spelled c.args.text.now c.read_text.result c.read_text.ensures.answer

pub returns-clause-read : goal.returns-clause-read
returns-clause-read c = spelled_answer c.args.text.now c.read_text.result c.read_text.ensures.answer
