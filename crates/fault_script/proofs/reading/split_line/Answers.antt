use Rattle.std.proofs.Common.{◌∙◌, sym}
use Rattle.fault_script.proofs.CommentLemmas.{no_line_read}
use Rattle.fault_script.proofs.reading.split_line.Goals as goal

pub returns-then-is_comment-clause-answer : goal.returns-then-is_comment-clause-answer
returns-then-is_comment-clause-answer c =
    no_line_read c.args.text.now c.if-text-gt-LINE_LIMIT.false (sym c.is_comment.ensures ∙ c.if-is_comment.true)
