use Rattle.std.proofs.Common.{◌∙◌, map, string_bytes, sym}
use Rattle.clap.specs.Words.{app_of}
use Rattle.clap.proofs.WalkLemmas.{list_any-map}
use Rattle.live_words.specs.Words.{is_end}
use Rattle.live_words.proofs.Forms.{ended_form, failed_form, parsed_form}
use Rattle.live_words.proofs.asking.read_live.Goals as goal

pub returns-then-has_end : goal.returns-then-has_end
returns-then-has_end c = λ live.
    ended_form (map string_bytes c.args.words.now) live (sym (list_any-map is_end string_bytes c.args.words.now) ∙ sym c.has_end.ensures ∙ c.if-has_end.true)

pub returns-in-Ok : goal.returns-in-Ok
returns-in-Ok c = λ live.
    parsed_form (map string_bytes c.args.words.now) live (app_of c.in_ok-command.command) c.asked_by.result c.in-Ok.matches
    (sym (list_any-map is_end string_bytes c.args.words.now) ∙ sym c.has_end.ensures ∙ c.if-has_end.false) c.in_ok-command.ensures c.in-Ok.ensures.kinds c.in-Ok.ensures.matches
    (c.asked_by.ensures live)

pub returns : goal.returns
returns c = λ live.
    failed_form (map string_bytes c.args.words.now) live (app_of c.in_ok-command.command) c.in-Err.error c.in_ok-command.ensures c.in-Err.ensures.kinds
    (λ memory. c.in_default.not-OutOfMemory (c.kind.ensures ∙ memory))
