use Rattle.std.proofs.Common.{◌∙◌, ap}
use Rattle.live_run.specs.Runs.{account}
use Rattle.live_top.specs.Texts.{live_text}
use Rattle.live_top.proofs.runs.run_text.Goals as goal

pub returns-in-Ok-live_text-clause-text : goal.returns-in-Ok-live_text-clause-text
returns-in-Ok-live_text-clause-text g c =
    let run = c.in-Ok.ensures.run in
    let last = run.group.last in
    record {
      tolds = c.in-Ok.end.tolds.items;
      core = c.in-Ok.end.core;
      run = run;
      is = c.in-Ok-live_text.ensures last run.group.stands ∙ ap (live_text (account last.common.kind) last) c.as_slice.ensures.value;
    }
