use Rattle.std.proofs.Common.{rules, ◌≡◌, Some, subst}
use Rattle.script_pieces.specs.Feeds.{IsGain}
use Rattle.script_pieces.specs.Runs.{run}
use Rattle.script_pieces.specs.Scripts.{bytes_read}
use Rattle.script_world.specs.World.{World}
use Rattle.run_ends.specs.Ends.{IsTold}
use Rattle.run_top.specs.Playing as playing
use Rattle.run_top.proofs.EndLemmas.{nothing_is_prefix, refusal_status, told_refusal, where_known, where_told, whole_is_prefix}
use Rattle.run_top.proofs.runs.ftc_run.Goals as goal

pub returns-in_default-new : goal.returns-in_default-new
returns-in_default-new g c = record {
  run = record {
    statuses = search rules;
    usage = search rules;
    script = λ is_run. record {
      done = search rules;
      at_end = search rules;
      settled = search rules;
      unread = search rules;
      broken = λ _. where_known (g.A.Source.left c.args.input.now) _ (record { output = nothing_is_prefix _ _; calls = search rules });
    };
    made = search rules;
    faults = search rules;
  };
}

pub returns-in-Done : goal.returns-in-Done
returns-in-Done g c = record {
  run = record {
    statuses = search rules;
    usage = search rules;
    script = λ is_run. record {
      done = λ _. where_told (g.A.Source.left c.args.input.now) _ _ c.in-Done.ensures.told (λ over. record {
        answer = search rules;
        output = search rules;
        errors = search rules;
        calls = search rules;
      });
      at_end = search rules;
      settled = search rules;
      unread = search rules;
      broken = search rules;
    };
    made = search rules;
    faults = search rules;
  };
}

pub returns-in-Refused : goal.returns-in-Refused
returns-in-Refused g c =
    let number = c.in-Refused.number in
    let why = c.in-Refused.why in
    let bytes = bytes_read (g.A.Source.left c.args.input.now) (g.A.Source.left c.run_script-end_of_run.new.input) in
    record {
      run = record {
        statuses = search rules;
        usage = search rules;
        script = λ is_run. record {
          done = λ ended. where_told (g.A.Source.left c.args.input.now) _ _ c.in-Refused.ensures.told (λ over.
              let refused = subst (λ (w : World). (run playing.rules w bytes).refused ≡ Some (number, why)) c.in-Ok.ensures over.0.0 in
              record {
                answer = refusal_status c.refuse.result number why _ c.refuse.ensures.status refused ended;
                output = search rules;
                errors = told_refusal c.refuse.result number why _
                    (λ text. IsTold (g.E.Sink.holds c.args.err.now) (g.E.Sink.holds c.refuse.new.err) (g.E.Sink.count c.args.err.now) (g.E.Sink.count c.refuse.new.err) text)
                    c.refuse.ensures.status c.refuse.ensures.refused refused ended;
                calls = search rules;
              });
          at_end = search rules;
          settled = search rules;
          unread = search rules;
          broken = λ _. where_told (g.A.Source.left c.args.input.now) _ _ c.in-Refused.ensures.told (λ over. record {
            output = whole_is_prefix _ _ _ (subst (λ (w : World). IsGain (g.B.Sink.holds c.args.out.now) (g.B.Sink.holds c.run_script-end_of_run.new.out) (run playing.rules w bytes).out) c.in-Ok.ensures over.0.1.0);
            calls = search rules;
          });
        };
        made = search rules;
        faults = record {
          read_fault = search rules;
          no_read_fault = search rules;
          write_fault = search rules;
          no_write_fault = search rules;
          text = record { usage = search rules; read = search rules; written = search rules; memory = search rules; bound = search rules; started = search rules };
          untouched = search rules;
        };
      };
    }

pub returns-in-WriteFailed : goal.returns-in-WriteFailed
returns-in-WriteFailed g c = record {
  run = record {
    statuses = search rules;
    usage = search rules;
    script = λ is_run. record {
      done = search rules;
      at_end = search rules;
      settled = search rules;
      unread = search rules;
      broken = λ _. where_told (g.A.Source.left c.args.input.now) _ _ c.in-WriteFailed.ensures.told (λ over. record {
        output = search rules;
        calls = search rules;
      });
    };
    made = search rules;
    faults = search rules;
  };
}
