use Rattle.std.proofs.Common.{rules, map}
use Rattle.std.specs.Prelude.{string_bytes}
use Rattle.live_top.specs.Headline.{AsksFor}
use Rattle.live_top.proofs.Endings.{form_kept}
use Rattle.live_top.proofs.runs.ftc_live.Goals as goal

pub returns-in-Err-Bind : goal.returns-in-Err-Bind
returns-in-Err-Bind g c =
    let words = map string_bytes c.args.words.now in
    let live = c.in-Ok-Some.live in
    let asks : AsksFor words live = (c.in-Ok-Some.ensures.asked live).0 (search rules) in
    record {
      run = record {
        statuses = search rules;
        usage = λ _. form_kept words live _ asks (search rules);
        printed = search rules;
        cut = search rules;
        early = search rules;
        unused = search rules;
        counts = search rules;
        told = search rules;
        silent = search rules;
      };
    }

pub returns-in-Err-Thread : goal.returns-in-Err-Thread
returns-in-Err-Thread g c =
    let words = map string_bytes c.args.words.now in
    let live = c.in-Ok-Some.live in
    let asks : AsksFor words live = (c.in-Ok-Some.ensures.asked live).0 (search rules) in
    record {
      run = record {
        statuses = search rules;
        usage = λ _. form_kept words live _ asks (search rules);
        printed = search rules;
        cut = search rules;
        early = search rules;
        unused = search rules;
        counts = search rules;
        told = search rules;
        silent = search rules;
      };
    }

pub returns-in-All : goal.returns-in-All
returns-in-All g c =
    let words = map string_bytes c.args.words.now in
    let live = c.in-Ok-Some.live in
    let asks : AsksFor words live = (c.in-Ok-Some.ensures.asked live).0 (search rules) in
    record {
      run = record {
        statuses = search rules;
        usage = λ _. form_kept words live _ asks (search rules);
        printed = λ _. record { live = live; asked = asks; text = c.in-Ok.text.items; of_run = c.in-Ok.ensures.text; output = search rules };
        cut = search rules;
        early = search rules;
        unused = search rules;
        counts = search rules;
        told = search rules;
        silent = search rules;
      };
    }

pub returns : goal.returns
returns g c =
    let words = map string_bytes c.args.words.now in
    let live = c.in-Ok-Some.live in
    let asks : AsksFor words live = (c.in-Ok-Some.ensures.asked live).0 (search rules) in
    record {
      run = record {
        statuses = search rules;
        usage = λ _. form_kept words live _ asks (search rules);
        printed = search rules;
        cut = λ _. record { live = live; asked = asks; text = c.in-Ok.text.items; of_run = c.in-Ok.ensures.text; output = search rules };
        early = search rules;
        unused = search rules;
        counts = search rules;
        told = search rules;
        silent = search rules;
      };
    }
