use Rattle.std.proofs.lemmas.Option.{slice_get_within}
use Rattle.ft_base.specs.declared.decisions.Stop.TheVariants.{Never}
use Rattle.script_groups.specs.Groups.{acted}
use Rattle.script_groups.specs.Lists.{some_at}
use Rattle.ft_world.specs.declared.asking.Said.TheVariants as saids
use Rattle.ft_world.specs.Passes.{lines_at}
use Rattle.ft_world.specs.Requests.{request_at}
use Rattle.ft_world.proofs.TurnLemmas.{counted_so, counts_so, kept_so, made, replied_so, sent_so, short_so, silent_so, stands_in}
use Rattle.ft_world.proofs.ports.ask_at.Goals as goal

pub replied-requires : goal.replied-requires
replied-requires l c =
    let w = c.args.world.now in
    let at = some_at w.groups c.args.place c.requires.within in
    let had = c.in-Ok.ensures.asks at.0 at.1 in
    record {
      within = slice_get_within c.ask.new.world.groups c.args.place (acted at.0 (request_at w c.args.host c.args.asked Never))
          (stands_in w c.args.place at.0 c.args.host c.args.asked c.in-Ok.said c.ask.new.world c.args.steps.now c.ask.new.steps had at.1);
      can = sent_so w c.args.place at.0 c.args.host c.args.asked c.in-Ok.said c.ask.new.world c.args.steps.now c.ask.new.steps had
          c.in-Reply.reply c.in-Reply.is at.1 (c.in-Ok.ensures.can at.0 at.1);
    }

pub returns-in-Reply : goal.returns-in-Reply
returns-in-Reply l c = record {
  turn = λ g at.
      let w = c.args.world.now in
      let had = c.in-Ok.ensures.asks g at in
      let stands = stands_in w c.args.place g c.args.host c.args.asked c.in-Ok.said c.ask.new.world c.args.steps.now c.ask.new.steps had at in
      replied_so w c.args.place g c.args.host c.args.asked c.in-Ok.said c.ask.new.world c.args.steps.now c.ask.new.steps had
      c.in-Reply.reply c.replied.result c.replied.new.world (lines_at c.args.printed.now.lines c.args.printed.now.orders) (lines_at c.replied.new.printed.lines c.replied.new.printed.orders) c.in-Reply.is
      (c.replied.ensures.turn (acted g (request_at w c.args.host c.args.asked Never)) _ stands);
  counts = λ g at.
      let w = c.args.world.now in
      counts_so (made w c.args.place g c.args.host c.args.asked) c.replied.result c.args.steps.now c.ask.new.steps
      (counted_so w c.args.place g c.args.host c.args.asked c.in-Ok.said c.ask.new.world c.args.steps.now c.ask.new.steps (c.in-Ok.ensures.asks g at));
  writable = c.replied.ensures.writable;
  kept = kept_so c.replied.result c.ask.new.world c.replied.new.world c.replied.ensures.groups c.in-Ok.ensures.kept;
}

pub returns-in-Stopped : goal.returns-in-Stopped
returns-in-Stopped l c = record {
  turn = λ g at.
      silent_so c.args.world.now c.args.place g c.args.host c.args.asked c.in-Ok.said c.ask.new.world c.args.steps.now c.ask.new.steps (c.in-Ok.ensures.asks g at)
      (saids.Stopped _) c.in-Stopped.is tt (lines_at c.args.printed.now.lines c.args.printed.now.orders);
  counts = λ g at.
      counted_so c.args.world.now c.args.place g c.args.host c.args.asked c.in-Ok.said c.ask.new.world c.args.steps.now c.ask.new.steps (c.in-Ok.ensures.asks g at);
  writable = record { reply = tt; can = λ order. tt };
  kept = c.in-Ok.ensures.kept;
}

pub returns-in-Down : goal.returns-in-Down
returns-in-Down l c = record {
  turn = λ g at.
      silent_so c.args.world.now c.args.place g c.args.host c.args.asked c.in-Ok.said c.ask.new.world c.args.steps.now c.ask.new.steps (c.in-Ok.ensures.asks g at)
      saids.Down c.in-Down.is tt (lines_at c.args.printed.now.lines c.args.printed.now.orders);
  counts = λ g at.
      counted_so c.args.world.now c.args.place g c.args.host c.args.asked c.in-Ok.said c.ask.new.world c.args.steps.now c.ask.new.steps (c.in-Ok.ensures.asks g at);
  writable = record { reply = tt; can = λ order. tt };
  kept = c.in-Ok.ensures.kept;
}

pub returns-in-Err-clause-counts : goal.returns-in-Err-clause-counts
returns-in-Err-clause-counts l c = λ g at.
    short_so c.args.world.now c.args.place g c.args.host c.args.asked c.args.steps.now c.ask.new.steps (c.in-Err.ensures.asks g at)
