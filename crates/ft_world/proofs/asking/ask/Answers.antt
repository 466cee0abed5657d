use Rattle.std.proofs.Common.{subst, sym, ◌∙◌}
use Rattle.script_groups.specs.Acting.{IsSoundGroup}
use Rattle.script_groups.specs.Groups.{acted}
use Rattle.script_groups.specs.Lists.{same_some, some_at}
use Rattle.script_world.specs.Made.{has_turn, is_made}
use Rattle.std.proofs.lemmas.Option.{slice_get_within}
use Rattle.ft_world.proofs.RequestLemmas.{all_can_be_said, asks_short, asks_so, event_of, kept_on, stands_later}
use Rattle.ft_world.proofs.asking.ask.Goals as goal

pub event_at-requires-clause-may : goal.event_at-requires-clause-may
event_at-requires-clause-may l c = λ g at. record { host = c.requires.host; brought = c.requires.short }

pub said_by-requires : goal.said_by-requires
said_by-requires l c =
    let w = c.args.world.now in
    let at = some_at w.groups c.args.place c.requires.within in
    let clock = c.host_clock.result in
    let later = c.event_at.new.self in
    let event = event_of w later c.args.place at.0 c.args.host clock c.args.asked c.args.stop c.args.steps.now c.event_at.new.steps at.1 c.host_clock.ensures in
    let it = has_turn w c.args.place event c.event_at.result later c.args.steps.now c.event_at.new.steps c.in_default.not-NoMemory c.event_at.ensures.turn in
    let stands = stands_later w later c.args.place at.0 c.args.host clock c.args.asked c.args.stop c.args.steps.now c.event_at.new.steps at.1 c.host_clock.ensures c.event_at.result it in
    record {
      within = slice_get_within later.groups c.args.place (acted at.0 event) stands;
      kept = is_made c.event_at.result c.in_default.not-NoMemory c.event_at.ensures.kept;
    }

pub returns-in-NoMemory-clause-asks : goal.returns-in-NoMemory-clause-asks
returns-in-NoMemory-clause-asks l c = λ g at.
    asks_short c.args.world.now c.event_at.new.self c.args.place g c.args.host c.host_clock.result c.args.asked c.args.stop c.args.steps.now c.event_at.new.steps
    at c.host_clock.ensures c.in-NoMemory.ensures.turn

pub returns-in_default : goal.returns-in_default
returns-in_default l c = record {
  asks = λ g at.
      let w = c.args.world.now in
      let clock = c.host_clock.result in
      let later = c.event_at.new.self in
      let event = event_of w later c.args.place g c.args.host clock c.args.asked c.args.stop c.args.steps.now c.event_at.new.steps at c.host_clock.ensures in
      let it = has_turn w c.args.place event c.event_at.result later c.args.steps.now c.event_at.new.steps c.in_default.not-NoMemory c.event_at.ensures.turn in
      let stands = stands_later w later c.args.place g c.args.host clock c.args.asked c.args.stop c.args.steps.now c.event_at.new.steps at c.host_clock.ensures c.event_at.result it in
      asks_so w later c.args.place g c.args.host clock c.args.asked c.args.stop c.args.steps.now c.event_at.new.steps at c.host_clock.ensures
      c.gives_asked-gives.result c.event_at.result c.said_by.result it (c.gives_asked-gives.ensures g at) (c.said_by.ensures.said (acted g event) stands);
  can = λ g at.
      let w = c.args.world.now in
      let clock = c.host_clock.result in
      let later = c.event_at.new.self in
      let event = event_of w later c.args.place g c.args.host clock c.args.asked c.args.stop c.args.steps.now c.event_at.new.steps at c.host_clock.ensures in
      let it = has_turn w c.args.place event c.event_at.result later c.args.steps.now c.event_at.new.steps c.in_default.not-NoMemory c.event_at.ensures.turn in
      let stands = stands_later w later c.args.place g c.args.host clock c.args.asked c.args.stop c.args.steps.now c.event_at.new.steps at c.host_clock.ensures c.event_at.result it in
      all_can_be_said w later c.args.place g c.args.host clock c.args.asked c.args.stop c.args.steps.now c.event_at.new.steps at c.host_clock.ensures
      c.answers_are_in_form.ensures c.gives_asked-gives.result c.event_at.result c.said_by.result
      (subst IsSoundGroup (same_some c.group.result.now g (sym c.group.ensures ∙ at)) c.is_sound.ensures)
      (record { host = c.requires.host; brought = c.requires.short }) it (c.gives_asked-gives.ensures g at)
      (c.said_by.ensures.said (acted g event) stands) c.said_by.ensures.can (c.event_at.ensures.sent g at);
  kept = kept_on c.said_by.result (is_made c.event_at.result c.in_default.not-NoMemory c.event_at.ensures.kept);
}
